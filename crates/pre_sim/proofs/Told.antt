-- Lemmas: what was told by two steps in a row.
use Rattle.std.proofs.Common.{◌≡◌, ℕ, List, [], ◌∷◌, ◌++◌, refl, sym, ◌∙◌, ap, subst, append_assoc}
use Rattle.std.proofs.lemmas.List.{append-nil}
use Rattle.pre_topo.specs.declared.network.Network.{Network}
use Rattle.pre_history.specs.Scenario.{Scenario}
use Rattle.pre_history.specs.History.{PlainEvent, History}
use Rattle.pre_history.specs.Written.{IsWritten, AreWritten}
use Rattle.pre_history.proofs.WrittenEvents.{AreWritten-append}
use Rattle.pre_history.specs.Legal.{Legal, FirstAliasAt}
use Rattle.pre_sim.specs.Telling.{TellsAll}
use Rattle.pre_sim.specs.Parts.{IsFrontOfLegal}
use Rattle.pre_sim.specs.Views.{SimView, HasTold}
use Rattle.pre_sim.specs.declared.runs.Step.{Step}
use Rattle.pre_sim.specs.declared.runs.Step.TheVariants as step
use Rattle.pre_sim.specs.Steps.{StepTells}

abbrev pub Takes : Type 1
Takes = List ℕ → History → Type 0

abbrev pub Fails : Type 1
Fails = List ℕ → History → PlainEvent → Type 0

-- nothing was told
pub tells_nothing : (net : Network) (took : Takes) → TellsAll net took took []
tells_nothing net took = (tt, λ base h t. subst (took base) (sym (append-nil h)) t)

-- some events after others
pub tells_then : (net : Network) (a b c : Takes) (es fs : History) → TellsAll net a b es → TellsAll net b c fs → TellsAll net a c (es ++ fs)
tells_then net a b c es fs p q = (AreWritten-append net es fs p.0 q.0, λ base h t. subst (c base) (append_assoc h es fs) (q.1 base (h ++ es) (p.1 base h t)))

-- steps so far, with no end
abbrev pub GoesOnFrom : SimView → SimView → Takes → Takes → Type 0
GoesOnFrom first now a b = (es : History) × TellsAll first.run.net a b es × (now.run ≡ first.run) × ((h : History) → HasTold first h → HasTold now (h ++ es))

pub goes_nowhere : (s : SimView) (a : Takes) → GoesOnFrom s s a a
goes_nowhere s a = ([], tells_nothing s.run.net a, refl, λ h told. subst (HasTold s) (sym (append-nil h)) told)

-- a step after others
pub step_then : (s t u : SimView) (answer : Step) (a b c : Takes) (torn : Fails) → GoesOnFrom s t a b → StepTells t answer u b c torn → StepTells s answer u a c torn
step_then s t u step.More a b c torn (es, told, same, goes) q = (
  es ++ q.0,
  tells_then s.run.net a b c es q.0 told (subst (λ (w : Scenario). TellsAll w.net b c q.0) same q.1),
  λ h has. subst (HasTold u) (append_assoc h es q.0) (q.2 (h ++ es) (goes h has)),
)
step_then s t u step.Ended a b c torn (es, told, same, goes) q = (
  es ++ q.0,
  tells_then s.run.net a b c es q.0 told (subst (λ (w : Scenario). TellsAll w.net b c q.0) same q.1),
  λ h has. subst (λ (w : Scenario). Legal w (h ++ (es ++ q.0))) same (subst (Legal t.run) (append_assoc h es q.0) (q.2 (h ++ es) (goes h has))),
)
step_then s t u (step.Alias arc ordinal) a b c torn (es, told, same, goes) q = (
  es ++ q.0,
  tells_then s.run.net a b c es q.0 told (subst (λ (w : Scenario). TellsAll w.net b c q.0) same q.1),
  λ h has. subst (λ (w : Scenario). (tick : ℕ) × FirstAliasAt w (h ++ (es ++ q.0)) tick arc.0 ordinal) same
      (subst (λ g. (tick : ℕ) × FirstAliasAt t.run g tick arc.0 ordinal) (append_assoc h es q.0) (q.2 (h ++ es) (goes h has))),
)
step_then s t u step.Stopped a b c torn (es, told, same, goes) q =
    let all : AreWritten s.run.net q.0 = subst (λ (w : Scenario). AreWritten w.net q.0) same q.2 in
    let one : IsWritten s.run.net q.1 = subst (λ (w : Scenario). IsWritten w.net q.1) same q.3 in (
      es ++ q.0,
      q.1,
      AreWritten-append s.run.net es q.0 told.0 all,
      one,
      λ base h took. subst (λ g. torn base g q.1) (append_assoc h es q.0) (q.4 base (h ++ es) (told.1 base h took)),
      λ h has. subst (λ (w : Scenario). IsFrontOfLegal w (h ++ ((es ++ q.0) ++ q.1 ∷ []))) same
          (subst (IsFrontOfLegal t.run) (whole h es q.0 (q.1 ∷ [])) (q.5 (h ++ es) (goes h has))),
    )
  where
    whole : (x y z u : History) → (x ++ y) ++ (z ++ u) ≡ x ++ ((y ++ z) ++ u)
    whole x y z u = append_assoc x y (z ++ u) ∙ ap (λ k. x ++ k) (sym (append_assoc y z u))

-- steps so far and one more
pub goes_further : (s t u : SimView) (a b c : Takes) (torn : Fails) → GoesOnFrom s t a b → u.run ≡ t.run → StepTells t step.More u b c torn → GoesOnFrom s u a c
goes_further s t u a b c torn p kept q = let both = step_then s t u step.More a b c torn p q in (both.0, both.1, kept ∙ p.2, both.2)
