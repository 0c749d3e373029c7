-- What a run told, as what its sink took.
use Rattle.std.proofs.Common.{◌≡◌, ℕ, List, [], ◌∷◌, ◌++◌, Option, None, Some, refl, sym, ◌∙◌, ap, inl, inr, subst, append_assoc}
use Rattle.std.proofs.lemmas.List.{append-nil}
use Rattle.pre_base.specs.declared.numbers.ArcId.{ArcId}
use Rattle.pre_base.specs.Told.{WhereTold, WhereTold-join, StillTells}
use Rattle.pre_base.specs.Sinks.{Taken}
use Rattle.pre_topo.specs.declared.network.Network.{Network}
use Rattle.pre_history.specs.Scenario.{Scenario}
use Rattle.pre_history.specs.History.{PlainEvent, History}
use Rattle.pre_history.specs.Written.{IsWritten, AreWritten}
use Rattle.pre_history.proofs.WrittenEvents.{IsWritten-of, AreWritten-of}
use Rattle.pre_trace.specs.Text.{line, text}
use Rattle.pre_trace.specs.Watching.{HoldsText, HoldsTorn}
use Rattle.pre_history.specs.Deliveries.{DeliversOnce}
use Rattle.pre_history.specs.Legal.{Legal, LegalBefore}
use Rattle.pre_sim.specs.declared.runs.Step.{Step}
use Rattle.pre_sim.specs.declared.runs.Step.TheVariants.{More, Ended, Alias, Stopped}
use Rattle.pre_sim.specs.Parts.{IsFrontOfLegal}
use Rattle.pre_sim.specs.Telling.{TellsAll}
use Rattle.pre_sim.specs.Views.{SimView, HasTold}
use Rattle.pre_sim.specs.Steps.{StepTells}
use Rattle.pre_history.specs.Placed.{moment_of}
use Rattle.pre_history.specs.Moments.{Phase}
use Rattle.pre_cli.specs.Written.{TakesText, IsBeforeAlias, TakesTextBefore, TakesTraceBefore, IsLegalSoFar, TakesTextFront}
use Rattle.pre_cli.specs.declared.statuses.Status.{Status}
use Rattle.pre_cli.specs.declared.statuses.Status.TheVariants as status
use Rattle.pre_cli.specs.Runs.{RunLeaves, RunComesTo, RunEnds, FlushEnds}

text-append : (net : Network) (g h : History) → text net (g ++ h) ≡ text net g ++ text net h
text-append net [] h = refl
text-append net (e ∷ g) h = ap (λ (l : List ℕ). line net e ++ l) (text-append net g h) ∙ sym (append_assoc (line net e) (text net g) (text net h))

-- what was told is what the sink took
taken : (net : Network) (x y : Taken) (es : History) → TellsAll net (HoldsText net (Some x)) (HoldsText net (Some y)) es → y.octets ≡ x.octets ++ text net es
taken net x y es told = told.1 x.octets [] (λ _. sym (append-nil x.octets)) (AreWritten-of net es told.0)

-- legal histories deliver what was sent, once
pub record DeliverOnce (w : Scenario) : Type 0 where
  pub whole : (h : History) → Legal w h → DeliversOnce w h
  pub so_far : (n : ℕ) (h : History) → LegalBefore w h n → DeliversOnce w h

delivers : (w : Scenario) → DeliverOnce w → (h : History) → IsLegalSoFar w h → DeliversOnce w h
delivers w once h (inl legal) = once.whole h legal
delivers w once h (inr (n, legal)) = once.so_far n h legal

module _ (w : Scenario) (once : DeliverOnce w) where
  whole_text : (a b : Option Taken) → StillTells a b → (es : History) → TellsAll w.net (HoldsText w.net a) (HoldsText w.net b) es → Legal w es → WhereTold a b (TakesText w)
  whole_text None None still es told legal = tt
  whole_text None (Some y) still es told legal = absurd still
  whole_text (Some x) None still es told legal = absurd still
  whole_text (Some x) (Some y) still es told legal = (es, legal, once.whole es legal, told.0, taken w.net x y es told)

  torn_text : (a b : Option Taken) → StillTells a b → (es : History) (e : PlainEvent) → AreWritten w.net es → IsWritten w.net e
      → ((base : List ℕ) (h : History) → HoldsText w.net a base h → HoldsTorn w.net b base (h ++ es) e) → IsFrontOfLegal w (es ++ e ∷ []) → WhereTold a b (TakesTextFront w)
  torn_text None None still es e all one torn front = tt
  torn_text None (Some y) still es e all one torn front = absurd still
  torn_text (Some x) None still es e all one torn front = absurd still
  torn_text (Some x) (Some y) still es e all one torn (more, so_far) =
      let t = torn x.octets [] (λ _. sym (append-nil x.octets)) (AreWritten-of w.net es all) (IsWritten-of w.net e one) in
      let begun = t.0 in
      let rest = t.1 in (
        (es ++ e ∷ []) ++ more,
        rest ++ text w.net more,
        so_far,
        delivers w once ((es ++ e ∷ []) ++ more) so_far,
        (
          text w.net es ++ begun,
          text-append w.net (es ++ e ∷ []) more
              ∙ (ap (λ (l : List ℕ). l ++ text w.net more) (text-append w.net es (e ∷ []) ∙ ap (λ (l : List ℕ). text w.net es ++ l) (append-nil (line w.net e) ∙ t.2))
              ∙ whole (text w.net es) begun rest (text w.net more)),
          t.3 ∙ append_assoc x.octets (text w.net es) begun,
        ),
      )
    where
      whole : (p q r s : List ℕ) → (p ++ (q ++ r)) ++ s ≡ (p ++ q) ++ (r ++ s)
      whole p q r s = ap (λ (l : List ℕ). l ++ s) (sym (append_assoc p q r)) ∙ append_assoc (p ++ q) r s

  -- what was told before the first alias
  text_before : (a b : Option Taken) → StillTells a b → (arc ordinal : ℕ) (es : History) → TellsAll w.net (HoldsText w.net a) (HoldsText w.net b) es → IsBeforeAlias w arc ordinal es → WhereTold a b (TakesTextBefore w arc ordinal)
  text_before None None still arc ordinal es told before = tt
  text_before None (Some y) still arc ordinal es told before = absurd still
  text_before (Some x) None still arc ordinal es told before = absurd still
  text_before (Some x) (Some y) still arc ordinal es told before =
      (es, before, once.so_far (moment_of w before.0 (Phase.arrivals arc)) es before.1.2, told.0, taken w.net x y es told)

  module _ (s u : SimView) (same : s.run ≡ w) (begun : HasTold s []) where
    pub run_leaves : (step : Step) (a b : Option Taken) → StillTells a b → (step ≡ More → ⊥) → StepTells s step u (HoldsText w.net a) (HoldsText w.net b) (HoldsTorn w.net b) → RunLeaves w step a b
    run_leaves More a b still last told = absurd (last refl)
    run_leaves Ended a b still last (es, told, ends) =
        let legal : Legal w es = subst (λ (v : Scenario). Legal v es) same (ends [] begun) in
        whole_text a b still es (subst (λ (v : Scenario). TellsAll v.net (HoldsText w.net a) (HoldsText w.net b) es) same told) legal
    run_leaves (Alias arc ordinal) a b still last (es, told, first) =
        let before : IsBeforeAlias w arc.0 ordinal es = subst (λ (v : Scenario). IsBeforeAlias v arc.0 ordinal es) same (first [] begun) in
        text_before a b still arc.0 ordinal es (subst (λ (v : Scenario). TellsAll v.net (HoldsText w.net a) (HoldsText w.net b) es) same told) before
    run_leaves Stopped a b still last (es, e, all, one, torn, front) =
        torn_text a b still es e (subst (λ (v : Scenario). AreWritten v.net es) same all) (subst (λ (v : Scenario). IsWritten v.net e) same one) torn (subst (λ (v : Scenario). IsFrontOfLegal v (es ++ e ∷ [])) same (front [] begun))

-- a run comes to what its last step says, whatever its watcher holds
module _ (w : Scenario) (s u : SimView) (same : s.run ≡ w) (begun : HasTold s []) where
  pub run_comes : (step : Step) (a b : List ℕ → History → Type 0) (torn : List ℕ → History → PlainEvent → Type 0) → (step ≡ More → ⊥) → StepTells s step u a b torn → RunComesTo w step
  run_comes More a b torn last told = absurd (last refl)
  run_comes Ended a b torn last (es, told, ends) = (es, subst (λ (v : Scenario). Legal v es) same (ends [] begun))
  run_comes (Alias arc ordinal) a b torn last (es, told, first) = (es, subst (λ (v : Scenario). IsBeforeAlias v arc.0 ordinal es) same (first [] begun))
  run_comes Stopped a b torn last told = tt

-- ---- passed on

-- what was told before the first alias is a front
before_front : (w : Scenario) (arc ordinal : ℕ) (a b : Taken) → TakesTextBefore w arc ordinal a b → TakesTextFront w a b
before_front w arc ordinal a b (h, first, once, written, octets) =
    (h, [], inr (moment_of w first.0 (Phase.arrivals arc), first.1.2), once, (text w.net h, sym (append-nil (text w.net h)), octets))

pub flushed_before : (w : Scenario) (arc : ArcId) (ordinal : ℕ) (s : Status) (a b d : Option Taken) (before now : ℕ) → WhereTold a b (TakesTextBefore w arc.0 ordinal) → FlushEnds (status.Alias arc ordinal) s b d before now → RunEnds w s a d
flushed_before w arc ordinal s a b d before now took (inl (is, told, later)) =
    subst (λ t. RunEnds w t a d) (sym is) (WhereTold-join a b d _ _ (TakesTraceBefore w arc.0 ordinal) (λ x y z p q. (still x y z p q.0, q.1)) took told)
  where
    still : (x y z : Taken) → TakesTextBefore w arc.0 ordinal x y → z.octets ≡ y.octets → TakesTextBefore w arc.0 ordinal x z
    still x y z (h, first, once, written, octets) same = (h, first, once, written, same ∙ octets)
flushed_before w arc ordinal s a b d before now took (inr (is, told, later, rose)) =
    subst (λ t. RunEnds w t a d) (sym is) (WhereTold-join a b d _ _ (TakesTextFront w) (λ x y z p q. front x y z (before_front w arc.0 ordinal x y p) q) took told)
  where
    front : (x y z : Taken) → TakesTextFront w x y → z.octets ≡ y.octets → TakesTextFront w x z
    front x y z (h, rest, legal, once, begun) same = (h, rest, legal, once, (begun.0, begun.1, same ∙ begun.2))
