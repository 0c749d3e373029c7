-- What a step tells, by what its tick told.
use Rattle.std.proofs.Common.{ℕ, ◌≡◌, ◌+◌, ◌≤◌, Bool, true, false, List, [], ◌∷◌, ◌++◌, length, sym, ◌∙◌, ap, inl, inr, arith, subst, Err}
use Rattle.std.specs.Prelude.{◌↔◌, IsTrue, option_map}
use Rattle.std.proofs.lemmas.Bool.{cases_eq, false≢true}
use Rattle.pre_base.specs.declared.numbers.Tick.{Tick}
use Rattle.pre_sim.specs.Keeps.{IsKept, AreReady}
use Rattle.pre_sim.specs.declared.lanes.Lane.{Lane}
use Rattle.pre_sim.specs.Reach.{AllFit, IsWithin}
use Rattle.pre_sim.specs.Resting.{RestsUntil}
use Rattle.pre_links.proofs.Ready.{before_later}
use Rattle.pre_sim.proofs.RestingTicks.{rests_to}
use Rattle.pre_history.specs.Scenario.{Scenario}
use Rattle.pre_history.specs.History.{PlainEvent, History}
use Rattle.pre_history.specs.Written.{IsWritten, AreWritten}
use Rattle.pre_history.specs.Legal.{Legal, FirstAliasAt}
use Rattle.pre_base.specs.declared.numbers.ArcId.{ArcId}
use Rattle.pre_sim.specs.declared.runs.Step.TheVariants as step
use Rattle.pre_sim.specs.declared.ticks.Progress.{Progress}
use Rattle.pre_sim.specs.declared.halts.Halt.{Halt}
use Rattle.pre_sim.specs.declared.halts.Halt.TheVariants.{Stopped, Alias}
use Rattle.pre_sim.specs.Telling.{TellsAll}
use Rattle.pre_sim.specs.Stands.{Reaches}
use Rattle.pre_sim.specs.Parts.{TellsPart, TickPart, AdvancePart, AdvanceFront, CarriesAlias, IsFrontOfLegal}
use Rattle.pre_sim.specs.Views.{SimView, HasTold}
use Rattle.pre_sim.specs.Steps.{StepTells}
use Rattle.pre_sim.proofs.Told.{Takes, Fails}

-- what reaches the next tick has told its events
pub has_told : (s : SimView) (h : History) → Reaches s.run s.next 0 h s.progress → HasTold s h
has_told s h r = record { legal = r.legal; reaches = r }

module _ (s v u : SimView) (same : s ≡ v) (a b : Takes) (torn : Fails) where
  pub tells_more : AllFit v.run.net v.run.streams v.run.script → length u.progress.lanes.items ≡ length v.run.net.arcs → u.run ≡ v.run → v.next + 1 ≤ u.next
      → RestsUntil v.run (v.next + 1) u.next u.progress → (last : Bool) → last ≡ false → (es : History) × TellsAll v.run.net a b es
      × AdvancePart v.run v.next v.progress u.progress last es → StepTells s step.More u a b torn
  tells_more fit many kept later rests last is (es, told, any) =
      let part : TickPart v.run v.next v.progress u.progress es = subst (λ x. AdvancePart v.run v.next v.progress u.progress x es) is any in
      subst (λ (x : SimView). (es : History) × TellsAll x.run.net a b es × ((h : History) → HasTold x h → HasTold u (h ++ es))) (sym same) (
        es,
        told,
        λ h has. has_told u (h ++ es) (subst (λ (w : Scenario). Reaches w u.next 0 (h ++ es) u.progress) (sym kept)
            (rests_to v.run fit (h ++ es) u.progress many (v.next + 1) u.next later rests (part h has.reaches))),
      )

  pub tells_ended : (new : Progress) (last : Bool) → last ≡ true → (es : History) × TellsAll v.run.net a b es × AdvancePart v.run v.next v.progress new last es → StepTells s step.Ended u a b torn
  tells_ended new last is (es, told, any) =
      let part : AdvancePart v.run v.next v.progress new true es = subst (λ x. AdvancePart v.run v.next v.progress new x es) is any in
      subst (λ (x : SimView). (es : History) × TellsAll x.run.net a b es × ((h : History) → HasTold x h → Legal x.run (h ++ es))) (sym same) (es, told, λ h has. part h has.reaches)

  pub tells_alias : (arc : ArcId) (ordinal : ℕ) → (es : History) × TellsAll v.run.net a b es × CarriesAlias v.run v.next 0 v.progress arc.0 ordinal es → StepTells s (step.Alias arc ordinal) u a b torn
  tells_alias arc ordinal (es, told, alias) =
      subst (λ (x : SimView). (es : History) × TellsAll x.run.net a b es × ((h : History) → HasTold x h → (tick : ℕ) × FirstAliasAt x.run (h ++ es) tick arc.0 ordinal)) (sym same)
      (es, told, λ h has. (v.next, alias h has.reaches))

  pub tells_torn : ((es : History) × (e : PlainEvent) × AreWritten v.run.net es × IsWritten v.run.net e × ((base : List ℕ) (h : History) → a base h → torn base (h ++ es) e)
      × AdvanceFront v.run v.next v.progress (es ++ e ∷ [])) → StepTells s step.Stopped u a b torn
  tells_torn (es, e, all, one, takes, front) =
      subst (λ (x : SimView). (es : History) × (e : PlainEvent) × AreWritten x.run.net es × IsWritten x.run.net e × ((base : List ℕ) (h : History) → a base h → torn base (h ++ es) e)
      × ((h : History) → HasTold x h → IsFrontOfLegal x.run (h ++ (es ++ e ∷ [])))) (sym same)
      (es, e, all, one, takes, λ h has. front h has.reaches)

-- it stopped, or found an alias
module _ (s v u : SimView) (same : s ≡ v) (a b : Takes) (torn : Fails) (d : Halt) (Whole : Bool → History → Type 0)
    (told : TellsPart {T = Bool} v.run.net (Err d) a b torn Whole (AdvanceFront v.run v.next v.progress) (CarriesAlias v.run v.next 0 v.progress)) where
  abbrev Told : Halt → Type 0
  Told x = TellsPart {T = Bool} v.run.net (Err x) a b torn Whole (AdvanceFront v.run v.next v.progress) (CarriesAlias v.run v.next 0 v.progress)

  pub stops : d ≡ Stopped → StepTells s step.Stopped u a b torn
  stops is = tells_torn s v u same a b torn (subst Told is told)

  pub finds_alias : (arc : ArcId) (ordinal : ℕ) → d ≡ Alias arc ordinal → StepTells s (step.Alias arc ordinal) u a b torn
  finds_alias arc ordinal is = tells_alias s v u same a b torn arc ordinal (subst Told is told)

-- an alias by equal names
pub same_alias : (s u : SimView) (a b : Takes) (torn : Fails) (x y : ArcId) (m n : ℕ) → x ≡ y → m ≡ n → StepTells s (step.Alias y n) u a b torn → StepTells s (step.Alias x m) u a b torn
same_alias s u a b torn x y m n is_x is_m told =
    subst (λ (z : ArcId). StepTells s (step.Alias z m) u a b torn) (sym is_x) (subst (λ (k : ℕ). StepTells s (step.Alias y k) u a b torn) (sym is_m) told)

-- ---- before the next tick

-- it isn't the last tick
pub not_last : (last : Bool) (now until : Tick) → last ≡ false → (IsTrue last ↔ (now ≡ until)) → now.0 ≤ until.0 → now.0 + 1 ≤ until.0
not_last last now until off says le = elim (cases_eq now.0 until.0) [
  | inl same ↦ absurd (false≢true (sym off ∙ says.1 (ap (λ (n : ℕ). record { 0 = n }) same)))
  | inr other ↦ omega (arith, le, other)
]

-- what is kept at a tick is at later ones
pub kept_later : (w : Scenario) (t u : ℕ) (p : Progress) → t ≤ u → IsKept w t p → IsKept w u p
kept_later w t u p le kept = record { calls = kept.calls; stands = kept.stands; latest = omega (arith, le, kept.latest); keeps = kept.keeps }

-- so are counts within their bounds
pub within_later : (t u : ℕ) (p : Progress) → t ≤ u → IsWithin t p → IsWithin u p
within_later t u p le is = record { sent = is.sent; dropped = omega (arith, le, is.dropped) }

-- and links ready to be settled
pub ready_later : (t u : ℕ) (lanes : List Lane) → t ≤ u → AreReady t lanes → AreReady u lanes
ready_later t u lanes le ready a lane at = let one = ready a lane at in (omega (arith, le, one.0), before_later (option_map (λ (s : Tick). s.0) lane.link.verifier.settled) t u le one.1)
