-- The cause of an answer to a drill leaves no other.
use Rattle.std.proofs.Common.{◌≡◌, ◌≢◌, ◌⊎◌, inl, inr, ℕ, refl, sym, ◌∙◌, ap, subst}
use Rattle.pre_base.specs.Faults.{Rose}
use Rattle.pre_base.specs.declared.numbers.ArcId.{ArcId}
use Rattle.pre_topo.specs.declared.network.Network.{Network}
use Rattle.pre_streams.specs.declared.rows.Streams.{Streams}
use Rattle.pre_script.specs.declared.scripts.Script.{Script}
use Rattle.pre_bound.specs.Listed.{HasGood}
use Rattle.pre_certify.specs.declared.unfit.Unfit.{Unfit}
use Rattle.pre_certify.specs.declared.unfit.Unfit.TheVariants as unfit
use Rattle.pre_certify.specs.Causes as causes
use Rattle.pre_plant.specs.Plants.{IsPlant, AreSame}
use Rattle.pre_history.specs.Scenario.{Scenario}
use Rattle.pre_cli.specs.declared.statuses.Status.{Status}
use Rattle.pre_cli.specs.declared.statuses.Status.TheVariants as status
use Rattle.pre_cli.specs.Certifying.{HasLeast, UnfitCause}
use Rattle.pre_cli.specs.Drilling.{Drill, scenario, IsDrilled, DrillingCause, DrillRuns, DrillRefuses}
use Rattle.pre_cli.specs.DueCertificates.{RefusesAs}
use Rattle.pre_cli.specs.Replaying.{RunsTo}
use Rattle.pre_cli.proofs.OneReading.{one_network, one_streams}

-- what a drill is made of, without the reason why it is its number's plant
abbrev Parts : Type 0
Parts = Network × (Streams × Script)

abbrev parts : {number : ℕ} → Drill number → Parts
parts x = (x.net, (x.streams, x.script))

module _ (one : (n : ℕ) (net other : Network) (streams others : Streams) (script another : Script) → IsPlant n net streams script → IsPlant n other others another → AreSame net other streams others script another) where
  -- a number has one plant
  pub same : (number : ℕ) (x y : Drill number) → parts x ≡ parts y
  same number x y =
      let is = one number x.net y.net x.streams y.streams x.script y.script x.is_plant y.is_plant in
      ap (λ (n : Network). (n, (x.streams, x.script))) (one_network x.net y.net is.parts)
      ∙ ap (λ (s : Streams). (y.net, (s, x.script))) (one_streams x.streams y.streams is.rows)
      ∙ ap (λ (s : Script). (y.net, (y.streams, s))) is.scripts

module _ (one : (n : ℕ) (net other : Network) (streams others : Streams) (script another : Script) → IsPlant n net streams script → IsPlant n other others another → AreSame net other streams others script another)
    (leads : (w : Scenario) → (s : Status) × RunsTo w s × ((t : Status) → RunsTo w t → t ≡ s)) where
  moved : (P : Parts → Type 0) (number : ℕ) (x y : Drill number) → P (parts x) → P (parts y)
  moved P number x y p = subst P (same one number x y) p

  module _ (number : ℕ) (x : Drill number) where
    least : (y : Drill number) → HasLeast y.net y.streams → HasLeast x.net x.streams
    least y has = moved (λ p. HasLeast p.0 p.1.0) number y x has

    refused : (y : Drill number) (u : Unfit) → UnfitCause u y.net y.streams → UnfitCause u x.net x.streams
    refused y u cause = moved (λ p. UnfitCause u p.0 p.1.0) number y x cause

    runs : (y : Drill number) (s : Status) → RunsTo (scenario y) s → RunsTo (scenario x) s
    runs y s to = moved (λ p. RunsTo (record { net = p.0; streams = p.1.0; script = p.1.1 }) s) number y x to

    abbrev Goes : Status → Status → ℕ → ℕ → Type 0
    Goes t s before now = (s ≡ t) ⊎ ((s ≡ status.WriteFault) × Rose before now) ⊎ (s ≡ status.Memory)

    one_end : (s t : Status) → RunsTo (scenario x) s → RunsTo (scenario x) t → s ≡ t
    one_end s t p q = let to = leads (scenario x) in to.2 s p ∙ sym (to.2 t q)

    pub drill_runs : (s t : Status) (before now : ℕ) → HasGood x.net x.streams → RunsTo (scenario x) t → DrillingCause number s before now → Goes t s before now
    drill_runs status.Done t before now good to (y, drilled) = inl (one_end status.Done t (runs y status.Done (inl (refl, drilled.1))) to)
    drill_runs status.WriteFault t before now good to (rose, y) = inr (inl (refl, rose))
    drill_runs (status.Unfit u) t before now good to (y, cause) = absurd ((refused y u cause).alone.none good)
    drill_runs (status.Alias arc ordinal) t before now good to (y, has, first) =
        inl (one_end (status.Alias arc ordinal) t (runs y (status.Alias arc ordinal) (inr (arc, ordinal, refl, first))) to)
    drill_runs status.Memory t before now good to cause = inr (inr refl)
    drill_runs status.Words t before now good to cause = absurd cause
    drill_runs status.ReadFault t before now good to cause = absurd cause
    drill_runs (status.Form kind line rule) t before now good to cause = absurd cause
    drill_runs (status.Rules kind row rule) t before now good to cause = absurd cause
    drill_runs (status.Rejected clause row) t before now good to cause = absurd cause
    drill_runs (status.Unruly line) t before now good to cause = absurd cause
    drill_runs (status.Unsettled arc prio) t before now good to cause = absurd cause
    drill_runs status.NoArc t before now good to cause = absurd cause

    module _ (e : Unfit) (not : e ≢ unfit.Memory) (why : causes.Cause x.net x.streams.rows e) where
      none : HasLeast x.net x.streams → ⊥
      none has = not (has.none e why)

      pub drill_refuses : (s : Status) (before now : ℕ) → DrillingCause number s before now → RefusesAs e s ⊎ (s ≡ status.Memory)
      drill_refuses status.Done before now (y, drilled) = absurd (none (least y drilled.0))
      drill_refuses status.WriteFault before now (rose, (y, drilled)) = absurd (none (least y drilled.0))
      drill_refuses (status.Unfit u) before now (y, cause) =
          elim ((refused y u cause).alone.others e why) [
            | inl memory ↦ absurd (not memory)
            | inr alike ↦ inl (u, alike, refl)
          ]
      drill_refuses (status.Alias arc ordinal) before now (y, has, first) = absurd (none (least y has))
      drill_refuses status.Memory before now cause = inr refl
      drill_refuses status.Words before now cause = absurd cause
      drill_refuses status.ReadFault before now cause = absurd cause
      drill_refuses (status.Form kind line rule) before now cause = absurd cause
      drill_refuses (status.Rules kind row rule) before now cause = absurd cause
      drill_refuses (status.Rejected clause row) before now cause = absurd cause
      drill_refuses (status.Unruly line) before now cause = absurd cause
      drill_refuses (status.Unsettled arc prio) before now cause = absurd cause
      drill_refuses status.NoArc before now cause = absurd cause
