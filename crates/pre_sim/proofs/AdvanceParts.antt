-- The end of a run, behind its last tick.
use Rattle.std.proofs.Common.{ℕ, ◌≡◌, ◌+◌, ◌++◌, inr, subst, append_assoc}
use Rattle.pre_history.specs.Scenario.{Scenario}
use Rattle.pre_history.specs.History.{History}
use Rattle.pre_history.specs.Legal.{Legal}
use Rattle.pre_sim.specs.declared.ticks.Progress.{Progress}
use Rattle.pre_sim.specs.Stands.{Reaches}
use Rattle.pre_sim.specs.Parts.{TickPart, TickFront, ClosesPart, ClosesFront, AdvanceFront, IsFrontOfLegal}

module _ (w : Scenario) (t : ℕ) (old : Progress) where
  pub front_of_tick : (es : History) → TickFront w t old es → AdvanceFront w t old es
  front_of_tick es front h r = let f = front h r in (f.1, inr (f.0, f.2))

  module _ (new : Progress) (es fs : History) (tick : TickPart w t old new es) (last : t ≡ w.script.until.0) where
    at_end : (h : History) → Reaches w t 0 h old → Reaches w (w.script.until.0 + 1) 0 (h ++ es) new
    at_end h r = subst (λ n. Reaches w (n + 1) 0 (h ++ es) new) last (tick h r)

    pub closes : ClosesPart w new fs → (h : History) → Reaches w t 0 h old → Legal w (h ++ (es ++ fs))
    closes part h r = subst (Legal w) (append_assoc h es fs) (part (h ++ es) (at_end h r))

    pub closes_front : ClosesFront w new fs → AdvanceFront w t old (es ++ fs)
    closes_front front h r = subst (IsFrontOfLegal w) (append_assoc h es fs) (front (h ++ es) (at_end h r))
