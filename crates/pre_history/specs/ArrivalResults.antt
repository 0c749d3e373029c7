-- The result of an arrival, as a trace tells it.
use Rattle.std.specs.Prelude.{ℕ, ◌≡◌, ◌⊎◌, List, Option, if◌then◌else◌}
use Rattle.pre_mpacket.specs.Arrivals.{Given, Gives, IsLost, GivesNothing}
use Rattle.pre_history.specs.declared.events.Outcome.{Outcome}
use Rattle.pre_history.specs.declared.events.Outcome.TheVariants as outcome
use Rattle.pre_lldp.specs.LldpLayout.{is_lldp_frame}

-- the word for what an arrival gives
abbrev pub result_of : Given → Outcome
result_of (Given.frame octets) = if is_lldp_frame octets then outcome.Lldp else outcome.Frame
result_of Given.part = outcome.Part
result_of Given.verify = outcome.Verify
result_of Given.respond = outcome.Respond

module _ (A : List (Option (List ℕ))) where
  -- the result of arrival i: it was lost, it gives something, or it gives nothing
  abbrev pub Result : ℕ → Outcome → Type 0
  Result i r =
      (IsLost A i × (r ≡ outcome.Lost))
      ⊎ ((g : Given) × Gives A i g × (r ≡ result_of g))
      ⊎ ¬ IsLost A i × GivesNothing A i × (r ≡ outcome.Nothing)
