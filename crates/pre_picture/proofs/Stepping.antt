-- The steps of a queue at an event that changes it.
use Rattle.std.proofs.Common.{◌≡◌, ◌≢◌, ◌==◌, ℕ, false, List, ◌∷◌, ◌++◌, refl, arith}
use Rattle.std.proofs.lemmas.Bool.Decides.{nat_tests}
use Rattle.pre_picture.specs.declared.queues.Port.{Port}
use Rattle.pre_picture.specs.declared.scales.Scale.{Scale}
use Rattle.pre_picture.specs.declared.traces.Seen.{Seen}
use Rattle.pre_picture.specs.Queues.{level_after, step_text, steps}
use Rattle.pre_picture.specs.Traces.{tick_of}

differ : (a b : ℕ) → a ≢ b → (a == b) ≡ false
differ a b other = grind (arith, nat_tests, other)

pub steps_change : (events : List Seen) (port : Port) (across up : Scale) (since level : ℕ) (e : Seen) (more : List Seen) → level_after events port level e ≢ level
    → steps events port across up since level (e ∷ more) ≡ step_text across up since (tick_of e) level ++ steps events port across up (tick_of e) (level_after events port level e) more
steps_change events port across up since level e more other = rw (differ (level_after events port level e) level other) refl
