-- How long the frames of a script are.
use Rattle.std.proofs.Common.{ℕ, ◌≡◌, ◌<◌, ◌≤◌, List, length, ◌∙◌, ap, arith}
use Rattle.pre_base.specs.declared.limits.TheConstants.{LEAST_FRAME, GREATEST_FRAME}
use Rattle.pre_history.specs.Scenario.{Scenario, send, FrameOf}
use Rattle.pre_history.proofs.Undamaged.{length-FrameOf}
use Rattle.pre_laws.specs.Routed.{IsRouted}
use Rattle.pre_laws.proofs.Fitting.{is_routed}
use Rattle.pre_sim.specs.Reach.{AllFit}

-- what fits is routed
pub routed : (w : Scenario) → AllFit w.net w.streams w.script → IsRouted w
routed w fit = is_routed w fit.streams_fit fit.script_fits

pub frame_long : (w : Scenario) → AllFit w.net w.streams w.script → (f : ℕ) (octets : List ℕ) → f < length w.script.sends → octets ≡ FrameOf w f
    → (LEAST_FRAME ≤ length octets) × (length octets ≤ GREATEST_FRAME)
frame_long w fit f octets lt are =
    let sizes = (routed w fit).sizes f lt in
    let long : length octets ≡ (send w f).send.size = ap length are ∙ length-FrameOf w f (omega (arith, sizes.0)) in
    (omega (arith, sizes.0, long), omega (arith, sizes.1, long))
