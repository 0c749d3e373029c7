use Rattle.std.proofs.Common.{refl, inr}
use Rattle.pre_links.proofs.steps.calm_arcs.Goals as goal

pub returns : goal.returns
unfolding Rattle.pre_history.specs.Rules.HappensIn
returns c = λ w h a t off. inr (off, refl)
