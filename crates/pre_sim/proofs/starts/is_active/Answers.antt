use Rattle.std.proofs.Common.{◌∙◌, ap}
use Rattle.pre_topo.specs.declared.arcs.Arc.{Arc}
use Rattle.pre_sim.proofs.ItemsThere.{active_off, active_on}
use Rattle.pre_sim.proofs.starts.is_active.Goals as goal

pub returns-in-Off : goal.returns-in-Off
returns-in-Off c = λ w h a t its stands. active_off w h a t (ap (λ (x : Arc). x.mode) its ∙ c.in-Off.is)

pub returns-in-On : goal.returns-in-On
returns-in-On c = λ w h a t its stands. active_on w h a t (ap (λ (x : Arc). x.mode) its ∙ c.in-On.is)
