use Rattle.std.proofs.Common.{◌∙◌, ap, Some, []}
use Rattle.std.specs.Prelude.{set}
use Rattle.pre_sim.specs.Keeps.{Store}
use Rattle.pre_sim.proofs.frames.stored.Goals as goal
use Rattle.pre_sim.proofs.Lists.{set_twice}

pub returns : goal.returns
returns c = (
  c.in-Some.ensures.was_in,
  c.fill.ensures ∙ (ap (λ (store : Store). set store c.in-Some.slot (Some c.args.octets.now)) c.in-Some.ensures.taken ∙ set_twice c.args.store.now c.in-Some.slot (Some []) (Some c.args.octets.now)),
)
