use Rattle.std.proofs.Common.{subst, List}
use Rattle.pre_streams.specs.declared.rows.Row.{Row}
use Rattle.pre_streams.specs.Hops.{IsNextArc}
use Rattle.pre_streams.proofs.rows.Streams.next_arc.Goals as goal

pub returns : goal.returns
returns c = subst (λ (rows : List Row). IsNextArc rows c.args.node c.args.vid c.arc_of_vid.result) c.as_slice.ensures c.arc_of_vid.ensures
