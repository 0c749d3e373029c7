use Rattle.std.proofs.Common.{None}
use Rattle.pre_base.proofs.Pieces.{piece_fails}
use Rattle.pre_history.specs.declared.events.What.TheVariants as what
use Rattle.pre_mpacket.specs.declared.packets.Kind.TheVariants as kind
use Rattle.pre_picture.specs.declared.bars.Bar.{Bar}
use Rattle.pre_picture.specs.Runs.{bar_in}
use Rattle.pre_picture.proofs.runs.put_bars.Goals as goal

abbrev no_bar : Bar
no_bar = record { arc = 0; kind = kind.Express; what = what.Frame (record { 0 = 0 }); begin = 0; stop = None }

pub returns-in_err-put_bar_in-clause-octets : goal.returns-in_err-put_bar_in-clause-octets
returns-in_err-put_bar_in-clause-octets g c =
    piece_fails (bar_in c.args.scale.now c.args.y c.args.arc) c.args.bars.now c.loop-bar.bar-index no_bar _ _ _
    c.from_residual.result c.loop-bar-test.true c.from_residual.ensures.0 c.loop-bar.invariant.taken c.in_err-put_bar_in.ensures.octets
