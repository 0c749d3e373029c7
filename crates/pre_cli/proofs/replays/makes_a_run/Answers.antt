use Rattle.std.proofs.Common.{subst}
use Rattle.pre_bound.specs.Settled.{PriosBelow}
use Rattle.pre_history.specs.Scenario.{Scenario}
use Rattle.pre_cli.proofs.replays.makes_a_run.Goals as goal

pub returns : goal.returns
returns c =
    let w : Scenario = record { net = c.args.net.now; streams = c.args.streams.now; script = c.args.script.now } in
    c.files_make_a_run.ensures w c.requires.fits c.requires.lines (subst PriosBelow c.as_slice.ensures c.prios_below.ensures) c.requires.curves
