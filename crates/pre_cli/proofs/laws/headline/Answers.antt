use Rattle.pre_cli.proofs.Replayeds.{replayed}
use Rattle.pre_cli.proofs.laws.headline.Goals as goal

pub returns : goal.returns
returns c = replayed
