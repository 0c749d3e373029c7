use Rattle.pre_cli.proofs.OneTrace.{one_taken, headline_taken}
use Rattle.pre_cli.proofs.laws.one_trace.Goals as goal

pub returns : goal.returns
returns c = record {
  same = one_taken c.one_told_history.ensures;
  headline = headline_taken c.one_told_history.ensures;
}
