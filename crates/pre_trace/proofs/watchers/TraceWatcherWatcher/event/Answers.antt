use Rattle.std.proofs.Common.{sym, ◌∙◌}
use Rattle.std.proofs.lemmas.Bool.{false≢true}
use Rattle.pre_history.specs.Plain.{plain}
use Rattle.pre_trace.proofs.Histories.{AreOf-last}
use Rattle.pre_trace.proofs.watchers.TraceWatcherWatcher.event.Goals as goal

pub returns-else-is_of-clause-goes : goal.returns-else-is_of-clause-goes
returns-else-is_of-clause-goes g c = λ base h holds are.
    absurd (false≢true (sym c.if-is_of.false ∙ c.is_of.ensures.1 (AreOf-last c.args.self.now.net.now h (plain c.args.e.now) are)))
