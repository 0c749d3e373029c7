-- That a summary took a legal history.
use Rattle.pre_history.specs.Scenario.{Scenario}
use Rattle.pre_history.specs.History.{History}
use Rattle.pre_history.specs.Legal.{Legal}
use Rattle.pre_trace.specs.declared.summaries.Summary.{Summary}
use Rattle.pre_trace.specs.Sums.{Sums}

abbrev pub HasSummed : Scenario → Summary → Type 0
HasSummed w s = (h : History) × Legal w h × Sums w.script s.tallies s.slots s.kept h
