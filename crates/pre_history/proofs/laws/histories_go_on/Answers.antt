use Rattle.pre_history.proofs.Aliases.{alias_decided}
use Rattle.pre_history.proofs.Progress.{progress}
use Rattle.pre_history.proofs.laws.histories_go_on.Goals as goal

pub returns-clause-next : goal.returns-clause-next
returns-clause-next c = λ w n h legal. progress w n h legal

pub returns-clause-alias : goal.returns-clause-alias
returns-clause-alias c = alias_decided
