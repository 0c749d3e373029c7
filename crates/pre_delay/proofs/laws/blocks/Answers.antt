use Rattle.pre_history.specs.Starts.{ExpressWaits, begun}
use Rattle.pre_delay.proofs.Blockers.{fragment_blocks, fragment_within}
use Rattle.pre_delay.proofs.laws.blocks.Goals as goal

pub returns-clause-waited : goal.returns-clause-waited
returns-clause-waited c = λ w h b u size. fragment_blocks (ExpressWaits w h b.arc) (begun w h b) u size

pub returns-clause-own : goal.returns-clause-own
returns-clause-own c = λ w h b size. fragment_within (ExpressWaits w h b.arc) (begun w h b) size
