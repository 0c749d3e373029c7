use Rattle.pre_history.proofs.LinksDecided.{good_decided, active_decided}
use Rattle.pre_history.proofs.StartsDecided.{item_found, start_found}
use Rattle.pre_history.proofs.laws.starts_are_decided.Goals as goal

pub returns-clause-good : goal.returns-clause-good
returns-clause-good c = λ w n h a t a_lt legal. good_decided w n h legal a a_lt t

pub returns-clause-active : goal.returns-clause-active
returns-clause-active c = λ w n h a t a_lt legal. active_decided w n h legal a a_lt t

pub returns-clause-items : goal.returns-clause-items
returns-clause-items c = λ w n h a t a_lt legal. item_found w n h legal a a_lt t

pub returns-clause-rule : goal.returns-clause-rule
returns-clause-rule c = λ w n h a t a_lt legal. start_found w n h legal a a_lt t
