use Rattle.pre_mpacket.proofs.OneOpen.{open_one, opened, open_before}
use Rattle.pre_mpacket.proofs.laws.one_open.Goals as goal

pub returns-clause-one : goal.returns-clause-one
returns-clause-one c = open_one

pub returns-clause-before : goal.returns-clause-before
returns-clause-before c = λ A. (opened A, λ o. open_before A o.0 o.1 o.2 o.3)
