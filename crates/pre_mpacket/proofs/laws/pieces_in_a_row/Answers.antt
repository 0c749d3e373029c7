use Rattle.pre_mpacket.proofs.Rows.{row_last, row_before}
use Rattle.pre_mpacket.proofs.laws.pieces_in_a_row.Goals as goal

pub returns-clause-last : goal.returns-clause-last
returns-clause-last c = row_last

pub returns-clause-before : goal.returns-clause-before
returns-clause-before c = row_before
