use Rattle.pre_history.proofs.FirstAliases.{no_alias_before}
use Rattle.pre_history.proofs.Cut.{cut, cut_at}
use Rattle.pre_history.proofs.laws.legal_histories_are_cut.Goals as goal

pub returns-clause-before : goal.returns-clause-before
returns-clause-before c = cut

pub returns-clause-around : goal.returns-clause-around
returns-clause-around c = cut_at

pub returns-clause-no_alias : goal.returns-clause-no_alias
returns-clause-no_alias c = no_alias_before
