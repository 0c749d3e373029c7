use Rattle.pre_laws.proofs.NoAlias.{no_alias_ended, legal_before, loses_none, legal_history}
use Rattle.pre_laws.proofs.laws.undamaged_scripts_have_histories.Goals as goal

pub returns-clause-no_alias : goal.returns-clause-no_alias
returns-clause-no_alias c = no_alias_ended

pub returns-clause-before : goal.returns-clause-before
returns-clause-before c = legal_before

pub returns-clause-some : goal.returns-clause-some
returns-clause-some c = legal_history

pub returns-clause-kept : goal.returns-clause-kept
returns-clause-kept c = loses_none
