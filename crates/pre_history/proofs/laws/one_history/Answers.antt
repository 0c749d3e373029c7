use Rattle.pre_history.proofs.OneHistory as all
use Rattle.pre_history.proofs.Totals as totals
use Rattle.pre_history.proofs.Known as known
use Rattle.pre_history.proofs.laws.one_history.Goals as goal

pub returns-clause-legal : goal.returns-clause-legal
returns-clause-legal c = all.one_history known.one_given

pub returns-clause-before : goal.returns-clause-before
returns-clause-before c = totals.one_before

pub returns-clause-some : goal.returns-clause-some
returns-clause-some c = totals.some_history

pub returns-clause-never_both : goal.returns-clause-never_both
returns-clause-never_both c = totals.never_both

pub returns-clause-one_alias : goal.returns-clause-one_alias
returns-clause-one_alias c = totals.one_alias
