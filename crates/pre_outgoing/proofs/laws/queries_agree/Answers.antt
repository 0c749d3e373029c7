use Rattle.pre_outgoing.proofs.Asking.{free_agrees, rest_agrees, ends_agree}
use Rattle.pre_outgoing.proofs.laws.queries_agree.Goals as goal

pub returns-clause-free : goal.returns-clause-free
returns-clause-free c = λ w past t a now settled o a_lt legal sends. free_agrees w past t a now settled o a_lt legal sends

pub returns-clause-rest : goal.returns-clause-rest
returns-clause-rest c = λ w past t a now settled o a_lt legal sends free. rest_agrees w past t a now settled o a_lt legal sends free

pub returns-clause-ends : goal.returns-clause-ends
returns-clause-ends c = ends_agree
