use Rattle.pre_history.proofs.AirStays.{whole_stays, gives_stays, result_stays}
use Rattle.pre_history.proofs.laws.octets_stay.Goals as goal

pub returns-clause-wholes : goal.returns-clause-wholes
returns-clause-wholes c = λ w m n h g a a_lt legal later. whole_stays w m n h g legal later a a_lt

pub returns-clause-given : goal.returns-clause-given
returns-clause-given c = λ w m n h g a a_lt legal later i given lt. gives_stays w m n h g legal later a a_lt i lt given

pub returns-clause-results : goal.returns-clause-results
returns-clause-results c = λ w m n h g a a_lt legal later i result lt. result_stays w m n h g legal later a a_lt i lt result
