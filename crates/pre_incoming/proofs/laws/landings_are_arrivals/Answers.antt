use Rattle.pre_incoming.proofs.Telling.{its_arrival, no_other, no_begins, no_ends, no_entries}
use Rattle.pre_incoming.proofs.laws.landings_are_arrivals.Goals as goal

pub returns-clause-arrival : goal.returns-clause-arrival
returns-clause-arrival c = λ w h t a x. its_arrival w h t a x.ord x.given

pub returns-clause-elsewhere : goal.returns-clause-elsewhere
returns-clause-elsewhere c = λ w h t a b x other. no_other w h t a b x.ord x.given other

pub returns-clause-begins : goal.returns-clause-begins
returns-clause-begins c = λ w h t a b x. no_begins w h t a b x.ord x.given

pub returns-clause-ends : goal.returns-clause-ends
returns-clause-ends c = λ w h t a b x. no_ends w h t a b x.ord x.given

pub returns-clause-entries : goal.returns-clause-entries
returns-clause-entries c = λ w h t a b p x. no_entries w h t a b p x.ord x.given
