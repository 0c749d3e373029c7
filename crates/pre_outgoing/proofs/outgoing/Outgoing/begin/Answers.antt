use Rattle.pre_send.specs.Senders.{chosen}
use Rattle.pre_history.specs.Scenario.{arc}
use Rattle.pre_outgoing.proofs.Started.{has_begun, no_lldp}
use Rattle.pre_outgoing.proofs.outgoing.Outgoing.begin.Goals as goal

pub returns-clause-begins : goal.returns-clause-begins
returns-clause-begins c = λ w past a n settled e a_lt legal sends rule told.
    has_begun w past c.args.now.0 a n settled c.args.self.now c.start.new.self (chosen c.args.choice) e c.start.result a_lt legal sends rule told
    (c.start.ensures.stands (arc w a).cost (arc w a).add_frag sends.calls sends.stands) c.requires.within (c.start.ensures.under_way (arc w a).cost (arc w a).add_frag sends.calls sends.stands)
    (λ packets sending. c.start.ensures.carries (arc w a).cost (arc w a).add_frag sends.calls packets sends.stands sending) c.start.ensures.counts.0 c.start.ensures.counts.1 c.start.ensures.counts.2
    c.start.ensures.keeps.0 (λ is. absurd (no_lldp c.args.choice c.requires.other is))
