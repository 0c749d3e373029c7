use Rattle.std.proofs.Common.{refl}
use Rattle.pre_history.specs.Scenario.{arc}
use Rattle.pre_outgoing.proofs.Fields.{holds_of}
use Rattle.pre_outgoing.proofs.Leaving.{finished}
use Rattle.pre_outgoing.proofs.outgoing.Outgoing.finish.Goals as goal

pub finish-kind-requires-clause-holds : goal.finish-kind-requires-clause-holds
finish-kind-requires-clause-holds c = holds_of c.args.self.now.sender c.args.store.now c.requires.held

pub returns-clause-ends : goal.returns-clause-ends
returns-clause-ends c = λ w past a e a_lt legal sends stored is.
    finished w past c.args.now.0 a c.args.self.now _ e _ c.finish-kind.result c.args.store.now a_lt legal sends stored c.requires.due is
    (c.finish-kind.ensures.stands (arc w a).cost (arc w a).add_frag sends.calls sends.stands) refl refl
    (c.finish-kind.ensures.sent (arc w a).cost (arc w a).add_frag sends.calls sends.stands) c.saturating_sub.ensures refl refl refl c.ends_frame-is_last.ensures refl
