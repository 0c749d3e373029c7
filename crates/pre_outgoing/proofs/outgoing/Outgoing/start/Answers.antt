use Rattle.std.proofs.Common.{sym, ◌∙◌, subst, [], ◌∷◌, ◌++◌}
use Rattle.pre_send.specs.Answers.{IsUnderWayAs}
use Rattle.pre_send.specs.Calls.{begun}
use Rattle.pre_send.specs.Senders.{chosen}
use Rattle.pre_outgoing.proofs.Fields.{some_kind}
use Rattle.pre_outgoing.proofs.outgoing.Outgoing.start.Goals as goal

pub unreachable-requires : goal.unreachable-requires
unreachable-requires c = some_kind c.begin.new.self c.begin.ensures.going (sym c.under_way.ensures.own ∙ c.in_default.is)

pub returns-clause-under_way : goal.returns-clause-under_way
returns-clause-under_way c = λ cost add_frag calls stands.
    let later = calls ++ begun c.args.now.0 (chosen c.args.choice) ∷ [] in
    subst (IsUnderWayAs cost add_frag later) c.in-Some.is (c.under_way.ensures.exact cost add_frag later (c.begin.ensures.stands cost add_frag calls stands))
