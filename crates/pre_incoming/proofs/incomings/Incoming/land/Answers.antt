use Rattle.std.proofs.Common.{rules, sym, subst, ◌∙◌}
use Rattle.pre_history.specs.Scenario.{arc}
use Rattle.pre_incoming.specs.Arriving.{IsNextDue, IsNotDue}
use Rattle.pre_incoming.specs.Flights.{on_wire}
use Rattle.pre_incoming.specs.Inputs.{scenario_of}
use Rattle.pre_incoming.proofs.Happenings.{none_lands, one_lands}
use Rattle.pre_incoming.proofs.TakenApart.{other_due, same_due, not_same}
use Rattle.pre_incoming.proofs.incomings.Incoming.land.Goals as goal

pub returns-in_default-clause-lands : goal.returns-in_default-clause-lands
returns-in_default-clause-lands c = λ routed h a_lt legal is.
    none_lands (scenario_of c.args.inputs.now) h c.args.now.0 c.args.arc.0 a_lt legal c.args.self.now is (subst (IsNotDue c.args.now.0) (sym c.in_default.ensures) tt)

pub returns-then-ne-clause-lands : goal.returns-then-ne-clause-lands
returns-then-ne-clause-lands c = λ routed h a_lt legal is.
    none_lands (scenario_of c.args.inputs.now) h c.args.now.0 c.args.arc.0 a_lt legal c.args.self.now is
    (other_due c.args.now.0 c.in-Some.due.0 _ c.in-Some.ensures (not_same c.in-Some.due.0 c.args.now.0 (sym c.ne.ensures ∙ c.if-ne.true)))

pub returns-clause-lands : goal.returns-clause-lands
returns-clause-lands c = λ routed h a_lt legal is.
    let w = scenario_of c.args.inputs.now in
    let off = c.land_first.ensures.comes is.whole in
    one_lands w h c.args.now.0 c.args.arc.0 a_lt legal routed off.packet c.args.self.now c.land_first.new.self is off.was off.whole
    (c.land_first.ensures.room (arc w c.args.arc.0).delay (arc w c.args.arc.0).cost is.room)
    (same_due c.args.now.0 c.in-Some.due.0 off.packet (on_wire c.land_first.new.self.wire) (subst (IsNextDue c.in-Some.due.0) off.was c.in-Some.ensures) (search rules))
    c.lost_arrivals.ensures c.land_first.result c.land_first.new.into off.ord off.comes off.front_is
