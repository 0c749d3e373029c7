use Rattle.std.proofs.Common.{rules, refl, sym, subst, ℕ, ◌≡◌, ◌<◌, arith, List, Some}
use Rattle.std.specs.Prelude.{slice_get}
use Rattle.pre_sim.specs.declared.lanes.Lane.{Lane}
use Rattle.pre_sim.specs.Keeps.{AreSettled}
use Rattle.pre_sim.specs.Parts.{scenario_of}
use Rattle.pre_sim.specs.Resting.{RestsAmong}
use Rattle.pre_sim.proofs.resting.next_due.Goals as goal

pub returns-clause-rests : goal.returns-clause-rests
returns-clause-rests c = λ u from lt.
    let before_all : u < c.lanes_due-due.result = search rules in
    let before_relay : u < c.relay_due-relayed.result = omega (arith, before_all, c.lanes_due-due.ensures.until) in
    let before_lines : u < c.min.result = omega (arith, before_relay, c.relay_due-relayed.ensures.until) in
    let before_line : u < c.min-line.result = search rules in
    let before_set : u < c.set_due.result = search rules in
    let before_send : u < c.send_due.result = search rules in
    let same : c.deref.result.now ≡ c.args.progress.now.lanes.items = search rules in
    record {
      lanes = subst (λ (ls : List Lane). (a : ℕ) (lane : Lane) → slice_get ls a ≡ Some lane → RestsAmong (scenario_of c.args.plan.now) u a lane ls) same
          (λ a lane at. c.lanes_due-due.ensures.rests (scenario_of c.args.plan.now) a lane u refl at (omega (arith, from)) before_all);
      relay = c.relay_due-relayed.ensures.rests (scenario_of c.args.plan.now) u before_relay;
      sets = λ x at. c.set_due.ensures x u before_set at;
      sends = λ some. c.send_due.ensures u before_send some;
    }

pub lanes_due-due-requires-clause-settled : goal.lanes_due-due-requires-clause-settled
lanes_due-due-requires-clause-settled c =
    let same : c.deref.result.now ≡ c.args.progress.now.lanes.items = search rules in
    subst (AreSettled c.args.now.0) (sym same) c.requires.settled
