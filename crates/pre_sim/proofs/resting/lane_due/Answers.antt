use Rattle.std.proofs.Common.{rules, ◌≡◌, ◌⊎◌, ◌+◌, ◌-◌, ◌<◌, false, arith, sym, subst}
use Rattle.pre_topo.specs.declared.arcs.Arc.{Arc}
use Rattle.pre_send.specs.Senders.{is_free}
use Rattle.pre_sim.specs.Resting.{IsEmpty, IsHeld}
use Rattle.pre_links.specs.Resting.{LinkRests}
use Rattle.pre_sim.proofs.resting.lane_due.Goals as goal

pub returns : goal.returns
returns c = λ w a u is interval later early.
    let due : u < c.sooner-due.result = search rules in
    let before_end : u < c.sooner-end.result = omega (arith, due, c.sooner-due.ensures.least) in
    let before_start : u < c.start_due-start.result = omega (arith, before_end, c.sooner-end.ensures.least) in
    let before_link : u < c.due-2.result = search rules in
    let last : u ≡ u - 1 + 1 = omega (arith, later) in
    record {
      link = λ talks. (
        u - 1,
        last,
        subst (λ i. LinkRests i (u - 1) c.args.partner.now c.args.lane.now.link) (sym interval) (c.due-2.ensures (u - 1) (omega (arith, later)) (omega (arith, before_link, last))),
      );
      no_end = search rules;
      no_arrival = search rules;
      no_start = subst (λ (x : Arc). (is_free c.args.lane.now.outgoing.sender u ≡ false) ⊎ IsEmpty c.args.lane.now ⊎ IsHeld x c.args.lane.now) (sym is) (c.start_due-start.ensures u before_start);
    }
