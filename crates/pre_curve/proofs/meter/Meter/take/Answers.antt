use Rattle.std.proofs.Common.{sym}
use Rattle.pre_curve.specs.Windows.{Offer}
use Rattle.pre_curve.proofs.Prefixes.{Obeys-push, InOrder-push, last_tick-push}
use Rattle.pre_curve.proofs.Filling.{IsLevel-offer, ObeysAt-end, BreaksAt-end}
use Rattle.pre_curve.proofs.meter.Meter.take.Goals as goal

pub returns-then-level-self-clause-breaks : goal.returns-then-level-self-clause-breaks
returns-then-level-self-clause-breaks c = λ accepted s.
    let curve = c.args.self.now.curve in
    let offer : Offer = record { tick = c.args.tick.0; octets = c.args.octets } in
    let level = IsLevel-offer curve c.args.self.now.latest.0 c.args.self.now.level c.level_after-level.result accepted offer s.order s.latest c.requires.order s.level c.level_after-level.ensures in
    BreaksAt-end curve c.level_after-level.result accepted offer level c.if-level-self.true

pub returns-clause-obeys : goal.returns-clause-obeys
returns-clause-obeys c = λ accepted s.
    let curve = c.args.self.now.curve in
    let offer : Offer = record { tick = c.args.tick.0; octets = c.args.octets } in
    let level = IsLevel-offer curve c.args.self.now.latest.0 c.args.self.now.level c.level_after-level.result accepted offer s.order s.latest c.requires.order s.level c.level_after-level.ensures in
    ObeysAt-end curve c.level_after-level.result accepted offer level c.if-level-self.false

pub returns-clause-accepted : goal.returns-clause-accepted
returns-clause-accepted c = λ accepted s.
    let curve = c.args.self.now.curve in
    let offer : Offer = record { tick = c.args.tick.0; octets = c.args.octets } in
    let level = IsLevel-offer curve c.args.self.now.latest.0 c.args.self.now.level c.level_after-level.result accepted offer s.order s.latest c.requires.order s.level c.level_after-level.ensures in
    record {
      order = InOrder-push accepted offer c.args.self.now.latest.0 s.order s.latest c.requires.order;
      latest = sym (last_tick-push accepted offer);
      level = level;
      obeys = Obeys-push accepted offer curve s.obeys (ObeysAt-end curve c.level_after-level.result accepted offer level c.if-level-self.false);
    }
