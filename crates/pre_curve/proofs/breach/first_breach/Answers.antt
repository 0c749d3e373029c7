use Rattle.std.proofs.Common.{◌+◌, take, subst, ◌∙◌, ap, arith}
use Rattle.pre_curve.specs.Windows.{offers_of}
use Rattle.pre_curve.specs.Meters.{Stands}
use Rattle.pre_curve.proofs.Prefixes.{offers_next, next_in_order, BreaksAt-offers_of, ObeysAt-offers_of}
use Rattle.pre_curve.proofs.breach.first_breach.Goals as goal

pub take-requires-clause-order : goal.take-requires-clause-order
take-requires-clause-order c = next_in_order c.args.sends.now c.loop-place.place _ c.loop-place.meter.latest.0 c.requires c.loop-place-test.true c.loop-place.invariant.1.latest

pub returns-then-not-take-clause-breaks : goal.returns-then-not-take-clause-breaks
returns-then-not-take-clause-breaks c =
    BreaksAt-offers_of c.args.sends.now c.args.curve.now c.loop-place.meter.curve c.loop-place.place _ _ c.loop-place-test.true c.loop-place.invariant.0 (ap (λ n. n + 20) c.from.ensures)
    (c.if-not-take.ensures.breaks (take c.loop-place.place (offers_of c.args.sends.now)) c.loop-place.invariant.1)

pub returns-then-not-take-clause-first : goal.returns-then-not-take-clause-first
returns-then-not-take-clause-first c = λ j below.
    ObeysAt-offers_of c.args.sends.now c.args.curve.now c.loop-place.meter.curve c.loop-place.place j (omega (arith, c.loop-place-test.true)) c.loop-place.invariant.0 c.loop-place.invariant.1.obeys below

pub loop-place-preserved : goal.loop-place-preserved
loop-place-preserved c = (
  c.if-not-take.ensures.curve ∙ c.loop-place.invariant.0,
  subst (λ l. Stands c.take.new.self l) (offers_next c.args.sends.now c.loop-place.place _ _ c.loop-place-test.true (ap (λ n. n + 20) c.from.ensures))
      (c.if-not-take.ensures.accepted (take c.loop-place.place (offers_of c.args.sends.now)) c.loop-place.invariant.1),
)
