use Rattle.std.proofs.Common.{◌≡◌, List, ℕ, false, sym, subst}
use Rattle.pre_bound.specs.Good.{AtPorts}
use Rattle.pre_certify.specs.Tables.{delays_in}
use Rattle.pre_rounds.specs.Passing.{passes_over, need_over, is_short}
use Rattle.pre_rounds.specs.Settling.{IsFirstPort}
use Rattle.pre_rounds.specs.Causes.{NoneWide, FirstWide}
use Rattle.pre_rounds.specs.Tables.{bursts_in}
use Rattle.pre_rounds.proofs.Writing.{wide_here, short_here}
use Rattle.pre_rounds.proofs.maker.finished.Goals as goal

pub returns-in-Some-clause-cause : goal.returns-in-Some-clause-cause
returns-in-Some-clause-cause c = (
  c.requires.load,
  wide_here c.args.net.now c.args.rows.now c.requires.routed c.args.settled.now.bursts c.args.settled.now.delays c.requires.settled c.in-Some.stream.0 c.in-Some.hop
      (subst (λ (t : List ℕ). FirstWide c.args.net.now c.args.rows.now (delays_in t) c.in-Some.stream.0 c.in-Some.hop) c.as_slice.ensures c.in-Some.ensures.some),
)

pub first_short-requires-clause-small : goal.first_short-requires-clause-small
first_short-requires-clause-small c =
    subst (λ (t : List ℕ). AtPorts c.args.net.now c.args.rows.now (λ a p. passes_over c.args.net.now c.args.rows.now (bursts_in t) a p ≡ false)) (sym c.as_slice-2.ensures) c.requires.settled.small

pub returns-in-Some-first_short-clause-cause : goal.returns-in-Some-first_short-clause-cause
returns-in-Some-first_short-clause-cause c =
    let net = c.args.net.now in
    let rows = c.args.rows.now in
    let short = c.in-Some-first_short.short in (
      c.requires.load,
      short_here net rows c.requires.routed c.args.settled.now.bursts c.args.settled.now.delays c.requires.settled
          (subst (λ (t : List ℕ). NoneWide net rows (delays_in t)) c.as_slice.ensures c.in_default.ensures.none) short.arc.0 short.prio short.need
          (subst (λ (t : List ℕ). IsFirstPort net rows (is_short net rows (bursts_in t)) short.arc.0 short.prio) c.as_slice-2.ensures c.in-Some-first_short.ensures.some)
          (subst (λ (t : List ℕ). short.need ≡ need_over net rows (bursts_in t) short.arc.0 short.prio) c.as_slice-2.ensures c.in-Some-first_short.ensures.need),
    )

pub written-requires-clause-rings : goal.written-requires-clause-rings
written-requires-clause-rings c =
    subst (λ (t : List ℕ). AtPorts c.args.net.now c.args.rows.now (λ a p. is_short c.args.net.now c.args.rows.now (bursts_in t) a p ≡ false)) c.as_slice-2.ensures c.in_default-first_short.ensures.none
