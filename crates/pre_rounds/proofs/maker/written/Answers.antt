use Rattle.std.proofs.Common.{◌≡◌, List, false, ℕ, ◌/◌, ◌%◌, sym, subst, map}
use Rattle.pre_bound.specs.Good.{AtPorts}
use Rattle.pre_bound.specs.Places.{ports_of, streams_of}
use Rattle.pre_certify.specs.Tables.{delays_in}
use Rattle.pre_certify.specs.Written.{bound_at}
use Rattle.pre_rounds.specs.Passing.{passes_over}
use Rattle.pre_rounds.specs.Tables.{bursts_in}
use Rattle.pre_rounds.specs.Rounds.{port_over}
use Rattle.pre_rounds.specs.Written.{all_hops}
use Rattle.pre_rounds.proofs.Writing.{none_wide, rings_fit, says_rows, rows_within}
use Rattle.pre_rounds.proofs.maker.written.Goals as goal

pub port_rows-requires-clause-small : goal.port_rows-requires-clause-small
port_rows-requires-clause-small c =
    subst (λ (t : List ℕ). AtPorts c.args.net.now c.args.rows.now (λ a p. passes_over c.args.net.now c.args.rows.now (bursts_in t) a p ≡ false)) (sym c.as_slice-bursts.ensures) c.requires.settled.small

pub invariant_of-result : goal.invariant_of-result
invariant_of-result c = record {
  within = rows_within c.args.net.now c.args.rows.now c.requires.routed c.args.settled.now.bursts c.args.settled.now.delays c.requires.settled
      c.in_ok-arcs.arcs c.in_ok-ports.ports c.in_ok-hops.hops c.in_ok-bounds.bounds c.requires.load c.requires.narrow c.in_ok-arcs.ensures
      (subst (λ (t : List ℕ). c.in_ok-ports.ports ≡ map (λ place. port_over c.args.net.now c.args.rows.now (bursts_in t) (place / 8) (place % 8)) (ports_of c.args.net.now c.args.rows.now)) c.as_slice-bursts.ensures c.in_ok-ports.ensures)
      (subst (λ (t : List ℕ). c.in_ok-hops.hops ≡ all_hops (bursts_in t) (streams_of c.args.rows.now)) c.as_slice-bursts.ensures c.in_ok-hops.ensures)
      (subst (λ (t : List ℕ). c.in_ok-bounds.bounds ≡ map (bound_at c.args.net.now (delays_in t)) (streams_of c.args.rows.now)) c.as_slice.ensures c.in_ok-bounds.ensures);
}

pub returns : goal.returns
returns c = record {
  round = c.requires.settled.round;
  settles = c.requires.settled.settles;
  load = c.requires.load;
  narrow = none_wide c.args.net.now c.args.rows.now c.requires.routed c.args.settled.now.bursts c.args.settled.now.delays c.requires.settled c.requires.narrow;
  rings = rings_fit c.args.net.now c.args.rows.now c.requires.routed c.args.settled.now.bursts c.args.settled.now.delays c.requires.settled c.requires.rings;
  says = says_rows c.args.net.now c.args.rows.now c.requires.routed c.args.settled.now.bursts c.args.settled.now.delays c.requires.settled _ c.in_ok-arcs.ensures
      (subst (λ (t : List ℕ). c.in_ok-ports.ports ≡ map (λ place. port_over c.args.net.now c.args.rows.now (bursts_in t) (place / 8) (place % 8)) (ports_of c.args.net.now c.args.rows.now)) c.as_slice-bursts.ensures c.in_ok-ports.ensures)
      (subst (λ (t : List ℕ). c.in_ok-hops.hops ≡ all_hops (bursts_in t) (streams_of c.args.rows.now)) c.as_slice-bursts.ensures c.in_ok-hops.ensures)
      (subst (λ (t : List ℕ). c.in_ok-bounds.bounds ≡ map (bound_at c.args.net.now (delays_in t)) (streams_of c.args.rows.now)) c.as_slice.ensures c.in_ok-bounds.ensures);
}
