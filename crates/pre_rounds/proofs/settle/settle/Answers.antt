use Rattle.std.proofs.Common.{rules, ◌≡◌, ◌+◌, ◌-◌, ◌*◌, ℕ, List, false, sym, ◌∙◌, subst, arith, length}
use Rattle.std.proofs.lemmas.Grind.{common_steps}
use Rattle.pre_bound.specs.Good.{AtPorts}
use Rattle.pre_rounds.specs.Rounds.{next_bursts, round_bursts}
use Rattle.pre_rounds.specs.Passing.{passes_over, some_differs}
use Rattle.pre_rounds.specs.Settling.{SameBursts, GoOnBefore, IsFirstPort}
use Rattle.pre_rounds.specs.Tables.{bursts_in, AreDelays, HaveDelays}
use Rattle.pre_rounds.proofs.Stepping.{are_delays, all_small, start, large_here, none_passes, next_round, is_settled, differs_here, goes_on_here, go_on_more}
use Rattle.pre_rounds.proofs.settle.settle.Goals as goal

pub loop-round-init : goal.loop-round-init
loop-round-init c = record {
  round = start c.args.net.now c.args.rows.now c.in_ok-bursts.bursts c.in_ok-bursts.ensures.within c.in_ok-bursts.ensures.same;
  before = λ earlier less. absurd (omega (arith, less));
  within = grind (arith, common_steps);
  long = search rules;
  last = λ less. absurd (omega (arith, less));
}

pub returns-in-Err-clause-cause : goal.returns-in-Err-clause-cause
returns-in-Err-clause-cause c = (
  c.requires.load,
  large_here c.args.net.now c.args.rows.now c.loop-round.round c.loop-round.bursts c.loop-round.invariant.round (omega arith) c.loop-round.invariant.before _ _
      (subst (λ (t : List ℕ). IsFirstPort c.args.net.now c.args.rows.now (passes_over c.args.net.now c.args.rows.now (bursts_in t)) c.in-Err.port.arc.0 c.in-Err.port.prio) c.as_slice.ensures c.in-Err.ensures.large),
)

pub next_table-requires-clause-delays : goal.next_table-requires-clause-delays
next_table-requires-clause-delays c =
    let net = c.args.net.now in
    let rows = c.args.rows.now in
    let have = subst (λ (t : List ℕ). HaveDelays net rows (bursts_in t) c.put_delays.new.delays (length net.arcs * 8)) (c.as_slice.ensures ∙ sym c.as_slice-in-loop-round.ensures) c.in_default.ensures.delays in
    subst (λ (t : List ℕ). AreDelays net rows (bursts_in c.as_slice-in-loop-round.result.now) t) (sym c.as_slice-in-loop-round-2.ensures)
    (are_delays net rows (bursts_in c.as_slice-in-loop-round.result.now) c.put_delays.new.delays c.in_default.ensures.within have)

pub next_table-requires-clause-small : goal.next_table-requires-clause-small
next_table-requires-clause-small c =
    let net = c.args.net.now in
    let rows = c.args.rows.now in
    let have = subst (λ (t : List ℕ). HaveDelays net rows (bursts_in t) c.put_delays.new.delays (length net.arcs * 8)) (c.as_slice.ensures ∙ sym c.as_slice-in-loop-round.ensures) c.in_default.ensures.delays in
    all_small net rows (bursts_in c.as_slice-in-loop-round.result.now) c.put_delays.new.delays have

pub returns-in-None-clause-settled : goal.returns-in-None-clause-settled
returns-in-None-clause-settled c =
    let net = c.args.net.now in
    let rows = c.args.rows.now in
    let table = c.loop-round.bursts in
    let next = c.in_ok-next.next in
    let is = c.loop-round.invariant.round in
    let have = subst (λ (t : List ℕ). HaveDelays net rows (bursts_in t) c.put_delays.new.delays (length net.arcs * 8)) c.as_slice.ensures c.in_default.ensures.delays in
    let small = all_small net rows (bursts_in table) c.put_delays.new.delays have in
    let same = subst (λ (t : List ℕ). SameBursts rows (bursts_in next) (next_bursts net rows (bursts_in t))) c.as_slice-in-loop-round.ensures c.in_ok-next.ensures.same in
    let after = next_round net rows c.loop-round.round table is next c.in_ok-next.ensures.within same in
    let none = subst (λ (t : List ℕ). AtPorts net rows (λ a p. some_differs rows (bursts_in t) (bursts_in next) a p ≡ false)) c.as_slice-in-loop-round-3.ensures
    (subst (λ (t : List ℕ). AtPorts net rows (λ a p. some_differs rows (bursts_in c.as_slice-in-loop-round-3.result.now) (bursts_in t) a p ≡ false)) c.as_slice-in-loop-round-4.ensures c.in-None.ensures.none) in
    record {
      round = c.loop-round.round;
      settles = record {
        within = omega arith;
        before = c.loop-round.invariant.before;
        small = none_passes net rows c.loop-round.round table is small;
        settled = is_settled net rows c.loop-round.round table is next after c.requires.routed none;
      };
      has_bursts = is;
      has_delays = are_delays net rows (bursts_in table) c.put_delays.new.delays c.in_default.ensures.within have;
      small = small;
    }

pub loop-round-preserved : goal.loop-round-preserved
loop-round-preserved c =
    let net = c.args.net.now in
    let rows = c.args.rows.now in
    let round = c.loop-round.round in
    let table = c.loop-round.bursts in
    let next = c.in_ok-next.next in
    let is = c.loop-round.invariant.round in
    let a = c.in-Some.port.arc.0 in
    let p = c.in-Some.port.prio in
    let have = subst (λ (t : List ℕ). HaveDelays net rows (bursts_in t) c.put_delays.new.delays (length net.arcs * 8)) c.as_slice.ensures c.in_default.ensures.delays in
    let small = all_small net rows (bursts_in table) c.put_delays.new.delays have in
    let same = subst (λ (t : List ℕ). SameBursts rows (bursts_in next) (next_bursts net rows (bursts_in t))) c.as_slice-in-loop-round.ensures c.in_ok-next.ensures.same in
    let after = next_round net rows round table is next c.in_ok-next.ensures.within same in
    let first = subst (λ (t : List ℕ). IsFirstPort net rows (some_differs rows (bursts_in t) (bursts_in next)) a p) c.as_slice-in-loop-round-3.ensures
    (subst (λ (t : List ℕ). IsFirstPort net rows (some_differs rows (bursts_in c.as_slice-in-loop-round-3.result.now) (bursts_in t)) a p) c.as_slice-in-loop-round-4.ensures c.in-Some.ensures.some) in
    let back : round ≡ round + 1 - 1 = omega arith in
    record {
      round = after;
      before = go_on_more net rows round table is c.loop-round.invariant.before (goes_on_here net rows round table is next after small a p first);
      within = c.in_default.ensures.within;
      long = c.put_delays.ensures.long ∙ c.loop-round.invariant.long;
      last = λ less.
          subst (λ (n : ℕ). IsFirstPort net rows (some_differs rows (round_bursts net rows n) (round_bursts net rows (round + 1))) a p) back
          (differs_here net rows round table is next after a p first);
    }

pub returns-clause-cause : goal.returns-clause-cause
returns-clause-cause c =
    let net = c.args.net.now in
    let rows = c.args.rows.now in
    let end : c.loop-round.round ≡ 1001 = omega arith in
    let last = c.loop-round.invariant.last (omega (arith, end)) in (
      c.requires.load,
      record {
        before = subst (λ (n : ℕ). GoOnBefore net rows n) end c.loop-round.invariant.before;
        here = subst (λ (n : ℕ). IsFirstPort net rows (some_differs rows (round_bursts net rows (n - 1)) (round_bursts net rows n)) c.loop-round.arc.0 c.loop-round.prio) end last;
      },
    )
