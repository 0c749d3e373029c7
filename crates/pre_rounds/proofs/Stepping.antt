-- One round further.
use Rattle.std.proofs.Common.{◌≡◌, ℕ, ◌+◌, ◌*◌, ◌≤◌, false, List, sym, ◌∙◌, subst, arith, inl, inr, length}
use Rattle.std.proofs.lemmas.Bool.{cases_lt}
use Rattle.pre_topo.specs.declared.network.Network.{Network}
use Rattle.pre_streams.specs.declared.rows.Row.{Row}
use Rattle.pre_bound.specs.Good.{AtPorts}
use Rattle.pre_certify.specs.Tables.{AreWithin}
use Rattle.pre_rounds.specs.Rounds.{Bursts, declared, next_bursts, round_bursts}
use Rattle.pre_rounds.specs.Passing.{passes_over, some_differs}
use Rattle.pre_rounds.specs.Settling.{last_round, SameBursts, IsSettled, NonePasses, GoesOn, GoOnBefore, IsFirstPort}
use Rattle.pre_rounds.specs.Causes.{FirstLarge}
use Rattle.pre_rounds.specs.Routed.{AreRouted}
use Rattle.pre_rounds.specs.Tables.{bursts_in, IsRound, AreDelays, HaveDelays}
use Rattle.pre_rounds.proofs.Same.{passes_over-same, some_differs-same, next_bursts-same, SameBursts-trans, SameBursts-sym}
use Rattle.pre_rounds.proofs.Places.{first_same}
use Rattle.pre_rounds.proofs.Settled.{round-next, round-first, first_hop, settled_from, unsettled_from}

module _ (net : Network) (rows : List Row) where
  -- the tables have all delays
  pub are_delays : (b : Bursts) (delays : List ℕ) → AreWithin delays → HaveDelays net rows b delays (length net.arcs * 8) → AreDelays net rows b delays
  are_delays b delays within have = record {
    within = within;
    same = λ a p inside prio port. (have a p inside prio port (omega (arith, inside, prio))).delay;
  }

  pub all_small : (b : Bursts) (delays : List ℕ) → HaveDelays net rows b delays (length net.arcs * 8) → AtPorts net rows (λ a p. passes_over net rows b a p ≡ false)
  all_small b delays have a p inside prio port = (have a p inside prio port (omega (arith, inside, prio))).small

  pub start : (table : List ℕ) → AreWithin table → SameBursts rows (bursts_in table) (declared rows) → IsRound net rows 0 table
  start table within same = record { within = within; same = subst (λ (b : Bursts). SameBursts rows (bursts_in table) b) (sym (round-first net rows)) same }

  module _ (round : ℕ) (table : List ℕ) (is : IsRound net rows round table) where
    passes_same : (a p : ℕ) → passes_over net rows (bursts_in table) a p ≡ passes_over net rows (round_bursts net rows round) a p
    passes_same a p = passes_over-same rows (bursts_in table) (round_bursts net rows round) is.same net a p

    pub large_here : round ≤ last_round → GoOnBefore net rows round → (a p : ℕ) → IsFirstPort net rows (passes_over net rows (bursts_in table)) a p → FirstLarge net rows a p
    large_here within before a p first = record {
      round = round;
      within = within;
      before = before;
      here = first_same net rows (passes_over net rows (bursts_in table)) (passes_over net rows (round_bursts net rows round)) a p passes_same first;
    }

    pub none_passes : AtPorts net rows (λ a p. passes_over net rows (bursts_in table) a p ≡ false) → NonePasses net rows round
    none_passes small a p inside prio port = sym (passes_same a p) ∙ small a p inside prio port

    pub next_round : (next : List ℕ) → AreWithin next → SameBursts rows (bursts_in next) (next_bursts net rows (bursts_in table)) → IsRound net rows (round + 1) next
    next_round next within same = record {
      within = within;
      same = subst (λ (b : Bursts). SameBursts rows (bursts_in next) b) (sym (round-next net rows round))
          (SameBursts-trans rows (bursts_in next) (next_bursts net rows (bursts_in table)) (next_bursts net rows (round_bursts net rows round)) same
          (next_bursts-same rows (bursts_in table) (round_bursts net rows round) is.same net));
    }

    module _ (next : List ℕ) (after : IsRound net rows (round + 1) next) where
      differs_same : (a p : ℕ) → some_differs rows (bursts_in table) (bursts_in next) a p ≡ some_differs rows (round_bursts net rows round) (round_bursts net rows (round + 1)) a p
      differs_same a p = some_differs-same rows (bursts_in table) (round_bursts net rows round) (bursts_in next) (round_bursts net rows (round + 1)) is.same after.same a p

      pub is_settled : AreRouted net rows → AtPorts net rows (λ a p. some_differs rows (bursts_in table) (bursts_in next) a p ≡ false) → IsSettled net rows round
      is_settled routed none =
          SameBursts-sym rows (round_bursts net rows round) (round_bursts net rows (round + 1))
          (settled_from net rows routed (round_bursts net rows round) (round_bursts net rows (round + 1))
          (λ a p inside prio port. sym (differs_same a p) ∙ none a p inside prio port)
          (λ stream. first_hop net rows round stream ∙ sym (first_hop net rows (round + 1) stream)))

      pub differs_here : (a p : ℕ) → IsFirstPort net rows (some_differs rows (bursts_in table) (bursts_in next)) a p → IsFirstPort net rows (some_differs rows (round_bursts net rows round) (round_bursts net rows (round + 1))) a p
      differs_here a p first =
          first_same net rows (some_differs rows (bursts_in table) (bursts_in next)) (some_differs rows (round_bursts net rows round) (round_bursts net rows (round + 1))) a p differs_same first

      pub goes_on_here : AtPorts net rows (λ a p. passes_over net rows (bursts_in table) a p ≡ false) → (a p : ℕ) → IsFirstPort net rows (some_differs rows (bursts_in table) (bursts_in next)) a p → GoesOn net rows round
      goes_on_here small a p first = record {
        small = none_passes small;
        unsettled = λ settled.
            unsettled_from rows (round_bursts net rows round) (round_bursts net rows (round + 1)) a p (differs_here a p first).here
            (SameBursts-sym rows (round_bursts net rows (round + 1)) (round_bursts net rows round) settled);
      }

    pub go_on_more : GoOnBefore net rows round → GoesOn net rows round → GoOnBefore net rows (round + 1)
    go_on_more before here earlier less =
        elim (cases_lt earlier round) [
          | inl low ↦ before earlier low
          | inr now ↦ let same : round ≡ earlier = omega (arith, less, now) in subst (λ n. GoesOn net rows n) same here
        ]
