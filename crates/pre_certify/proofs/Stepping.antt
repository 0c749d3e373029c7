-- One turn further: the ports before it stay settled.
use Rattle.std.proofs.Common.{◌≡◌, ◌≢◌, ℕ, ◌+◌, ◌*◌, ◌<◌, ◌≤◌, true, false, List, sym, ◌∙◌, ap, subst, arith}
use Rattle.std.proofs.Common.{inl, inr, length, get_or, set, get_or-set_same, get_or-set_other}
use Rattle.std.proofs.lemmas.Bool.{cases_eq}
use Rattle.pre_topo.specs.declared.network.Network.{Network}
use Rattle.pre_streams.specs.declared.rows.Row.{Row}
use Rattle.pre_bound.specs.Uses.{has_port}
use Rattle.pre_bound.specs.Along.{Delays, port_delay}
use Rattle.pre_bound.specs.Settled.{PriosBelow}
use Rattle.pre_bound.specs.Passing.{passes}
use Rattle.pre_bound.specs.Order.{Rise, SameBelow}
use Rattle.pre_bound.specs.Promises.{SameNumbers}
use Rattle.pre_certify.specs.Tables.{delays_in}
use Rattle.pre_certify.specs.Turns.{turn_of, SettledBefore, IsLargeAt}
use Rattle.pre_bound.specs.Chains.{AreRanks}
use Rattle.pre_certify.specs.Causes.{FirstLarge}

module _ (net : Network) (rows : List Row) (rank : ℕ → ℕ) (few : length net.arcs ≤ 256) where
  -- where no port has this turn
  pub settled-idle : (delays : Delays) (turn : ℕ) → SettledBefore net rows rank delays turn
      → ((a p : ℕ) → a < length net.arcs → p < 8 → has_port rows a p ≡ true → turn_of rank a p ≡ turn → ⊥)
      → SettledBefore net rows rank delays (turn + 1)
  settled-idle delays turn before none a p inside prio port less =
      elim (cases_eq (turn_of rank a p) turn) [
        | inl here ↦ absurd (none a p inside prio port here)
        | inr apart ↦ let earlier : turn_of rank a p < turn = omega (arith, apart) in before a p inside prio port earlier
      ]

  pub settled-step : SameNumbers → PriosBelow rows → Rise rows rank → (table : List ℕ) (a p d turn : ℕ) → a < length net.arcs → p < 8 → turn_of rank a p ≡ turn → a * 8 + p < length table
      → SettledBefore net rows rank (delays_in table) turn
      → d ≡ port_delay net rows (delays_in table) a p → passes net rows (delays_in table) a p ≡ false
      → SettledBefore net rows rank (delays_in (set table (a * 8 + p) d)) (turn + 1)
  settled-step law prios rise table a p d turn inside prio here room before now small b q inside' prio' port less =
      let old : Delays = delays_in table in
      let new : Delays = delays_in (set table (a * 8 + p) d) in
      let lower : rank b ≤ rank a = omega arith in
      let same : SameBelow rank old new b =
      λ x y under low.
      let apart : x * 8 + y ≢ a * 8 + p = λ e. let eq : x ≡ a = omega (arith, e, low, prio) in let ranks = ap rank eq in omega (arith, ranks, under, lower) in
      sym (get_or-set_other table (a * 8 + p) (x * 8 + y) d 0 apart)
      in
      let numbers = law net rows rank old new b q prios rise same in
      let delay : port_delay net rows old b q ≡ port_delay net rows new b q = ap (λ r. r.delay) numbers.0 in
      elim (cases_eq (b * 8 + q) (a * 8 + p)) [
        | inl e ↦
            let eq : b ≡ a = omega (arith, e, prio, prio') in
            let eq' : q ≡ p = omega (arith, e, prio, prio') in
            let wrote : new b q ≡ d = subst (λ i. get_or (set table (a * 8 + p) d) i 0 ≡ d) (sym e) (get_or-set_same table (a * 8 + p) d 0 room) in
            let due : port_delay net rows old a p ≡ port_delay net rows old b q = ap (λ x. port_delay net rows old x p) (sym eq) ∙ ap (λ y. port_delay net rows old b y) (sym eq') in
            let quiet : passes net rows old b q ≡ false = ap (λ x. passes net rows old x q) eq ∙ ap (λ y. passes net rows old a y) eq' ∙ small in
            record { delay = wrote ∙ now ∙ due ∙ delay; small = sym numbers.1 ∙ quiet }
        | inr apart ↦
            let earlier : turn_of rank b q < turn = omega (arith, apart, prio, prio', inside, inside', few) in
            let was = before b q inside' prio' port earlier in
            let kept : new b q ≡ old b q = get_or-set_other table (a * 8 + p) (b * 8 + q) d 0 apart in
            record { delay = kept ∙ was.delay ∙ delay; small = sym numbers.1 ∙ was.small }
      ]

  -- a number at the port of this turn passes the limit, and at none before it
  pub large-first : (delays : Delays) (turn a p : ℕ) → AreRanks net rows rank → SettledBefore net rows rank delays turn → IsLargeAt net rows rank delays turn a p → FirstLarge net rows a p
  large-first delays turn a p ranks before here = record {
    rank = rank;
    ranks = ranks;
    delays = delays;
    before = subst (λ t. SettledBefore net rows rank delays t) (sym here.turn_is) before;
    within = here.within;
    port = here.port;
    large = here.large;
  }
