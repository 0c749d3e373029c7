-- Ports by their places: one place further, and the first that meets a test.
use Rattle.std.proofs.Common.{◌≡◌, ◌≢◌, ℕ, ◌+◌, ◌*◌, ◌/◌, ◌%◌, ◌<◌, ◌≤◌, Bool, true, false, List, sym}
use Rattle.std.proofs.Common.{◌∙◌, subst, arith, inl, inr, length, get_or, set, get_or-set_same, get_or-set_other}
use Rattle.std.proofs.lemmas.Bool.{cases_lt}
use Rattle.pre_topo.specs.declared.network.Network.{Network}
use Rattle.pre_streams.specs.declared.rows.Row.{Row}
use Rattle.pre_bound.specs.Uses.{has_port}
use Rattle.pre_bound.specs.Good.{AtPorts}
use Rattle.pre_rounds.specs.Rounds.{Bursts, delay_over}
use Rattle.pre_rounds.specs.Passing.{passes_over}
use Rattle.pre_rounds.specs.Settling.{IsFirstPort}
use Rattle.pre_rounds.specs.Tables.{HasDelay, HaveDelays}

module _ (net : Network) (rows : List Row) where
  pub ports_more : (P : ℕ → ℕ → Type 0) (k : ℕ) → AtPorts net rows (λ a p. a * 8 + p < k → P a p) → (has_port rows (k / 8) (k % 8) ≡ true → P (k / 8) (k % 8)) → AtPorts net rows (λ a p. a * 8 + p < k + 1 → P a p)
  ports_more P k before here a p inside prio port less =
      elim (cases_lt (a * 8 + p) k) [
        | inl earlier ↦ before a p inside prio port earlier
        | inr now ↦
            let arc : k / 8 ≡ a = omega (arith, less, now, prio) in
            let low : k % 8 ≡ p = omega (arith, less, now, prio) in
            let moved : has_port rows a p ≡ true → P a p =
            subst (λ y. has_port rows a y ≡ true → P a y) low
            (subst (λ x. has_port rows x (k % 8) ≡ true → P x (k % 8)) arc here)
            in
            moved port
      ]

  pub all_ports : (P : ℕ → ℕ → Type 0) (k : ℕ) → length net.arcs * 8 ≤ k → AtPorts net rows (λ a p. a * 8 + p < k → P a p) → AtPorts net rows P
  all_ports P k all before a p inside prio port = before a p inside prio port (omega (arith, all, inside, prio))

  pub first_here : (test : ℕ → ℕ → Bool) (k : ℕ) → k < length net.arcs * 8 → AtPorts net rows (λ a p. a * 8 + p < k → test a p ≡ false) → has_port rows (k / 8) (k % 8) ≡ true → test (k / 8) (k % 8) ≡ true
      → IsFirstPort net rows test (k / 8) (k % 8)
  first_here test k inside before port here = record {
    within = (omega (arith, inside), omega arith);
    port = port;
    here = here;
    before = λ a p arc prio port' less. before a p arc prio port' (omega (arith, less));
  }

  pub first_same : (test other : ℕ → ℕ → Bool) (a p : ℕ) → ((b q : ℕ) → test b q ≡ other b q) → IsFirstPort net rows test a p → IsFirstPort net rows other a p
  first_same test other a p same first = record {
    within = first.within;
    port = first.port;
    here = sym (same a p) ∙ first.here;
    before = λ b q arc prio port less. sym (same b q) ∙ first.before b q arc prio port less;
  }

  -- one delay more in the table
  pub delays_more : (b : Bursts) (table : List ℕ) (k v : ℕ) → k < length table → HaveDelays net rows b table k → v ≡ delay_over net rows b (k / 8) (k % 8) → passes_over net rows b (k / 8) (k % 8) ≡ false
      → HaveDelays net rows b (set table k v) (k + 1)
  delays_more b table k v room before now small =
      let whole : k ≡ k / 8 * 8 + k % 8 = omega arith in
      ports_more (λ a p. HasDelay net rows b (set table k v) a p) k
      (λ a p inside prio port less.
      let was = before a p inside prio port less in
      let apart : a * 8 + p ≢ k = λ e. omega (arith, e, less) in
      record { delay = get_or-set_other table k (a * 8 + p) v 0 apart ∙ was.delay; small = was.small })
      (λ port. record { delay = subst (λ i. get_or (set table k v) i 0 ≡ v) whole (get_or-set_same table k v 0 room) ∙ now; small = small })

  pub delays_idle : (b : Bursts) (table : List ℕ) (k : ℕ) → HaveDelays net rows b table k → has_port rows (k / 8) (k % 8) ≡ false → HaveDelays net rows b table (k + 1)
  delays_idle b table k before none = ports_more (λ a p. HasDelay net rows b table a p) k before (λ port. absurd (let no : true ≡ false = sym port ∙ none in cc))
