-- Rings that have room, one port further.
use Rattle.std.proofs.Common.{◌≡◌, ℕ, ◌+◌, ◌*◌, ◌/◌, ◌%◌, ◌<◌, true, List, subst, arith, inl, inr}
use Rattle.std.proofs.lemmas.Bool.{cases_lt}
use Rattle.pre_topo.specs.declared.network.Network.{Network}
use Rattle.pre_streams.specs.declared.rows.Row.{Row}
use Rattle.pre_bound.specs.Uses.{has_port}
use Rattle.pre_bound.specs.Along.{Delays}
use Rattle.pre_bound.specs.Good.{AtPorts}
use Rattle.pre_certify.specs.Causes.{HasRoom}

pub room_next : (net : Network) (rows : List Row) (delays : Delays) (k : ℕ)
    → AtPorts net rows (λ a p. a * 8 + p < k → HasRoom net rows delays a p)
    → (has_port rows (k / 8) (k % 8) ≡ true → HasRoom net rows delays (k / 8) (k % 8))
    → AtPorts net rows (λ a p. a * 8 + p < k + 1 → HasRoom net rows delays a p)
room_next net rows delays k before here a p inside prio port less =
    elim (cases_lt (a * 8 + p) k) [
      | inl earlier ↦ before a p inside prio port earlier
      | inr now ↦
          let arc : k / 8 ≡ a = omega (arith, less, now, prio) in
          let low : k % 8 ≡ p = omega (arith, less, now, prio) in
          let moved : has_port rows a p ≡ true → HasRoom net rows delays a p =
          subst (λ y. has_port rows a y ≡ true → HasRoom net rows delays a y) low
          (subst (λ x. has_port rows x (k % 8) ≡ true → HasRoom net rows delays x (k % 8)) arc here)
          in
          moved port
    ]
