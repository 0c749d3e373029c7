-- The hops of a route: at which arc each stands, and how a burst grows from one to the next.
use Rattle.std.proofs.Common.{◌≡◌, ℕ, zero, suc, ◌+◌, ◌<◌, ◌≤◌, Bool, true, List, [], ◌∷◌, Some, refl, sym, ◌∙◌, ap, subst, arith, inl, inr, length, get_or}
use Rattle.std.specs.Prelude.{slice_get, Contains, ◌==◌, is_some}
use Rattle.std.specs.Option.{option_map}
use Rattle.std.specs.List.{list_any, position_or_len}
use Rattle.std.proofs.lemmas.Bool.{eqb-true, eq-eqb, and_parts, and_from, cases_lt, leb-true, ltb-true, le-leb, lt-ltb, true≢false}
use Rattle.std.proofs.lemmas.List.Folds.{Any-from_list_any, list_any_at}
use Rattle.std.proofs.lemmas.List.Sums.{fails_before_first, passes_at_first, fold_more}
use Rattle.pre_base.specs.declared.numbers.ArcId.{ArcId}
use Rattle.pre_topo.specs.declared.network.Network.{Network}
use Rattle.pre_streams.specs.declared.rows.Row.{Row}
use Rattle.pre_bound.specs.Solutions.{least_growth}
use Rattle.pre_bound.specs.Uses.{TakesAt, hop_of, takes, is_on, has_arc, has_port, rate_of, burst_of, cost_at}
use Rattle.pre_bound.specs.Along.{Delays, burst_at}

-- the arcs that are taken at places of a list
takes_place : (xs : List ArcId) (j a : ℕ) → option_map (λ x. x.0) (slice_get xs j) ≡ Some a → (j < length xs) × ((d : ArcId) → (get_or xs j d).0 ≡ a)
takes_place [] j a e = absurd (cc)
takes_place (x ∷ xs) zero a e = (omega arith, λ d. cc)
takes_place (x ∷ xs) (suc j) a e = let rest = takes_place xs j a e in (omega arith, rest.1)

from_place : (xs : List ArcId) (j : ℕ) (d : ArcId) → j < length xs → option_map (λ x. x.0) (slice_get xs j) ≡ Some (get_or xs j d).0
from_place [] j d h = absurd (omega arith)
from_place (x ∷ xs) zero d h = refl
from_place (x ∷ xs) (suc j) d h = from_place xs j d (omega arith)

pub TakesAt-place : (r : Row) (j a : ℕ) → TakesAt r j a → (j < length r.arcs) × ((d : ArcId) → (get_or r.arcs j d).0 ≡ a)
TakesAt-place r j a e = takes_place r.arcs j a e

pub TakesAt-from : (r : Row) (j : ℕ) (d : ArcId) → j < length r.arcs → TakesAt r j (get_or r.arcs j d).0
TakesAt-from r j d h = from_place r.arcs j d h

-- a list in which a test passes somewhere
position_within : {X : Type 0} (p : X → Bool) (xs : List X) → list_any p xs ≡ true → position_or_len p xs < length xs
position_within p xs h =
    let some = Any-from_list_any p xs h in
    elim (cases_lt (position_or_len p xs) (length xs)) [
      | inl less ↦ less
      | inr past ↦
          let fails = fails_before_first p xs some.0 some.1 (omega (arith, some.2)) in
          let passes : p (get_or xs some.0 some.1) ≡ true = ap p some.3 ∙ some.4 in
          absurd (true≢false (sym passes ∙ fails))
    ]

-- where the route takes the arc, it does at its hop
pub TakesAt-hop_of : (r : Row) (a : ℕ) → takes a r ≡ true → TakesAt r (hop_of a r) a
TakesAt-hop_of r a h =
    let d : ArcId = record { 0 = a } in
    let within = position_within (λ (x : ArcId). x.0 == a) r.arcs h in
    let same = eqb-true _ _ (passes_at_first (λ (x : ArcId). x.0 == a) r.arcs d within) in
    subst (λ n. TakesAt r (hop_of a r) n) same (TakesAt-from r (hop_of a r) d within)

pub takes-from : (r : Row) (j a : ℕ) → TakesAt r j a → takes a r ≡ true
takes-from r j a e =
    let d : ArcId = record { 0 = a } in
    let place = TakesAt-place r j a e in
    list_any_at (λ (x : ArcId). x.0 == a) r.arcs j d place.0 (eq-eqb _ _ (place.1 d))

-- what a row on an arc is
pub record OnArc (arc low high : ℕ) (r : Row) : Type 0 where
  pub express : is_some r.curve ≡ true
  pub from : low ≤ r.prio
  pub below : r.prio < high
  pub takes : takes arc r ≡ true

pub OnArc-from : (arc low high : ℕ) (r : Row) → is_on arc low high r ≡ true → OnArc arc low high r
OnArc-from arc low high r e =
    let first = and_parts _ _ e in
    let second = and_parts _ _ first.1 in
    let third = and_parts _ _ second.1 in
    record { express = first.0; from = leb-true _ _ second.0; below = ltb-true _ _ third.0; takes = third.1 }

pub is_on-from : (arc low high : ℕ) (r : Row) → OnArc arc low high r → is_on arc low high r ≡ true
is_on-from arc low high r on =
    and_from _ _ on.express (and_from _ _ (le-leb _ _ on.from) (and_from _ _ (lt-ltb _ _ on.below) on.takes))

pub has_port-from : (rows : List Row) (r : Row) (arc j : ℕ) → Contains rows r → is_some r.curve ≡ true → TakesAt r j arc → has_port rows arc r.prio ≡ true
has_port-from rows r arc j listed express at =
    let on : is_on arc r.prio (r.prio + 1) r ≡ true = is_on-from arc r.prio (r.prio + 1) r (record { express = express; from = omega arith; below = omega arith; takes = takes-from r j arc at }) in
    list_any_at (is_on arc r.prio (r.prio + 1)) rows listed.0 r listed.1 (ap (is_on arc r.prio (r.prio + 1)) listed.2 ∙ on)

pub has_arc-from : (rows : List Row) (r : Row) (arc j : ℕ) → Contains rows r → is_some r.curve ≡ true → r.prio < 8 → TakesAt r j arc → has_arc rows arc ≡ true
has_arc-from rows r arc j listed express low at =
    let on : is_on arc 0 8 r ≡ true = is_on-from arc 0 8 r (record { express = express; from = omega arith; below = low; takes = takes-from r j arc at }) in
    list_any_at (is_on arc 0 8) rows listed.0 r listed.1 (ap (is_on arc 0 8) listed.2 ∙ on)

-- the arc of a port is one that a stream uses
pub has_arc-from_port : (rows : List Row) (arc prio : ℕ) → prio < 8 → has_port rows arc prio ≡ true → has_arc rows arc ≡ true
has_arc-from_port rows arc prio low port =
    let some = Any-from_list_any (is_on arc prio (prio + 1)) rows port in
    let on = OnArc-from arc prio (prio + 1) some.1 some.4 in
    let wider : is_on arc 0 8 some.1 ≡ true = is_on-from arc 0 8 some.1 (record { express = on.express; from = omega arith; below = omega (arith, on.below); takes = on.takes }) in
    list_any_at (is_on arc 0 8) rows some.0 some.1 some.2 (ap (is_on arc 0 8) some.3 ∙ wider)

-- the burst one hop on
pub burst_at-suc : (net : Network) (delays : Delays) (r : Row) (j a : ℕ) → TakesAt r j a → burst_at net delays r (j + 1) ≡ least_growth (burst_at net delays r j) (rate_of r) (delays a r.prio) (cost_at net a)
burst_at-suc net delays r j a at =
    let d : ArcId = record { 0 = a } in
    let place = TakesAt-place r j a at in
    let grow : ℕ → ArcId → ℕ = λ b x. least_growth b (rate_of r) (delays x.0 r.prio) (cost_at net x.0) in
    fold_more grow (burst_of r) r.arcs j d place.0
    ∙ ap (λ n. least_growth (burst_at net delays r j) (rate_of r) (delays n r.prio) (cost_at net n)) (place.1 d)

-- a row by its number is contained
pub contains_at : {X : Type 0} (xs : List X) (i : ℕ) (x : X) → slice_get xs i ≡ Some x → Contains xs x
contains_at [] i x e = absurd (cc)
contains_at (y ∷ xs) zero x e = (0, omega arith, (cc))
contains_at (y ∷ xs) (suc i) x e = let c = contains_at xs i x e in (suc c.0, omega (arith, c.1), c.2)
