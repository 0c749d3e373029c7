-- A text is one network, and one list of streams for it.
use Rattle.std.proofs.Common.{◌≡◌, ℕ, ◌≤◌, ◌^◌, List, [], ◌∷◌, Option, Some, None, refl, ◌∙◌, ap, subst, length, map}
use Rattle.std.specs.Prelude.{option_map}
use Rattle.std.proofs.Props.{props}
use Rattle.pre_curve.specs.declared.curves.Curve.{Curve}
use Rattle.pre_topo.specs.declared.network.Network.{Network}
use Rattle.pre_topo.specs.Rules.{IsNetwork}
use Rattle.pre_topo.specs.NetworkOf.{Parts, parts_of}
use Rattle.pre_streams.specs.declared.rows.Row.{Row}
use Rattle.pre_streams.specs.declared.rows.Streams.{Streams}
use Rattle.pre_streams.specs.Made.{RowParts, row_parts, curve_parts}

-- a network is what it consists of
abbrev made : (p : Parts) → IsNetwork p.express_from p.timing p.nodes p.arcs → Network
made p rules = record { express_from = p.express_from; timing = p.timing; nodes = p.nodes; arcs = p.arcs; rules = rules }

rules_prop : (p : Parts) → IsProp (IsNetwork p.express_from p.timing p.nodes p.arcs)
rules_prop p = hlevel props

made_same : (p q : Parts) → p ≡ q → (r : IsNetwork p.express_from p.timing p.nodes p.arcs) (s : IsNetwork q.express_from q.timing q.nodes q.arcs) → made p r ≡ made q s
made_same p q e = subst (λ x. (r : IsNetwork p.express_from p.timing p.nodes p.arcs) (s : IsNetwork x.express_from x.timing x.nodes x.arcs) → made p r ≡ made x s) e (λ r s. ap (made p) (rules_prop p r s))

pub one_network : (net other : Network) → parts_of net ≡ parts_of other → net ≡ other
one_network net other e = made_same (parts_of net) (parts_of other) e net.rules other.rules

-- a curve is its burst and rate
abbrev curve : (b r : ℕ) → b ≤ 10 ^ 12 → r ≤ 10 ^ 12 → Curve
curve b r h k = record { burst = b; rate = r; burst_within = h; rate_within = k }

curves_same : (b r c s : ℕ) → b ≡ c → r ≡ s → (h : b ≤ 10 ^ 12) (k : r ≤ 10 ^ 12) (i : c ≤ 10 ^ 12) (j : s ≤ 10 ^ 12) → curve b r h k ≡ curve c s i j
curves_same b r c s e f =
    subst (λ x. (h : b ≤ 10 ^ 12) (k : r ≤ 10 ^ 12) (i : x ≤ 10 ^ 12) (j : s ≤ 10 ^ 12) → curve b r h k ≡ curve x s i j) e
    (subst (λ y. (h : b ≤ 10 ^ 12) (k : r ≤ 10 ^ 12) (i : b ≤ 10 ^ 12) (j : y ≤ 10 ^ 12) → curve b r h k ≡ curve b y i j) f
    (λ h k i j. ap (λ x. curve b r x k) (low b h i) ∙ ap (λ y. curve b r i y) (low r k j)))
  where
    low : (n : ℕ) → IsProp (n ≤ 10 ^ 12)
    low n = hlevel props

one_curve : (c d : Option Curve) → option_map curve_parts c ≡ option_map curve_parts d → c ≡ d
one_curve None None e = refl
one_curve None (Some y) e = absurd (cc)
one_curve (Some x) None e = absurd (cc)
one_curve (Some x) (Some y) e =
    let both : ◌≡◌ {A = ℕ × ℕ} (x.burst, x.rate) (y.burst, y.rate) = cc in
    ap (λ c. Some c) (curves_same x.burst x.rate y.burst y.rate (ap (λ p. p.0) both) (ap (λ p. p.1) both) x.burst_within x.rate_within y.burst_within y.rate_within)

-- a row is its parts
abbrev with_curve : RowParts → Option Curve → Row
with_curve p c = record { name = p.name; vid = p.vid; prio = p.prio; route = p.route; arcs = p.arcs; max = p.max; curve = c }

one_row : (r s : Row) → row_parts r ≡ row_parts s → r ≡ s
one_row r s e = ap (λ p. with_curve p r.curve) e ∙ ap (with_curve (row_parts s)) (one_curve r.curve s.curve (ap (λ p. p.curve) e))

one_rows : (rs ss : List Row) → map row_parts rs ≡ map row_parts ss → rs ≡ ss
one_rows [] [] e = refl
one_rows [] (s ∷ ss) e = absurd (cc)
one_rows (r ∷ rs) [] e = absurd (cc)
one_rows (r ∷ rs) (s ∷ ss) e =
    let first : row_parts r ≡ row_parts s = cc in
    let rest : map row_parts rs ≡ map row_parts ss = cc in
    ap (λ x. x ∷ rs) (one_row r s first) ∙ ap (λ l. s ∷ l) (one_rows rs ss rest)

abbrev streams_made : (rows : List Row) → length rows ≤ 512 → Streams
streams_made rows few = record { rows = rows; few = few }

streams_same : (rs ss : List Row) → rs ≡ ss → (h : length rs ≤ 512) (k : length ss ≤ 512) → streams_made rs h ≡ streams_made ss k
streams_same rs ss e = subst (λ x. (h : length rs ≤ 512) (k : length x ≤ 512) → streams_made rs h ≡ streams_made x k) e (λ h k. ap (streams_made rs) (low h k))
  where
    low : IsProp (length rs ≤ 512)
    low = hlevel props

pub one_streams : (streams other : Streams) → map row_parts streams.rows ≡ map row_parts other.rows → streams ≡ other
one_streams streams other e = streams_same streams.rows other.rows (one_rows streams.rows other.rows e) streams.few other.few
