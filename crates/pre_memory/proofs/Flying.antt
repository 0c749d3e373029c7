-- How much is on the wire of an arc after a legal history.
use Rattle.std.proofs.Common.{ℕ, zero, suc, ◌≡◌, ◌<◌, ◌≤◌, ◌+◌, ◌-◌, ◌*◌, ◌/◌, inl, inr, List, [], ◌∷◌}
use Rattle.std.proofs.Common.{length, drop, refl, sym, ◌∙◌, ap, arith, subst, Some}
use Rattle.std.specs.Prelude.{slice_get, sum_by}
use Rattle.std.specs.List.{AllByRecursion as Every}
use Rattle.std.proofs.Math.Nat.{mul-le-mul_left}
use Rattle.std.proofs.lemmas.Bool.{cases_lt}
use Rattle.std.proofs.lemmas.List.{length-drop}
use Rattle.std.proofs.lemmas.List.Sums.{sum_by-cons}
use Rattle.std.proofs.lemmas.List.Elements.{recursion_from_All, All-drop}
use Rattle.std.proofs.lemmas.Nat.{le-div}
use Rattle.std.proofs.lemmas.Option.{slice_get-get_or}
use Rattle.pre_base.specs.declared.limits.TheConstants.{GREATEST_FRAME, GREATEST_PACKET}
use Rattle.pre_topo.specs.Arcs.{IsArc}
use Rattle.pre_history.specs.Scenario.{Scenario, arc, no_arc}
use Rattle.pre_history.specs.History.{Begin, Ended, Arrive, History}
use Rattle.pre_history.specs.Legal.{LegalUpTo}
use Rattle.pre_history.specs.Moments.{moments}
use Rattle.pre_history.specs.Ordered.{AreOrdered}
use Rattle.pre_history.specs.Placed.{number}
use Rattle.pre_history.specs.Queries.{Begins, Ends, Arrivals}
use Rattle.pre_history.proofs.Free.{ends_before}
use Rattle.pre_history.proofs.InOrder.{steady}
use Rattle.pre_history.proofs.Lists.{there, within, every_at, every_placed, every_weaker}
use Rattle.pre_history.proofs.Placing.{placed}
use Rattle.pre_laws.specs.Routed.{IsRouted}
use Rattle.pre_memory.specs.Wires.{octets_of}
use Rattle.pre_memory.proofs.Sizes.{have_sizes, are_short}
use Rattle.pre_memory.proofs.Spaced.{far}

-- It has ended by the tick, and arrives then or later.
record IsFlyingAt (delay t : ℕ) (e : Ended) : Type 0 where
  pub ended : e.tick ≤ t
  pub arrives : t ≤ e.tick + delay

-- ---- octets

-- each leaves after the one before it is over
abbrev AreSpaced : ℕ → ℕ → List Ended → Type 0
AreSpaced cost last [] = Unit {0}
AreSpaced cost last (e ∷ es) = (last + cost * (e.size + 8) ≤ e.tick) × AreSpaced cost e.tick es

-- what left by a tick took the ticks up to it
took : (cost last t : ℕ) (es : List Ended) → last ≤ t → AreSpaced cost last es → Every (λ e. e.tick ≤ t) es → last + cost * sum_by octets_of es ≤ t
took cost last t [] le is all = omega (arith, le)
took cost last t (e ∷ es) le (here, more) (first, rest) =
    let ih = took cost e.tick t es first more rest in
    let whole = ap (λ n. cost * n) (sum_by-cons octets_of e es) in
    omega (arith, ih, here, whole)

each_ended : (delay t : ℕ) (xs : List Ended) → Every (IsFlyingAt delay t) xs → Every (λ e. e.tick ≤ t) xs
each_ended delay t [] all = tt
each_ended delay t (x ∷ xs) (here, more) = (here.ended, each_ended delay t xs more)

-- those between a tick and as much before it as the delay
between : (cost delay most t last : ℕ) (es : List Ended) → 1 ≤ cost → AreSpaced cost last es → Every (λ e. e.size ≤ most) es → Every (IsFlyingAt delay t) es
    → sum_by octets_of es ≤ delay / cost + (most + 8)
between cost delay most t last [] pos is small all = omega arith
between cost delay most t last (e ∷ es) pos (here, more) (fits, small) (first, rest) =
    let ticks = took cost e.tick t es first.ended more (each_ended delay t es rest) in
    let few : sum_by octets_of es * cost ≤ delay = omega (arith, ticks, first.arrives) in
    let rest_is : sum_by octets_of es ≤ delay / cost = le-div (sum_by octets_of es) delay cost (omega (arith, pos)) few in
    omega (arith, sum_by-cons octets_of e es, rest_is, fits)

chain : (cost last : ℕ) (es : List Ended) → ((e : Ended) → slice_get es 0 ≡ Some e → last + cost * (e.size + 8) ≤ e.tick)
    → ((i : ℕ) (d e : Ended) → slice_get es i ≡ Some d → slice_get es (suc i) ≡ Some e → d.tick + cost * (e.size + 8) ≤ e.tick) → AreSpaced cost last es
chain cost last [] first next = tt
chain cost last (e ∷ es) first next = (first e refl, chain cost e.tick es (λ f at. next 0 e f refl at) (λ i d f. next (suc i) d f))

earlier : (cost last first : ℕ) (es : List Ended) → first ≤ last → AreSpaced cost last es → AreSpaced cost first es
earlier cost last first [] le is = tt
earlier cost last first (e ∷ es) le (here, more) = (omega (arith, le, here), more)

spaced_drop : (cost last n : ℕ) (es : List Ended) → AreSpaced cost last es → AreSpaced cost last (drop n es)
spaced_drop cost last zero es is = is
spaced_drop cost last (suc n) [] is = tt
spaced_drop cost last (suc n) (e ∷ es) (here, more) = spaced_drop cost last n es (earlier cost e.tick last es (omega (arith, here)) more)

are_spaced : (cost delay : ℕ) (begins : List Begin) (ends : List Ended) (arrivals : List Arrive) → AreOrdered cost delay begins ends arrivals → AreSpaced cost 0 ends
are_spaced cost delay begins ends arrivals is =
    chain cost 0 ends
    (λ e at. let b = there begins 0 (omega (arith, within ends 0 e at, is.ends_begun)) in omega (arith, is.spans 0 b.0 e b.1 at))
    (λ i d e at next.
    let b = there begins (suc i) (omega (arith, within ends (suc i) e next, is.ends_begun)) in
    omega (arith, is.spans (suc i) b.0 e b.1 next, is.apart i d b.0 at b.1))

-- ---- of a history

-- a moment of a tick comes before those of the next
no_later : (m x c y d : ℕ) → d ≤ m → x * m + c < y * m + d → x ≤ y
no_later m x c y d le lt = elim (cases_lt y x) [
  | inl more ↦ absurd (let step : m * suc y ≤ m * x = mul-le-mul_left m (let l : suc y ≤ x = omega (arith, more) in l) in omega (arith, le, lt, step))
  | inr less ↦ less
]

get_drop : {X : Type 0} (n i : ℕ) (xs : List X) → slice_get (drop n xs) i ≡ slice_get xs (n + i)
get_drop zero i xs = ap (slice_get xs) (let e : i ≡ 0 + i = omega arith in e)
get_drop (suc n) i [] = refl
get_drop (suc n) i (x ∷ xs) = get_drop n i xs ∙ ap (slice_get (x ∷ xs)) (let e : suc (n + i) ≡ suc n + i = omega arith in e)

module _ (w : Scenario) (routed : IsRouted w) (h : History) (a t k : ℕ) (lt : a < length w.net.arcs) (le : k ≤ moments (length w.net.arcs))
    (legal : LegalUpTo w (number (length w.net.arcs) t k) h) where
  abbrev gone : ℕ
  gone = length (Arrivals h a)

  order : AreOrdered (arc w a).cost (arc w a).delay (Begins h a) (Ends h a) (Arrivals h a)
  order = (steady w (number (length w.net.arcs) t k) h a lt legal).ordered

  cost_is : 1 ≤ (arc w a).cost
  cost_is =
      let rule : IsArc w.net.nodes (arc w a) = every_at (IsArc w.net.nodes) w.net.arcs a (arc w a)
      (recursion_from_All (IsArc w.net.nodes) w.net.arcs w.net.rules.each_arc) (slice_get-get_or w.net.arcs a no_arc lt) in
      rule.cost.0

  ends_past : Every (λ (e : Ended). e.tick ≤ t) (Ends h a)
  ends_past =
      every_weaker (λ (e : Ended). (e.arc ≡ a) × (number (length w.net.arcs) e.tick (1 + a) < number (length w.net.arcs) t k)) (λ e. e.tick ≤ t)
      (λ e is. no_later (moments (length w.net.arcs)) e.tick (1 + a) t k le is.1) (Ends h a)
      (ends_before (length w.net.arcs) (number (length w.net.arcs) t k) a h (placed w (number (length w.net.arcs) t k) h legal))

  -- what hasn't arrived arrives then or later
  one_flies : (i : ℕ) (e : Ended) → slice_get (Ends h a) (gone + i) ≡ Some e → IsFlyingAt (arc w a).delay t e
  one_flies i e place = record {
    ended = every_at (λ (x : Ended). x.tick ≤ t) (Ends h a) (gone + i) e ends_past place;
    arrives = elim (cases_lt (number (length w.net.arcs) (e.tick + (arc w a).delay) (1 + length w.net.arcs + a)) (number (length w.net.arcs) t k)) [
      | inl early ↦ absurd (let few = (steady w (number (length w.net.arcs) t k) h a lt legal).arrived (gone + i) e place early in omega (arith, few))
      | inr late ↦ no_later (moments (length w.net.arcs)) t k (e.tick + (arc w a).delay) (2 + length w.net.arcs + a) (omega (arith, lt)) (omega (arith, late))
    ];
  }

  pub octets_few : sum_by octets_of (drop gone (Ends h a)) ≤ (arc w a).delay / (arc w a).cost + GREATEST_PACKET
  octets_few =
      between (arc w a).cost (arc w a).delay GREATEST_FRAME t 0 (drop gone (Ends h a)) cost_is
      (spaced_drop (arc w a).cost 0 gone (Ends h a) (are_spaced (arc w a).cost (arc w a).delay (Begins h a) (Ends h a) (Arrivals h a) order))
      (recursion_from_All (λ (e : Ended). e.size ≤ GREATEST_FRAME) (drop gone (Ends h a))
      (All-drop (λ (e : Ended). e.size ≤ GREATEST_FRAME) gone (Ends h a) (are_short w routed (number (length w.net.arcs) t k) h legal a lt)))
      (every_placed (IsFlyingAt (arc w a).delay t) (drop gone (Ends h a)) (λ i e at. one_flies i e (sym (get_drop gone i (Ends h a)) ∙ at)))

  some_fly : gone < length (Ends h a) → 84 * (arc w a).cost * (length (Ends h a) - 1 - gone) ≤ (arc w a).delay
  some_fly more =
      let last = length (Ends h a) - 1 in
      let here : gone ≡ gone + 0 = omega arith in
      let end : last ≡ gone + (last - gone) = omega (arith, more) in
      let d = there (Ends h a) gone more in
      let e = there (Ends h a) last (omega (arith, more)) in
      let first = one_flies 0 d.0 (subst (λ n. slice_get (Ends h a) n ≡ Some d.0) here d.1) in
      let final = one_flies (last - gone) e.0 (subst (λ n. slice_get (Ends h a) n ≡ Some e.0) end e.1) in
      let ahead = far (arc w a).cost (arc w a).delay (Begins h a) (Ends h a) (Arrivals h a) order (have_sizes w routed (number (length w.net.arcs) t k) h legal a lt)
      (last - gone) gone last d.0 e.0 (omega (arith, more)) d.1 e.1 in
      omega (arith, ahead, first.arrives, final.ended)

  pub packets_few : length (drop gone (Ends h a)) ≤ (arc w a).delay / (84 * (arc w a).cost) + 1
  packets_few = elim (cases_lt gone (length (Ends h a))) [
    | inl more ↦
        let some = some_fly more in
        let n = length (Ends h a) - 1 - gone in
        let few = le-div n (arc w a).delay (84 * (arc w a).cost) (omega (arith, cost_is)) (omega (arith, some)) in
        omega (arith, few, length-drop gone (Ends h a), more)
    | inr none ↦ omega (arith, length-drop gone (Ends h a), none)
  ]
