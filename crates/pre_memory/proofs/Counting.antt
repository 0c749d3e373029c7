-- A slot is in where one more frame may be inside a bridge.
use Rattle.std.proofs.Common.{ℕ, suc, ◌≡◌, ◌≢◌, ◌<◌, ◌≤◌, ◌+◌, ◌==◌, inl, inr, Bool, true, false, cond, leb, eqb}
use Rattle.std.proofs.Common.{List, [], ◌∷◌, length, map, refl, sym, ◌∙◌, ap, arith, subst, count_by, Some}
use Rattle.std.specs.Prelude.{slice_get, slice_index_or, sum}
use Rattle.std.specs.List.{sum_by, AllByRecursion as Every}
use Rattle.std.proofs.lemmas.Bool.{eqb-true, eqb-false, leb-true, leb-false, le-leb, lt-leb, eq-eqb, ne_eqb, cases_eq}
use Rattle.std.proofs.lemmas.List.{length-map}
use Rattle.std.proofs.lemmas.List.Sums.{sum_by-cons}
use Rattle.std.proofs.lemmas.List.Elements.{recursion_from_All, All-from_recursion}
use Rattle.pre_rings.specs.declared.slots.FrameRef.{FrameRef}
use Rattle.pre_topo.specs.declared.nodes.Node.{Node}
use Rattle.pre_topo.specs.declared.arcs.Arc.{Arc}
use Rattle.pre_topo.specs.Arcs.{slots_of_arc}
use Rattle.pre_history.proofs.Lists.{within, one_at}
use Rattle.pre_bridge.specs.Inside.{Entry, of_arc}
use Rattle.pre_memory.specs.Slots.{Store, slots_out, Held, frames_held, room_of, times, FitsArc, FitsArcs}

-- ---- no more than the arcs take

-- how many of the numbers are as great
abbrev from_on : ℕ → List ℕ → ℕ
from_on i ns = count_by (λ m. leb i m) ns

one_less : (i m : ℕ) → ◌≡◌ {A = ℕ} (cond (leb i m) 1 0) (cond (eqb m i) 1 0 + cond (leb (suc i) m) 1 0)
one_less i m = go (leb i m) (eqb m i) (leb (suc i) m) refl refl refl
  where
    go : (x y z : Bool) → leb i m ≡ x → eqb m i ≡ y → leb (suc i) m ≡ z → ◌≡◌ {A = ℕ} (cond x 1 0) (cond y 1 0 + cond z 1 0)
    go true true true p q r = absurd (omega (arith, eqb-true m i q, leb-true (suc i) m r))
    go true true false p q r = refl
    go true false true p q r = refl
    go true false false p q r = absurd (let other : m ≢ i = eqb-false m i q in omega (arith, leb-true i m p, leb-false (suc i) m r, other))
    go false true true p q r = absurd (omega (arith, leb-false i m p, leb-true (suc i) m r))
    go false true false p q r = absurd (omega (arith, leb-false i m p, eqb-true m i q))
    go false false true p q r = absurd (omega (arith, leb-false i m p, leb-true (suc i) m r))
    go false false false p q r = refl

from-suc : (i : ℕ) (ns : List ℕ) → from_on i ns ≡ times i ns + from_on (suc i) ns
from-suc i [] = refl
from-suc i (n ∷ ns) =
    omega (arith, sum_by-cons (λ m. cond (leb i m) 1 0) n ns, sum_by-cons (λ m. cond (eqb m i) 1 0) n ns, sum_by-cons (λ m. cond (leb (suc i) m) 1 0) n ns, one_less i n, from-suc i ns)

from_past : (i : ℕ) (ns : List ℕ) → Every (λ m. m < i) ns → from_on i ns ≡ 0
from_past i [] all = refl
from_past i (n ∷ ns) (here, more) = omega (arith, sum_by-cons (λ m. cond (leb i m) 1 0) n ns, ap (λ b. cond {A = ℕ} b 1 0) (lt-leb i n here), from_past i ns more)

from_first : (ns : List ℕ) → from_on 0 ns ≡ length ns
from_first [] = refl
from_first (n ∷ ns) = omega (arith, sum_by-cons (λ m. cond (leb 0 m) 1 0) n ns, ap (λ b. cond {A = ℕ} b 1 0) (le-leb 0 n (omega arith)), from_first ns)

fit_from : (nodes : List Node) (arcs : List Arc) (held : List Held) (came_by : List ℕ) (i : ℕ) → length held ≡ length arcs → Every (λ m. m < i + length arcs) came_by
    → ((j k : ℕ) (a : Arc) (h : Held) → k ≡ i + j → slice_get arcs j ≡ Some a → slice_get held j ≡ Some h → FitsArc nodes a h (times k came_by))
    → sum_by frames_held held + from_on i came_by ≤ sum_by (slots_of_arc nodes) arcs
fit_from nodes [] [] came_by i same known each = omega (arith, from_past i came_by (subst (λ n. Every (λ m. m < n) came_by) (let e : i + 0 ≡ i = omega arith in e) known))
fit_from nodes [] (h ∷ held) came_by i same known each = absurd (omega (arith, same))
fit_from nodes (a ∷ arcs) [] came_by i same known each = absurd (omega (arith, same))
fit_from nodes (a ∷ arcs) (h ∷ held) came_by i same known each =
    let here = each 0 i a h (omega arith) refl refl in
    let ih = fit_from nodes arcs held came_by (suc i) (omega (arith, same)) (subst (λ n. Every (λ m. m < n) came_by) (let e : i + length (a ∷ arcs) ≡ suc i + length arcs = omega arith in e) known)
    (λ j k b g e at to. each (suc j) k b g (omega (arith, e)) at to) in
    omega (arith, sum_by-cons frames_held h held, sum_by-cons (slots_of_arc nodes) a arcs, from-suc i came_by, ih, here.rings, here.sender, here.inside)

fit : (nodes : List Node) (arcs : List Arc) (held : List Held) (came_by : List ℕ) → FitsArcs nodes arcs held came_by → sum_by frames_held held + length came_by ≤ sum_by (slots_of_arc nodes) arcs
fit nodes arcs held came_by is =
    let known = subst (λ n. Every (λ m. m < n) came_by) (let e : length arcs ≡ 0 + length arcs = omega arith in e) (recursion_from_All (λ m. m < length arcs) came_by is.known) in
    let all = fit_from nodes arcs held came_by 0 is.lanes known (λ j k a h e at to. subst (λ n. FitsArc nodes a h (times n came_by)) (let f : j ≡ k = omega (arith, e) in f) (is.each j a h at to)) in
    omega (arith, all, from_first came_by)

one_more_fits : (nodes : List Node) (arcs : List Arc) (held : List Held) (came_by : List ℕ) (r : ℕ) (a : Arc) → FitsArcs nodes arcs held came_by → slice_get arcs r ≡ Some a → times r came_by < room_of nodes a → FitsArcs nodes arcs held (r ∷ came_by)
one_more_fits nodes arcs held came_by r a is at room = record {
  lanes = is.lanes;
  each = λ i b h there to.
      let was = is.each i b h there to in
      let counts : times i (r ∷ came_by) ≡ cond (r == i) 1 0 + times i came_by = sum_by-cons (λ m. cond (m == i) 1 0) r came_by in
      elim (cases_eq r i) [
        | inl e ↦
            let same : a ≡ b = one_at arcs i a b (ap (slice_get arcs) (sym e) ∙ at) there in
            let less : times i came_by < room_of nodes b = subst (λ (c : Arc). times i came_by < room_of nodes c) same (subst (λ n. times n came_by < room_of nodes a) e room) in
            record { rings = was.rings; sender = was.sender; inside = omega (arith, counts, ap (λ c. cond {A = ℕ} c 1 0) (eq-eqb r i e), less) }
        | inr ne ↦ record { rings = was.rings; sender = was.sender; inside = omega (arith, counts, ap (λ c. cond {A = ℕ} c 1 0) (ne_eqb r i ne), was.inside) }
      ];
  known = All-from_recursion (λ m. m < length arcs) (r ∷ came_by) (within arcs r a at, recursion_from_All (λ m. m < length arcs) came_by is.known);
}

spare : (nodes : List Node) (arcs : List Arc) (held : List Held) (came_by : List ℕ) (r : ℕ) (a : Arc) → FitsArcs nodes arcs held came_by → slice_get arcs r ≡ Some a → times r came_by < room_of nodes a
    → sum_by frames_held held + length came_by < sum_by (slots_of_arc nodes) arcs
spare nodes arcs held came_by r a is at room = let all = fit nodes arcs held (r ∷ came_by) (one_more_fits nodes arcs held came_by r a is at room) in omega (arith, all)

-- ---- rings within their capacities

pub rings : (fss : List (List FrameRef)) (capacities : List ℕ) → length fss ≡ length capacities → ((p : ℕ) → length (slice_index_or fss p []) ≤ slice_index_or capacities p 0) → sum_by length fss ≤ sum capacities
rings [] [] same each = omega arith
rings [] (c ∷ cs) same each = absurd (omega (arith, same))
rings (fs ∷ fss) [] same each = absurd (omega (arith, same))
rings (fs ∷ fss) (c ∷ cs) same each =
    omega (arith, sum_by-cons (length {A = FrameRef}) fs fss, sum_by-cons (λ (n : ℕ). n) c cs, each 0, rings fss cs (omega (arith, same)) (λ p. each (suc p)))

-- ---- where one is wanted

pub times_of_arc : (r : ℕ) (es : List Entry) → times r (map (λ e. e.arc) es) ≡ length (of_arc r es)
times_of_arc r [] = refl
times_of_arc r (e ∷ es) = sum_by-cons (λ m. cond (m == r) 1 0) e.arc (map (λ (x : Entry). x.arc) es) ∙ go (e.arc == r) (times_of_arc r es)
  where
    go : (b : Bool) → times r (map (λ (x : Entry). x.arc) es) ≡ length (of_arc r es) → cond b 1 0 + times r (map (λ (x : Entry). x.arc) es) ≡ length (cond b (e ∷ of_arc r es) (of_arc r es))
    go true ih = omega (arith, ih)
    go false ih = omega (arith, ih)

pub wanted : (nodes : List Node) (arcs : List Arc) (store : Store) (held : List Held) (inside : List Entry) (r : ℕ) (a : Arc) → slots_out store ≡ sum_by frames_held held + length inside → FitsArcs nodes arcs held (map (λ e. e.arc) inside)
    → slice_get arcs r ≡ Some a → length (of_arc r inside) < room_of nodes a → length store ≡ sum_by (slots_of_arc nodes) arcs → slots_out store < length store
wanted nodes arcs store held inside r a out is at room long =
    let less = spare nodes arcs held (map (λ (e : Entry). e.arc) inside) r a is at (omega (arith, times_of_arc r inside, room)) in
    omega (arith, out, less, length-map inside (λ (e : Entry). e.arc), long)
