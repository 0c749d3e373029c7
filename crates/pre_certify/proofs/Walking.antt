-- Paths back along routes come to a cycle.
use Rattle.std.proofs.Common.{◌≡◌, ◌≢◌, ℕ, zero, suc, ◌+◌, ◌-◌, ◌<◌, ◌≤◌, cond, List, [], ◌∷◌, ◌++◌}
use Rattle.std.proofs.Common.{Option, Some, None, refl, sym, ◌∙◌, ap, subst, arith, inl, inr, length, get_or, take, drop, map}
use Rattle.std.specs.Prelude.{slice_get, All, AllPairs, is_none}
use Rattle.std.specs.Prelude.{Result, Ok, Err, IfOk}
use Rattle.std.proofs.lemmas.Bool.{cases_lt, eqb-true}
use Rattle.std.proofs.lemmas.List.{get_or-take, length-take, length-append, length-map, get_or_append_left, get_or-append-add, get_or-append_right, take-append-drop, drop_more, append-nil}
use Rattle.std.proofs.lemmas.List.Elements.{All-nil, All-cons, All-head, All-append, All-take, All-drop}
use Rattle.std.proofs.lemmas.List.Kept.{AllPairs-cons}
use Rattle.std.proofs.lemmas.List.Sums.{sum_by-cons}
use Rattle.std.proofs.lemmas.List.Folds.{Any-from_list_any}
use Rattle.std.proofs.lemmas.Bool.Decides.{Decides-eqb}
use Rattle.std.proofs.lemmas.Map.Steps.{length-le_from_distinct_below}
use Rattle.std.proofs.lemmas.Map.Made.{IsDistinct-from_AllPairs}
use Rattle.std.specs.Prelude.{nat_eq as eqb}
use Rattle.std.proofs.lemmas.Option.{slice_get-get_or, slice_get_within}
use Rattle.pre_base.specs.declared.numbers.ArcId.{ArcId}
use Rattle.pre_streams.specs.declared.rows.Row.{Row}
use Rattle.pre_bound.specs.Uses.{Follows}
use Rattle.pre_certify.specs.Peels.{IsOpen, open_count}
use Rattle.pre_certify.specs.Causes.{Walks, Closes, LeastFirst, IsCycle}
use Rattle.pre_certify.specs.Paths.{IsDistinct, Leads, IsBackPath, IsTurned}

-- where no place is open, none is counted
pub none_open : (xs : List (Option ℕ)) → ((a : ℕ) → IsOpen xs a → ⊥) → open_count xs ≡ 0
none_open [] h = refl
none_open (None ∷ xs) h = absurd (h 0 refl)
none_open (Some r ∷ xs) h =
    let first = sum_by-cons (λ (o : Option ℕ). cond (is_none o) 1 0) (Some r) xs in
    let rest = none_open xs (λ a. h (suc a)) in
    omega (arith, first, rest)

-- the last arc that was found is open
pub back_open : (rows : List Row) (ranks : List (Option ℕ)) (last : ArcId) (path : List ArcId) → IsBackPath rows ranks last path → IsOpen ranks last.0
back_open rows ranks last path back = All-head (λ a. IsOpen ranks a.0) last back.rest (subst (λ p. All (λ (a : ArcId). IsOpen ranks a.0) p) back.path_is back.still)

pub back_start : (rows : List Row) (ranks : List (Option ℕ)) (last : ArcId) → IsOpen ranks last.0 → IsBackPath rows ranks last (last ∷ [])
back_start rows ranks last open' = record {
  rest = [];
  path_is = refl;
  leads = tt;
  distinct = λ i j d less inside. absurd (omega arith);
  still = All-cons (λ a. IsOpen ranks a.0) last [] open' (All-nil (λ a. IsOpen ranks a.0));
}

same_arc : (a b : ArcId) → a.0 ≡ b.0 → a ≡ b
same_arc a b e = let make : ℕ → ArcId = λ n. record { 0 = n } in ap make e

pub back_step : (rows : List Row) (ranks : List (Option ℕ)) (last arc : ArcId) (path : List ArcId) → IsBackPath rows ranks last path → Follows rows arc.0 last.0 → IsOpen ranks arc.0
    → ((place : ℕ) → slice_get path place ≢ Some arc) → IsBackPath rows ranks arc (arc ∷ path)
back_step rows ranks last arc path back follows open' new = record {
  rest = path;
  path_is = refl;
  leads = subst (λ p. Leads rows arc.0 p) (sym back.path_is) (follows, back.leads);
  distinct = AllPairs-cons (λ a b. a.0 ≢ b.0) arc path
      (λ k d inside e. new k (slice_get-get_or path k d inside ∙ ap Some (sym (same_arc arc (get_or path k d) e))))
      back.distinct;
  still = All-cons (λ a. IsOpen ranks a.0) arc path open' back.still;
}

walks_from : (rows : List Row) (a z : ℕ) (xs : List ArcId) (k : ℕ) (b : ArcId) → Leads rows a xs → slice_get xs k ≡ Some b → Follows rows b.0 z → Walks rows a (take (suc k) xs) z
walks_from rows a z [] k b leads at follows = absurd (cc)
walks_from rows a z (x ∷ xs) zero b leads at follows =
    let same : b ≡ x = cc in
    (leads.0, subst (λ y. Follows rows y.0 z) same follows)
walks_from rows a z (x ∷ xs) (suc k) b leads at follows = (leads.0, walks_from rows x.0 z xs k b leads.1 at follows)

distinct_take : (n : ℕ) (xs : List ArcId) → IsDistinct xs → IsDistinct (take n xs)
distinct_take n xs h i j d less inside =
    let short : j < n = omega (arith, inside, length-take n xs) in
    let whole : j < length xs = omega (arith, inside, length-take n xs) in
    let early : i < n = omega arith in
    let apart = h i j d less whole in
    λ e. apart (ap (λ a. a.0) (sym (get_or-take n xs i d early)) ∙ e ∙ ap (λ a. a.0) (get_or-take n xs j d short))

closes_at : (rows : List Row) (last : ArcId) (rest : List ArcId) (place : ℕ) (arc : ArcId) → Leads rows last.0 rest → Follows rows arc.0 last.0 → slice_get (last ∷ rest) place ≡ Some arc → Closes rows (take (suc place) (last ∷ rest))
closes_at rows last rest zero arc leads follows at = let same : arc ≡ last = cc in subst (λ y. Follows rows y.0 last.0) same follows
closes_at rows last rest (suc k) arc leads follows at = walks_from rows last.0 last.0 rest k arc leads at follows

pub back_closes : (rows : List Row) (ranks : List (Option ℕ)) (last arc : ArcId) (path : List ArcId) (place : ℕ) → IsBackPath rows ranks last path → Follows rows arc.0 last.0 → slice_get path place ≡ Some arc
    → Closes rows (take (place + 1) path) × IsDistinct (take (place + 1) path)
back_closes rows ranks last arc path place back follows at =
    let eq : suc place ≡ place + 1 = omega arith in
    let at' : slice_get (last ∷ back.rest) place ≡ Some arc = subst (λ p. slice_get p place ≡ Some arc) back.path_is at in
    let closed = closes_at rows last back.rest place arc back.leads follows at' in
    (subst (λ n. Closes rows (take n path)) eq (subst (λ p. Closes rows (take (suc place) p)) (sym back.path_is) closed), distinct_take (place + 1) path back.distinct)

-- walks in parts
walks_split : (rows : List Row) (a z : ℕ) (xs : List ArcId) (m : ArcId) (ys : List ArcId) → Walks rows a (xs ++ m ∷ ys) z → Walks rows a xs m.0 × Walks rows m.0 ys z
walks_split rows a z [] m ys w = (w.0, w.1)
walks_split rows a z (x ∷ xs) m ys w = let rest = walks_split rows x.0 z xs m ys w.1 in ((w.0, rest.0), rest.1)

walks_join : (rows : List Row) (a z : ℕ) (xs : List ArcId) (m : ArcId) (ys : List ArcId) → Walks rows a xs m.0 → Walks rows m.0 ys z → Walks rows a (xs ++ m ∷ ys) z
walks_join rows a z [] m ys v w = (v, w)
walks_join rows a z (x ∷ xs) m ys v w = (v.0, walks_join rows x.0 z xs m ys v.1 w)

closes_turned : (rows : List Row) (xs : List ArcId) (m : ArcId) (ys : List ArcId) → Closes rows (xs ++ m ∷ ys) → Closes rows (m ∷ (ys ++ xs))
closes_turned rows [] m ys c = subst (λ l. Walks rows m.0 l m.0) (sym (append-nil ys)) c
closes_turned rows (a ∷ xs) m ys c =
    let parts = walks_split rows a.0 a.0 xs m ys c in
    walks_join rows m.0 m.0 ys a xs parts.1 parts.0

-- the places of two lists joined the other way round
from_left : (xs zs : List ArcId) (i : ℕ) (d : ArcId) → i < length zs → get_or (zs ++ xs) i d ≡ get_or (xs ++ zs) (length xs + i) d
from_left xs zs i d h = get_or_append_left zs xs d i h ∙ sym (get_or-append-add xs zs i d)

from_right : (xs zs : List ArcId) (i : ℕ) (d : ArcId) → length zs ≤ i → i - length zs < length xs → get_or (zs ++ xs) i d ≡ get_or (xs ++ zs) (i - length zs) d
from_right xs zs i d h k = get_or-append_right zs xs (length zs) i d refl h ∙ sym (get_or_append_left xs zs d (i - length zs) k)

distinct_turned : (xs zs : List ArcId) → IsDistinct (xs ++ zs) → IsDistinct (zs ++ xs)
distinct_turned xs zs h i j d less inside =
    let both : j < length zs + length xs = omega (arith, inside, length-append zs xs) in
    elim (cases_lt j (length zs)) [
      | inl low ↦
          let apart = h (length xs + i) (length xs + j) d (omega arith) (omega (arith, length-append xs zs)) in
          λ e. apart (ap (λ a. a.0) (sym (from_left xs zs i d (omega arith))) ∙ e ∙ ap (λ a. a.0) (from_left xs zs j d low))
      | inr high ↦
          elim (cases_lt i (length zs)) [
            | inl low ↦
                let apart = h (j - length zs) (length xs + i) d (omega arith) (omega (arith, length-append xs zs)) in
                λ e. apart (ap (λ a. a.0) (sym (from_right xs zs j d high (omega arith))) ∙ sym e ∙ ap (λ a. a.0) (from_left xs zs i d low))
            | inr late ↦
                let apart = h (i - length zs) (j - length zs) d (omega arith) (omega (arith, length-append xs zs)) in
                λ e. apart (ap (λ a. a.0) (sym (from_right xs zs i d late (omega arith))) ∙ e ∙ ap (λ a. a.0) (from_right xs zs j d high (omega arith)))
          ]
    ]

pub turned_cycle : (rows : List Row) (path turned : List ArcId) → Closes rows path → IsDistinct path → IsTurned path turned → IsCycle rows turned
turned_cycle rows path turned closes distinct t =
    let d : ArcId = record { 0 = 0 } in
    let m = get_or path t.place d in
    let xs = take t.place path in
    let ys = drop (t.place + 1) path in
    let split : drop t.place path ≡ m ∷ ys = drop_more path t.place d t.within in
    let whole : xs ++ drop t.place path ≡ path = take-append-drop t.place path in
    let closes' : Closes rows (xs ++ m ∷ ys) = subst (λ l. Closes rows (xs ++ l)) split (subst (λ l. Closes rows l) (sym whole) closes) in
    let now : turned ≡ m ∷ (ys ++ xs) = t.turned_is ∙ ap (λ l. l ++ xs) split in
    let apart : IsDistinct (drop t.place path ++ xs) = distinct_turned xs (drop t.place path) (subst (λ l. IsDistinct l) (sym whole) distinct) in
    let here : slice_get path t.place ≡ Some m = slice_get-get_or path t.place d t.within in
    let all : All (λ b. m.0 ≤ b.0) path = λ k e inside. t.least k m (get_or path k e) here (slice_get-get_or path k e inside) in
    let first : All (λ b. m.0 ≤ b.0) (ys ++ xs) = All-append (λ b. m.0 ≤ b.0) ys xs (All-drop (λ b. m.0 ≤ b.0) (t.place + 1) path all) (All-take (λ b. m.0 ≤ b.0) t.place path all) in
    record {
      closes = subst (λ l. Closes rows l) (sym now) (closes_turned rows xs m ys closes');
      distinct = subst (λ l. IsDistinct l) (sym t.turned_is) apart;
      first = subst (λ l. LeastFirst l) (sym now) first;
    }

mapped : (xs : List ArcId) (k d : ℕ) (e : ArcId) → k < length xs → get_or (map (λ a. a.0) xs) k d ≡ (get_or xs k e).0
mapped [] k d e h = absurd (omega arith)
mapped (x ∷ xs) zero d e h = refl
mapped (x ∷ xs) (suc k) d e h = mapped xs k d e (omega arith)

-- a path of distinct arcs has no more of them than there are
pub path_short : (rows : List Row) (ranks : List (Option ℕ)) (last : ArcId) (path : List ArcId) → IsBackPath rows ranks last path → length path ≤ length ranks
path_short rows ranks last path back =
    let numbers : List ℕ = map (λ (a : ArcId). a.0) path in
    let long : length numbers ≡ length path = length-map path (λ (a : ArcId). a.0) in
    let apart : AllPairs (λ x y. x ≢ y) numbers =
    λ i j d less inside.
    let e : ArcId = record { 0 = 0 } in
    let there : j < length path = omega (arith, inside, long) in
    let pair = back.distinct i j e less there in
    λ same. pair (sym (mapped path i d e (omega arith)) ∙ same ∙ mapped path j d e there)
    in
    let fits = length-le_from_distinct_below numbers (length ranks) (IsDistinct-from_AllPairs Decides-eqb numbers apart)
    (λ q found.
    let some = Any-from_list_any (eqb q) numbers found in
    let e : ArcId = record { 0 = 0 } in
    let inside : some.0 < length path = omega (arith, some.2, long) in
    let value : q ≡ some.1 = eqb-true q some.1 some.4 in
    let stored : (get_or path some.0 e).0 ≡ some.1 = sym (mapped path some.0 some.1 e inside) ∙ some.3 in
    let open' = back.still some.0 e inside in
    let below = slice_get_within ranks (get_or path some.0 e).0 None open' in
    omega (arith, value, stored, below))
    in
    omega (arith, fits, long)

pub ok_weaker : {T E : Type 0} (P Q : T → Type 0) (r : Result T E) → IfOk r P → ((x : T) → P x → Q x) → IfOk r Q
ok_weaker P Q (Ok x) h f = f x h
ok_weaker P Q (Err e) h f = h
