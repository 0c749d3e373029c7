-- One stream more, and one less: the rows fit the networks that they fitted.
use Rattle.std.proofs.Common.{◌≡◌, ◌≢◌, ℕ, zero, suc, ◌+◌, ◌<◌, ◌≤◌, Bool, true, false, cond, List, [], ◌∷◌, Option, Some, None, Result, Ok, Err, OnOk}
use Rattle.std.proofs.Common.{OnErr, length, get_or, slice_get, unwrap_or, position, is_some, is_none, IsSome, IsNone, count_by, All, AllPairs, inl, inr, refl, sym, ◌∙◌, ap}
use Rattle.std.proofs.Common.{subst, arith}
use Rattle.std.specs.List.{insert, remove, position_or_len}
use Rattle.std.proofs.lemmas.Bool.{cases_Bool, cases_lt, true≢false, lt-ltb, le-ltb}
use Rattle.std.proofs.lemmas.List.Elements.{All-cons, All-head, All-tail}
use Rattle.std.proofs.lemmas.List.Kept.{AllPairs-cons}
use Rattle.std.proofs.lemmas.List.Quantifiers.{all_pairs_remove}
use Rattle.std.proofs.lemmas.List.Edits.{length-insert}
use Rattle.std.proofs.lemmas.List.Sums.{sum_by-insert, sum_by-remove, sum_by-cons, fails_before_first}
use Rattle.pre_topo.specs.declared.network.Network.{Network}
use Rattle.pre_streams.specs.declared.rows.Row.{Row}
use Rattle.pre_streams.specs.declared.rows.Streams.{Streams}
use Rattle.pre_streams.specs.Rows.{IsRow}
use Rattle.pre_streams.specs.Fits.{Fits, SharesRoute}
use Rattle.pre_streams.specs.Joined.{first_flow, with_stream, CanJoin}

All-insert : {X : Type 0} (P : X → Type 0) (xs : List X) (i : ℕ) (y : X) → i ≤ length xs → All P xs → P y → All P (insert xs i y)
All-insert P xs zero y h each new = All-cons P y xs new each
All-insert P [] (suc i) y h each new = absurd (omega arith)
All-insert P (x ∷ xs) (suc i) y h each new =
    All-cons P x (insert xs i y) (All-head P x xs each) (All-insert P xs i y (omega arith) (All-tail P x xs each) new)

All-remove : {X : Type 0} (P : X → Type 0) (xs : List X) (i : ℕ) → All P xs → All P (remove xs i)
All-remove P [] zero each = each
All-remove P [] (suc i) each = each
All-remove P (x ∷ xs) zero each = All-tail P x xs each
All-remove P (x ∷ xs) (suc i) each = All-cons P x (remove xs i) (All-head P x xs each) (All-remove P xs i (All-tail P x xs each))

AllPairs-rest : {X : Type 0} (R : X → X → Type 0) (x : X) (xs : List X) → AllPairs R (x ∷ xs) → AllPairs R xs
AllPairs-rest R x xs pairs i j d less inside = pairs (suc i) (suc j) d (omega arith) (omega arith)

AllPairs-first : {X : Type 0} (R : X → X → Type 0) (x : X) (xs : List X) → AllPairs R (x ∷ xs) → All (R x) xs
AllPairs-first R x xs pairs k d inside = pairs 0 (suc k) d (omega arith) (omega arith)

-- a pair's relation for the elements before a new one, and for those behind it
AllPairs-insert : {X : Type 0} (R : X → X → Type 0) (xs : List X) (i : ℕ) (y : X) → i ≤ length xs → AllPairs R xs
    → ((k : ℕ) (d : X) → k < i → R (get_or xs k d) y) → ((k : ℕ) (d : X) → i ≤ k → k < length xs → R y (get_or xs k d)) → AllPairs R (insert xs i y)
AllPairs-insert R xs zero y h pairs before behind = AllPairs-cons R y xs (λ k d inside. behind k d (omega arith) inside) pairs
AllPairs-insert R [] (suc i) y h pairs before behind = absurd (omega arith)
AllPairs-insert R (x ∷ xs) (suc i) y h pairs before behind =
    AllPairs-cons R x (insert xs i y) (All-insert (R x) xs i y (omega arith) (AllPairs-first R x xs pairs) (before 0 x (omega arith)))
    (AllPairs-insert R xs i y (omega arith) (AllPairs-rest R x xs pairs) (λ k d less. before (suc k) d (omega arith)) (λ k d from inside. behind (suc k) d (omega arith) (omega arith)))

count_removed : {X : Type 0} (p : X → Bool) (xs : List X) (i : ℕ) (d : X) → i < length xs → count_by p (remove xs i) ≤ count_by p xs
count_removed p xs i d inside = let whole = sum_by-remove (λ x. cond (p x) 1 0) xs i d inside in omega (arith, whole)

-- each row is a stream or a flow
two_kinds : (rows : List Row) → count_by (λ r. is_some r.curve) rows + count_by (λ r. is_none r.curve) rows ≡ length rows
two_kinds [] = refl
two_kinds (r ∷ rows) =
    let rest = two_kinds rows in
    let streams = sum_by-cons (λ (x : Row). cond (is_some x.curve) 1 0) r rows in
    let flows = sum_by-cons (λ (x : Row). cond (is_none x.curve) 1 0) r rows in
    let one = one_kind r.curve in
    omega (arith, rest, streams, flows, one)
  where
    one_kind : {A : Type 0} (o : Option A) → cond {A = ℕ} (is_some o) 1 0 + cond (is_none o) 1 0 ≡ 1
    one_kind (Some a) = refl
    one_kind None = refl

pub first_within : {X : Type 0} (p : X → Bool) (xs : List X) → position_or_len p xs ≤ length xs
first_within p [] = omega arith
first_within p (x ∷ xs) =
    let rest = first_within p xs in
    elim (cases_Bool (p x)) [
      | inl flow ↦ rw flow (omega arith)
      | inr other ↦ rw other (omega (arith, rest))
    ]

pub first_or_end : {X : Type 0} (p : X → Bool) (xs : List X) → unwrap_or (position p xs) (length xs) ≡ position_or_len p xs
first_or_end p xs =
    elim (cases_lt (position_or_len p xs) (length xs)) [
      | inl less ↦ rw (lt-ltb (position_or_len p xs) (length xs) less) refl
      | inr past ↦ let end = first_within p xs in rw (le-ltb (position_or_len p xs) (length xs) past) (omega (arith, past, end))
    ]

pub few_with : (rows : List Row) (row : Row) → CanJoin rows row → length (with_stream rows row) ≤ 512
few_with rows row can =
    let longer = length-insert rows (first_flow rows) row (first_within (λ r. is_none r.curve) rows) in
    let kinds = two_kinds rows in
    omega (arith, longer, kinds, can.streams_count, can.flows_count)

both_kinds : {A : Type 0} (o : Option A) → IsSome o → IsNone o → ⊥
both_kinds (Some a) some none = cc
both_kinds None some none = cc

is_flow : {A : Type 0} (o : Option A) → IsNone o → is_none o ≡ true
is_flow (Some a) none = absurd (cc)
is_flow None none = refl

some_counts : {A : Type 0} (o : Option A) → cond {A = ℕ} (is_some o) 1 0 ≤ 1
some_counts (Some a) = omega arith
some_counts None = omega arith

no_flow : {A : Type 0} (o : Option A) → IsSome o → cond {A = ℕ} (is_none o) 1 0 ≡ 0
no_flow (Some a) some = refl
no_flow None some = absurd (cc)

-- the row stands where its place was found
pub placed : {T E : Type 0} (result : Result T E) (place : ℕ) (rows new : List Row) (row : Row) → place ≡ first_flow rows → OnOk result (new ≡ insert rows place row) → OnOk result (new ≡ with_stream rows row)
placed (Ok x) place rows new row at ok = ok ∙ ap (λ n. insert rows n row) at
placed (Err e) place rows new row at ok = ok

-- after a call that puts the row in or changes nothing
pub few_after : {T E : Type 0} (result : Result T E) (rows new : List Row) (row : Row) → CanJoin rows row → length rows ≤ 512
    → OnOk result (new ≡ with_stream rows row) → OnErr result (new ≡ rows) → length new ≤ 512
few_after (Ok x) rows new row can few ok err = subst (λ l. length l ≤ 512) (sym ok) (few_with rows row can)
few_after (Err e) rows new row can few ok err = subst (λ l. length l ≤ 512) (sym err) few

same_rows : (net : Network) (streams new : Streams) → new.rows ≡ streams.rows → Fits net streams → Fits net new
same_rows net streams new same fits = record {
  each = subst (All (IsRow net)) (sym same) fits.each;
  names = subst (AllPairs (λ q r. q.name ≢ r.name)) (sym same) fits.names;
  routes = subst (AllPairs SharesRoute) (sym same) fits.routes;
  streams_first = subst (AllPairs (λ q r. IsNone q.curve → IsNone r.curve)) (sym same) fits.streams_first;
  streams_count = subst (λ rows. count_by (λ r. is_some r.curve) rows ≤ 256) (sym same) fits.streams_count;
  flows_count = subst (λ rows. count_by (λ r. is_none r.curve) rows ≤ 256) (sym same) fits.flows_count;
}

module _ (net : Network) (streams new : Streams) (row : Row) (can : CanJoin streams.rows row) (fits : Fits net streams) (is : IsRow net row) (rows_are : new.rows ≡ with_stream streams.rows row) where
  abbrev place : ℕ
  place = first_flow streams.rows

  inside : place ≤ length streams.rows
  inside = first_within (λ r. is_none r.curve) streams.rows

  -- a row before the new one is a stream
  before : (k : ℕ) (d : Row) → k < place → is_none (get_or streams.rows k d).curve ≡ false
  before k d less = fails_before_first (λ r. is_none r.curve) streams.rows k d less

  pub joined_fits : Fits net new
  joined_fits = record {
    each = subst (All (IsRow net)) (sym rows_are) (All-insert (IsRow net) streams.rows place row inside fits.each is);
    names = subst (AllPairs (λ q r. q.name ≢ r.name)) (sym rows_are)
        (AllPairs-insert (λ q r. q.name ≢ r.name) streams.rows place row inside fits.names (λ k d less. can.name k d (omega (arith, less, inside))) (λ k d from in_ same. can.name k d in_ (sym same)));
    routes = subst (AllPairs SharesRoute) (sym rows_are)
        (AllPairs-insert SharesRoute streams.rows place row inside fits.routes (λ k d less. can.route k d (omega (arith, less, inside)))
        (λ k d from in_ same. let other = can.route k d in_ (sym same) in (sym other.0, sym other.1)));
    streams_first = subst (AllPairs (λ q r. IsNone q.curve → IsNone r.curve)) (sym rows_are)
        (AllPairs-insert (λ q r. IsNone q.curve → IsNone r.curve) streams.rows place row inside fits.streams_first
        (λ k d less none. absurd (true≢false (sym (is_flow (get_or streams.rows k d).curve none) ∙ before k d less))) (λ k d from in_ none. absurd (both_kinds row.curve can.stream none)));
    streams_count = subst (λ rows. count_by (λ r. is_some r.curve) rows ≤ 256) (sym rows_are)
        (let more : count_by (λ r. is_some r.curve) (with_stream streams.rows row) ≡ count_by (λ r. is_some r.curve) streams.rows + cond {A = ℕ} (is_some row.curve) 1 0 = sum_by-insert (λ (r : Row). cond (is_some r.curve) 1 0) streams.rows place row in
        let one = some_counts row.curve in
        omega (arith, more, one, can.streams_count));
    flows_count = subst (λ rows. count_by (λ r. is_none r.curve) rows ≤ 256) (sym rows_are)
        (let more : count_by (λ r. is_none r.curve) (with_stream streams.rows row) ≡ count_by (λ r. is_none r.curve) streams.rows + cond {A = ℕ} (is_none row.curve) 1 0 = sum_by-insert (λ (r : Row). cond (is_none r.curve) 1 0) streams.rows place row in
        let none = no_flow row.curve can.stream in
        omega (arith, more, none, fits.flows_count));
  }

pub fits_after : {T E : Type 0} (result : Result T E) (net : Network) (streams new : Streams) (row : Row) → CanJoin streams.rows row
    → OnOk result (new.rows ≡ with_stream streams.rows row) → OnErr result (new.rows ≡ streams.rows) → Fits net streams → IsRow net row → Fits net new
fits_after (Ok x) net streams new row can ok err fits is = joined_fits net streams new row can fits is ok
fits_after (Err e) net streams new row can ok err fits is = same_rows net streams new err fits

module _ (net : Network) (streams new : Streams) (i : ℕ) (d : Row) (fits : Fits net streams) (inside : i < length streams.rows) (rows_are : new.rows ≡ remove streams.rows i) where
  pub left_fits : Fits net new
  left_fits = record {
    each = subst (All (IsRow net)) (sym rows_are) (All-remove (IsRow net) streams.rows i fits.each);
    names = subst (AllPairs (λ q r. q.name ≢ r.name)) (sym rows_are) (all_pairs_remove (λ q r. q.name ≢ r.name) streams.rows i inside fits.names);
    routes = subst (AllPairs SharesRoute) (sym rows_are) (all_pairs_remove SharesRoute streams.rows i inside fits.routes);
    streams_first = subst (AllPairs (λ q r. IsNone q.curve → IsNone r.curve)) (sym rows_are) (all_pairs_remove (λ q r. IsNone q.curve → IsNone r.curve) streams.rows i inside fits.streams_first);
    streams_count = subst (λ rows. count_by (λ r. is_some r.curve) rows ≤ 256) (sym rows_are)
        (let less = count_removed (λ (r : Row). is_some r.curve) streams.rows i d inside in omega (arith, less, fits.streams_count));
    flows_count = subst (λ rows. count_by (λ r. is_none r.curve) rows ≤ 256) (sym rows_are)
        (let less = count_removed (λ (r : Row). is_none r.curve) streams.rows i d inside in omega (arith, less, fits.flows_count));
  }

-- a place at which there is a row is within
pub within_place : {X : Type 0} (xs : List X) (i : ℕ) (x : X) → slice_get xs i ≡ Some x → i < length xs
within_place [] i x at = absurd (cc)
within_place (y ∷ xs) zero x at = omega arith
within_place (y ∷ xs) (suc i) x at = let rest = within_place xs i x at in omega (arith, rest)
