-- Raw rows without a fault.
use Rattle.std.proofs.Common.{◌≡◌, ℕ, ◌+◌, ◌<◌, true, false, not, ◌&&◌, List, [], ◌∷◌, length, take, get_or, slice_get, Option}
use Rattle.std.proofs.Common.{Some, None, option_map, option_and_then, is_some, position, All, AllPairs, nat_le, refl, sym, ◌∙◌, ap, arith, IsTrue}
use Rattle.std.proofs.Common.{subst}
use Rattle.std.specs.List.{list_any}
use Rattle.std.specs.Option.{option_map_or}
use Rattle.std.specs.Str.{bytes_eq}
use Rattle.std.proofs.lemmas.Bool.{not-false, or_parts, and_parts, leb-true, false≢true}
use Rattle.std.proofs.lemmas.Option.{slice_get-get_or}
use Rattle.std.proofs.lemmas.List.Quantifiers.{position-Some}
use Rattle.pre_text.specs.Words.{is_name}
use Rattle.pre_table.specs.declared.values.Whole.TheVariants.{Natural}
use Rattle.pre_table.specs.FirstFaults.{first_row}
use Rattle.pre_topo.specs.declared.network.Network.{Network}
use Rattle.pre_streams.specs.declared.faults.StreamFault.TheVariants.{Count}
use Rattle.pre_streams.specs.declared.raw.RawStreams.{RawStreams}
use Rattle.pre_streams.specs.declared.raw.RawFlow.{RawFlow}
use Rattle.pre_streams.specs.FileRules.{name_breaks, name_fault, is_named, entry_breaks, other_route, hop_fault, route_fault, class_breaks}
use Rattle.pre_streams.specs.FileRules.{class_fault, row_in_range, curve_in_range, is_carried, range_breaks, range_fault, burst_breaks}
use Rattle.pre_streams.specs.FileRules.{burst_fault, counts_hold, raw_fault}
use Rattle.pre_streams.specs.Holds.{Holds}
use Rattle.pre_table.proofs.NoFaults.{first_none, map_none, unless_none, none_passes, none_breaks, none_before}

pub default_row : RawFlow
default_row = record { name = []; vid = Natural 0; prio = Natural 0; route = []; max = Natural 0 }

not_some : {A : Type 0} (o : Option A) → is_some o ≡ false → o ≡ None
not_some None is = refl
not_some (Some x) is = cc

-- the row at the first place has a value
has_value : {X A : Type 0} (f : X → Option A) (xs : List X) (i : ℕ) → position (λ x. is_some (f x)) xs ≡ Some i → option_and_then f (slice_get xs i) ≡ None → ⊥
has_value f [] i first none = cc
has_value f (x ∷ xs) i first none =
    let (within, passes, before) = position-Some (λ x. is_some (f x)) (x ∷ xs) i x first in
    let there : f (get_or (x ∷ xs) i x) ≡ None = subst (λ o. option_and_then f o ≡ None) (slice_get-get_or (x ∷ xs) i x within) none in
    false≢true (sym (ap (λ o. is_some o) there) ∙ passes)

-- the first place whose row has a value, and that value
placed : {X A : Type 0} (f : X → Option A) (xs : List X) → option_and_then {U = ℕ × A} (λ place. option_map (λ hop. (place, hop)) (option_and_then f (slice_get xs place))) (position (λ x. is_some (f x)) xs) ≡ None → position (λ x. is_some (f x)) xs ≡ None
placed {A = A} f xs none = by_cases (position (λ x. is_some (f x)) xs) refl none
  where
    by_cases : (o : Option ℕ) → o ≡ position (λ x. is_some (f x)) xs → option_and_then {U = ℕ × A} (λ place. option_map (λ hop. (place, hop)) (option_and_then f (slice_get xs place))) o ≡ None → o ≡ None
    by_cases None is none = refl
    by_cases (Some i) is none = absurd (has_value f xs i (sym is) (map_none _ _ none))

module _ (net : Network) (raw : RawStreams) where
  names_hold : name_fault raw ≡ None → All (λ r. IsTrue (is_name r.name)) raw.rows × AllPairs (λ q r. bytes_eq q.name r.name ≡ false) raw.rows
  unfolding name_fault
  names_hold none = (
    λ k d within. not-false (is_name (get_or raw.rows k d).name) (parts k d within).0,
    λ i j d before within. none_before (is_named (get_or raw.rows j d).name) raw.rows j (parts j d within).1 i d before (omega arith),
  )
    where
      parts : (k : ℕ) (d : RawFlow) → k < length raw.rows → (not (is_name (get_or raw.rows k d).name) ≡ false) × (list_any (is_named (get_or raw.rows k d).name) (take k raw.rows) ≡ false)
      parts k d within = or_parts (not (is_name (get_or raw.rows k d).name)) (list_any (is_named (get_or raw.rows k d).name) (take k raw.rows)) (none_breaks (name_breaks raw.rows) raw.rows (map_none _ _ none) k d within)

  hops_hold : route_fault net raw ≡ None → All (λ r. hop_fault net raw.rows r ≡ None) raw.rows
  unfolding route_fault
  hops_hold none k d within =
      not_some (hop_fault net raw.rows (get_or raw.rows k d)) (none_passes (λ r. is_some (hop_fault net raw.rows r)) raw.rows (placed (hop_fault net raw.rows) raw.rows (map_none _ _ none)) k d within)

  class_holds : class_fault net raw ≡ None → (k : ℕ) (d : RawFlow) → k < length raw.rows → class_breaks net raw.curves k (get_or raw.rows k d) ≡ false
  unfolding class_fault
  class_holds none = none_breaks (class_breaks net raw.curves) raw.rows (map_none _ _ none)

  ranges_hold : range_fault net raw ≡ None → (k : ℕ) (d : RawFlow) → k < length raw.rows
      → IsTrue (row_in_range (get_or raw.rows k d)) × IsTrue (option_map_or curve_in_range (slice_get raw.curves k) true) × IsTrue (is_carried net raw.curves k (get_or raw.rows k d))
  unfolding range_fault
  ranges_hold none k d within =
      let row = get_or raw.rows k d in
      let numbers = row_in_range row && option_map_or curve_in_range (slice_get raw.curves k) true in
      let (two, carried) = and_parts numbers (is_carried net raw.curves k row) (not-false (numbers && is_carried net raw.curves k row) (none_breaks (range_breaks net raw.curves) raw.rows (map_none _ _ none) k d within)) in
      let (in_range, curve) = and_parts (row_in_range row) (option_map_or curve_in_range (slice_get raw.curves k) true) two in
      (in_range, curve, carried)

  bursts_hold : burst_fault raw ≡ None → (k : ℕ) (d : RawFlow) → k < length raw.rows → burst_breaks raw.curves k (get_or raw.rows k d) ≡ false
  unfolding burst_fault
  bursts_hold none = none_breaks (burst_breaks raw.curves) raw.rows (map_none _ _ none)

  pub faultless : raw_fault net raw ≡ None → Holds net raw
  faultless none =
      let (names, behind_names) = first_none (name_fault raw) _ none in
      let (routes, behind_routes) = first_none (route_fault net raw) _ behind_names in
      let (class, behind_class) = first_none (class_fault net raw) _ behind_routes in
      let (range, behind_range) = first_none (range_fault net raw) _ behind_class in
      let (burst, behind_burst) = first_none (burst_fault raw) _ behind_range in
      let (count, behind_count) = first_none _ _ behind_burst in
      let named = names_hold names in
      let hops = hops_hold routes in
      let ranges = ranges_hold range in
      let counts = and_parts (nat_le (length raw.curves) 256) (nat_le (length raw.rows) (length raw.curves + 256)) (unless_none (counts_hold raw) Count count) in
      record {
        names = named.0;
        apart = named.1;
        entries = λ k d within. (first_none (first_row (entry_breaks net (get_or raw.rows k d).route) (get_or raw.rows k d).route) _ (hops k d within)).0;
        routes = λ k d within. (first_none (other_route raw.rows (get_or raw.rows k d)) _ (first_none (first_row (entry_breaks net (get_or raw.rows k d).route) (get_or raw.rows k d).route) _ (hops k d within)).1).0;
        class = class_holds class;
        rows = λ k d within. (ranges k d within).0;
        curves = λ k within. (ranges k (default_row) within).1;
        carried = λ k d within. (ranges k d within).2;
        bursts = bursts_hold burst;
        streams_count = leb-true (length raw.curves) 256 counts.0;
        flows_count = leb-true (length raw.rows) (length raw.curves + 256) counts.1;
      }
