-- The first row with a fault of its route, found by going through the rows with the place at which each VID came first.
use Rattle.std.proofs.Common.{◌≡◌, ℕ, ◌+◌, ◌<◌, true, false, cond, List, length, get_or, take, Option, Some, None, is_some, refl}
use Rattle.std.proofs.Common.{sym, ◌∙◌, ap, ap₂, subst, arith, slice_get, unwrap_or, option_map}
use Rattle.std.specs.List.{find}
use Rattle.std.specs.Option.{option_or}
use Rattle.std.specs.Prelude.{option_and_then}
use Rattle.std.proofs.lemmas.Bool.{eq-eqb}
use Rattle.std.proofs.lemmas.List.{take_more, length-take-le}
use Rattle.std.proofs.lemmas.Option.{slice_get-get_or}
use Rattle.pre_table.specs.declared.values.Whole.{Whole}
use Rattle.pre_table.specs.declared.values.Whole.TheVariants.{Natural, Negative}
use Rattle.pre_table.specs.Values.{same_whole}
use Rattle.pre_topo.specs.declared.network.Network.{Network}
use Rattle.pre_streams.specs.declared.first_places.FirstPlaces.{FirstPlaces}
use Rattle.pre_streams.specs.declared.raw.RawFlow.{RawFlow}
use Rattle.pre_streams.specs.FirstPlaces.{place_of}
use Rattle.pre_streams.specs.FileRules.{has_vid, hop_fault, bad_route}
use Rattle.pre_streams.proofs.FoundPlaces.{place_in, place_pushed, found_at, position_at, position_none}

same_as_itself : (w : Whole) → same_whole w w ≡ true
same_as_itself (Natural n) = eq-eqb n n refl
same_as_itself (Negative n) = eq-eqb n n refl

-- each VID stands at the place at which it came first in these rows
abbrev pub ArePlaces : FirstPlaces → List RawFlow → Type 0
ArePlaces firsts rows = (w : Whole) → place_of firsts w ≡ place_in (has_vid w) rows

module _ (rows : List RawFlow) (i : ℕ) (r : RawFlow) (here : r ≡ get_or rows i r) (within : i < length rows) where
  -- the first row of this one's VID
  pub first_found : (firsts : FirstPlaces) (first : ℕ) → ArePlaces firsts (take i rows) → first ≡ unwrap_or (place_of firsts r.vid) i → find (has_vid r.vid) rows ≡ slice_get rows first
  first_found firsts first places first_is =
      found_at (has_vid r.vid) rows i r within (subst (λ q. same_whole q.vid r.vid ≡ true) here (same_as_itself r.vid))
      ∙ ap (slice_get rows) (sym (first_is ∙ ap (λ a. unwrap_or a i) (places r.vid)))

  -- the places, after one more row
  pub places_more : (old new : FirstPlaces) → ArePlaces old (take i rows) →
      ((w : Whole) → place_of new w ≡ option_or (place_of old w) (cond (same_whole r.vid w) (Some i) None)) → ArePlaces new (take (i + 1) rows)
  places_more old new places kept w =
      kept w
      ∙ ap (λ a. option_or a (cond (same_whole r.vid w) (Some i) None)) (places w)
      ∙ ap₂ (λ q n. option_or (place_in (has_vid w) (take i rows)) (cond (same_whole q.vid w) (Some n) None)) here (sym (length-take-le i rows (omega (arith, within))))
      ∙ sym (place_pushed (has_vid w) (take i rows) (get_or rows i r))
      ∙ ap (place_in (has_vid w)) (sym (take_more rows i r within))

module _ (net : Network) (rows : List RawFlow) (i : ℕ) (none : (k : ℕ) (e : RawFlow) → k < i → is_some (hop_fault net rows (get_or rows k e)) ≡ false) where
  abbrev in_row : ℕ → Option (ℕ × ℕ)
  in_row place = option_map (λ hop. (place, hop)) (option_and_then (hop_fault net rows) (slice_get rows place))

  -- the first row with a fault
  pub route_at : (r : RawFlow) (hop : ℕ) → r ≡ get_or rows i r → i < length rows → hop_fault net rows r ≡ Some hop → bad_route net rows ≡ Some (i, hop)
  route_at r hop here within fault =
      let there = subst (λ q. hop_fault net rows q ≡ Some hop) here fault in
      ap (option_and_then in_row) (position_at (λ q. is_some (hop_fault net rows q)) rows i r none within (ap (λ (o : Option ℕ). is_some o) there))
      ∙ ap (λ o. option_map (λ hop. (i, hop)) (option_and_then (hop_fault net rows) o)) (slice_get-get_or rows i r within)
      ∙ ap (option_map (λ hop. (i, hop))) there

  -- no row has one
  pub route_none : i ≡ length rows → bad_route net rows ≡ None
  route_none end = ap (option_and_then in_row) (position_none (λ q. is_some (hop_fault net rows q)) rows i none end)
