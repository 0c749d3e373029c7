-- The sends of each stream keep to its curve: each send finds the bucket full, since the rate gives the burst back from one to the next.
use Rattle.std.proofs.Common.{◌≡◌, ℕ, zero, suc, ◌+◌, ◌-◌, ◌*◌, ◌<◌, ◌≤◌, ◌==◌, inl, inr, List, [], ◌∷◌}
use Rattle.std.proofs.Common.{length, get_or, map, filter, Some, None, option_map, All, AllPairs, sym, ◌∙◌, ap, subst, arith}
use Rattle.std.proofs.lemmas.Bool.{cases_lt, cases_eq, eqb-true}
use Rattle.std.proofs.lemmas.List.{length-map, get_or-map}
use Rattle.std.proofs.lemmas.List.Elements.{All-filter, filter_passes}
use Rattle.std.proofs.lemmas.List.Kept.{AllPairs-filter}
use Rattle.std.proofs.lemmas.Option.{same_Some, none-some, slice_get_within, get_or_from_slice_get}
use Rattle.pre_base.specs.declared.numbers.Send.{Send}
use Rattle.pre_curve.specs.declared.curves.Curve.{Curve}
use Rattle.pre_curve.specs.Buckets.{Conforms, refilled}
use Rattle.pre_curve.specs.Windows.{Offer, offer_of, offers_of, tick_at, InOrder, Obeys}
use Rattle.pre_curve.proofs.Tokens.{Obeys-from_conforms}
use Rattle.pre_streams.specs.declared.rows.Row.{Row}
use Rattle.pre_streams.specs.Made.{RowParts, row_parts, curve_parts}
use Rattle.pre_script.specs.declared.scripts.SendLine.{SendLine}
use Rattle.pre_plant.specs.Curves.{sends_of, CurvesHold}
use Rattle.pre_plant.specs.Rows.{stream_max, plant_rows}
use Rattle.pre_plant.specs.Scripts.{sends_by_row, AreOrdered, ComesBefore}
use Rattle.pre_plant.proofs.RowRules.{pairs_behind, rows_long, stream_at, flow_at}
use Rattle.pre_plant.proofs.Sending.{IsOfRow, Apart, gap_of_stream, permuted_are, permuted_apart}

-- ---- from a full bucket on

module _ (curve : Curve) (octets : ℕ) (burst : curve.burst ≡ octets) (rate : curve.rate ≡ 200) where
  abbrev IsBurst : Send → Type 0
  IsBurst s = s.size + 20 ≡ octets

  abbrev Later : Send → Send → Type 0
  Later a b = a.tick.0 + 5000 * octets ≤ b.tick.0

  abbrev Full : ℕ → ℕ → Send → Type 0
  Full tokens latest s = 1_000_000 * octets ≤ tokens + 200 * (s.tick.0 - latest)

  gives : (t : ℕ) → curve.rate * t ≡ 200 * t
  gives t = ap (λ r. r * t) rate

  conforms : (tokens latest : ℕ) (sends : List Send) → All IsBurst sends → AllPairs Later sends → All (Full tokens latest) sends → Conforms curve tokens latest (offers_of sends)
  conforms tokens latest [] sizes gaps full = tt
  conforms tokens latest (s ∷ sends) sizes gaps full =
      let size : s.size + 20 ≡ octets = sizes zero s (omega arith) in
      let filled : 1_000_000 * octets ≤ tokens + 200 * (s.tick.0 - latest) = full zero s (omega arith) in
      let back = gives (s.tick.0 - latest) in
      let level : refilled curve tokens (s.tick.0 - latest) ≡ 1_000_000 * octets = omega (arith, filled, back, burst) in (
        omega (arith, level, size),
        conforms (refilled curve tokens (s.tick.0 - latest) - 1_000_000 * (s.size + 20)) s.tick.0 sends
            (λ k d within. sizes (suc k) d (omega arith))
            (λ i j d before within. gaps (suc i) (suc j) d (omega arith) (omega arith))
            (λ k d within. let later = gaps zero (suc k) d (omega arith) (omega arith) in omega (arith, later, level, size)),
      )

-- ---- their order

module _ (sends : List Send) (order : AllPairs (λ a b. a.tick.0 ≤ b.tick.0) sends) where
  tick_is : (i : ℕ) (d : Send) → i < length sends → tick_at (offers_of sends) i ≡ (get_or sends i d).tick.0
  tick_is i d within =
      get_or-map (λ (o : Offer). o.tick) (offers_of sends) i (offer_of d) 0 (omega (arith, length-map sends offer_of)) ∙ ap (λ (o : Offer). o.tick) (get_or-map offer_of sends i d (offer_of d) within)

  in_order : InOrder (offers_of sends)
  in_order i j le within =
      let long = length-map sends offer_of in
      let d : Send = record { tick = record { 0 = 0 }; stream = record { 0 = 0 }; size = 0 } in
      elim (cases_eq i j) [
        | inl same ↦ omega (arith, ap (λ k. tick_at (offers_of sends) k) same)
        | inr apart ↦ omega (arith, tick_is i d (omega arith), tick_is j d (omega arith), order i j d (omega (arith, le, apart)) (omega arith))
      ]

-- ---- of one stream

later_tick : (a b : Send) → ComesBefore a b → a.tick.0 ≤ b.tick.0
later_tick a b before = elim before [ inl p ↦ omega (arith, p) | inr p ↦ omega (arith, p.0) ]

module _ (draws : List ℕ) (lines : List SendLine) (ordered : AreOrdered (sends_by_row draws) (map (λ s. s.send) lines)) (i : ℕ) (low : i < 60) where
  abbrev of_row : List SendLine
  of_row = filter (λ s. s.send.stream.0 == i) lines

  abbrev OfStream : Send → Type 0
  OfStream s = (s.stream.0 ≡ i) × (s.size ≡ stream_max draws i)

  sizes_by_row : All (λ s. IsOfRow draws s.send) lines
  sizes_by_row k d within =
      subst (IsOfRow draws) (get_or-map (λ (s : SendLine). s.send) lines k d d.send within)
      (permuted_are draws (map (λ s. s.send) lines) ordered.same k d.send (omega (arith, length-map lines (λ (s : SendLine). s.send))))

  of_stream : (s : Send) → s.stream.0 ≡ i → IsOfRow draws s → OfStream s
  of_stream s at is =
      elim is [
        | inl p ↦ (at, p.2.size_is ∙ ap (stream_max draws) (sym p.2.stream_is ∙ at))
        | inr p ↦ absurd (omega (arith, p.2.stream_is, at, low))
      ]

  each_of_stream : All (λ s. OfStream s.send) of_row
  each_of_stream k d within =
      let s = get_or of_row k d in
      of_stream s.send (eqb-true s.send.stream.0 i (filter_passes (λ (s : SendLine). s.send.stream.0 == i) lines k d within)) (All-filter (λ (s : SendLine). s.send.stream.0 == i)
      (λ s. IsOfRow draws s.send) lines sizes_by_row k d within)

  pairs_of_stream : AllPairs (λ a b. Apart a.send b.send × ComesBefore a.send b.send) of_row
  pairs_of_stream =
      AllPairs-filter (λ a b. Apart a.send b.send × ComesBefore a.send b.send) (λ s. s.send.stream.0 == i) lines
      (λ p q d before within. (
        pairs_behind Apart (λ (s : SendLine). s.send) lines (permuted_apart draws (map (λ s. s.send) lines) ordered.same) p q d before within,
        pairs_behind ComesBefore (λ (s : SendLine). s.send) lines ordered.order p q d before within,
      ))

  abbrev sent : List Send
  sent = sends_of lines i

  sent_of_stream : All OfStream sent
  sent_of_stream k d within =
      let ls : SendLine = record { send = d; line = 0 } in
      let inside : k < length of_row = omega (arith, within, length-map of_row (λ (s : SendLine). s.send)) in
      subst OfStream (sym (get_or-map (λ (s : SendLine). s.send) of_row k ls d inside)) (each_of_stream k ls inside)

  sent_pairs : AllPairs (λ a b. Apart a b × ComesBefore a b) sent
  sent_pairs p q d before within =
      let ls : SendLine = record { send = d; line = 0 } in
      let inside : q < length of_row = omega (arith, within, length-map of_row (λ (s : SendLine). s.send)) in
      subst (λ a. Apart a (get_or sent q d) × ComesBefore a (get_or sent q d)) (sym (get_or-map (λ (s : SendLine). s.send) of_row p ls d (omega (arith, before, inside))))
      (subst (λ b. Apart (get_or of_row p ls).send b × ComesBefore (get_or of_row p ls).send b) (sym (get_or-map (λ (s : SendLine). s.send) of_row q ls d inside))
      (pairs_of_stream p q ls before inside))

  sent_in_order : AllPairs (λ a b. a.tick.0 ≤ b.tick.0) sent
  sent_in_order p q d before within = later_tick (get_or sent p d) (get_or sent q d) (sent_pairs p q d before within).1

  sent_later : AllPairs (λ a b. a.tick.0 + 5000 * (stream_max draws i + 20) ≤ b.tick.0) sent
  sent_later p q d before within =
      let a = get_or sent p d in
      let b = get_or sent q d in
      let one = sent_of_stream p d (omega (arith, before, within)) in
      let two = sent_of_stream q d within in
      let pair = sent_pairs p q d before within in
      let wide = gap_of_stream a (omega (arith, one.0, low)) in
      elim (pair.0 (one.0 ∙ sym two.0)).ticks [
        | inl up ↦ omega (arith, up, wide, one.1)
        | inr down ↦ omega (arith, down, wide, later_tick a b pair.1)
      ]

  pub stream_obeys : (c : Curve) → c.burst ≡ stream_max draws i + 20 → c.rate ≡ 200 → Obeys (offers_of sent) c
  stream_obeys c burst rate =
      Obeys-from_conforms (offers_of sent) c (in_order sent sent_in_order)
      (conforms c (stream_max draws i + 20) burst rate (1_000_000 * c.burst) 0 sent
      (λ k d within. omega (arith, (sent_of_stream k d within).1))
      sent_later
      (λ k d within. omega (arith, burst)))

pub curves_hold : (draws : List ℕ) (rows : List Row) (lines : List SendLine) → map row_parts rows ≡ plant_rows draws → AreOrdered (sends_by_row draws) (map (λ s. s.send) lines) → CurvesHold rows lines
curves_hold draws rows lines are ordered i r c at curve =
    let within = slice_get_within rows i r at in
    let row : get_or rows i r ≡ r = get_or_from_slice_get rows i r r at in
    elim (cases_lt i 60) [
      | inl lt ↦
          let parts = ap row_parts (sym row) ∙ stream_at draws rows are i r lt in
          let said : option_map curve_parts r.curve ≡ Some (stream_max draws i + 20, 200) = ap (λ (p : RowParts). p.curve) parts in
          let same : curve_parts c ≡ (stream_max draws i + 20, 200) = same_Some (curve_parts c) (stream_max draws i + 20, 200) (ap (option_map curve_parts) (sym curve) ∙ said) in
          stream_obeys draws lines ordered i lt c (ap (λ (p : ℕ × ℕ). p.0) same) (ap (λ (p : ℕ × ℕ). p.1) same)
      | inr le ↦
          let low : i - 60 < 30 = omega (arith, within, rows_long draws rows are) in
          let on : 60 + (i - 60) ≡ i = omega arith in
          let parts = ap row_parts (sym row) ∙ ap (λ k. row_parts (get_or rows k r)) (sym on) ∙ flow_at draws rows are (i - 60) r low in
          let none : option_map curve_parts r.curve ≡ None = ap (λ (p : RowParts). p.curve) parts in
          absurd (none-some (curve_parts c) (sym none ∙ ap (option_map curve_parts) curve))
    ]
