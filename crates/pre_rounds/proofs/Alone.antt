-- One fault at most has a cause, and none beside a settled round that fits.
use Rattle.std.proofs.Common.{◌≡◌, ◌⊎◌, ℕ, zero, suc, ◌+◌, ◌*◌, ◌<◌, ◌≤◌, Bool, List, Some, Result, Ok, Err, refl}
use Rattle.std.proofs.Common.{sym, ◌∙◌, ap, subst, arith, inl, inr, length, get_or}
use Rattle.std.specs.Prelude.{slice_get, IfErr, IfOk}
use Rattle.std.proofs.lemmas.Bool.{cases_order, cases_lt, true≢false}
use Rattle.pre_base.specs.declared.numbers.ArcId.{ArcId}
use Rattle.pre_base.specs.declared.numbers.StreamId.{StreamId}
use Rattle.pre_topo.specs.declared.network.Network.{Network}
use Rattle.pre_streams.specs.declared.rows.Row.{Row}
use Rattle.pre_bound.specs.declared.certificate.Certificate.{Certificate}
use Rattle.pre_bound.specs.Limits.{limit}
use Rattle.pre_bound.specs.Uses.{TakesAt}
use Rattle.pre_bound.specs.Along.{Delays}
use Rattle.pre_bound.specs.Passing.{ticks_before}
use Rattle.pre_bound.proofs.Hops.{TakesAt-from}
use Rattle.pre_bound.proofs.Ordered.{ticks-suc}
use Rattle.pre_certify.specs.Loads.{FirstOverload, NoOverload}
use Rattle.pre_rounds.specs.Rounds.{round_bursts}
use Rattle.pre_rounds.specs.Passing.{passes_over, some_differs, need_over, is_short}
use Rattle.pre_rounds.specs.Settling.{last_round, GoesOn, GoOnBefore, SettlesAt, IsFirstPort}
use Rattle.pre_rounds.specs.Causes.{FirstLarge, FirstUnsettled, round_delays, NoneWide, FirstWide, FirstWideRound, FirstShort, Cause}
use Rattle.pre_rounds.specs.Answers.{IsOfSettled, NoneCaused, IsAlone}
use Rattle.pre_rounds.specs.declared.faults.RoundsFault.{RoundsFault}
use Rattle.pre_rounds.specs.declared.faults.RoundsFault.TheVariants.{Overload, Large, Unsettled, Wide, Ring, Memory}

-- more hops take no fewer ticks
ticks_le : (net : Network) (delays : Delays) (r : Row) (j k : ℕ) → j ≤ k → k ≤ length r.arcs → ticks_before net delays r j ≤ ticks_before net delays r k
ticks_le net delays r j zero h inside = let none : j ≡ 0 = omega arith in subst (λ n. ticks_before net delays r n ≤ ticks_before net delays r 0) (sym none) (omega arith)
ticks_le net delays r j (suc k) h inside =
    elim (cases_lt k j) [
      | inl more ↦ let same : suc k ≡ j = omega arith in subst (λ n. ticks_before net delays r j ≤ ticks_before net delays r n) (sym same) (omega arith)
      | inr less ↦
          let d : ArcId = record { 0 = 0 } in
          let here : TakesAt r k (get_or r.arcs k d).0 = TakesAt-from r k d (omega arith) in
          let before = ticks_le net delays r j k less (omega arith) in
          let step = ticks-suc net delays r k (get_or r.arcs k d).0 here in
          let eq : k + 1 ≡ suc k = omega arith in
          subst (λ n. ticks_before net delays r j ≤ ticks_before net delays r n) eq (omega (arith, before, step))
    ]

module _ (net : Network) (rows : List Row) where
  same_port : (test : ℕ → ℕ → Bool) (a p b q : ℕ) → IsFirstPort net rows test a p → IsFirstPort net rows test b q → (a ≡ b) × (p ≡ q)
  same_port test a p b q one two =
      elim (cases_order (a * 8 + p) (b * 8 + q)) [
        | inl place ↦ (omega (arith, place, one.within.1, two.within.1), omega (arith, place, one.within.1, two.within.1))
        | inr apart ↦
            elim apart [
              | inl less ↦ absurd (true≢false (sym one.here ∙ two.before a p one.within.0 one.within.1 one.port less))
              | inr more ↦ absurd (true≢false (sym two.here ∙ one.before b q two.within.0 two.within.1 two.port more))
            ]
      ]

  -- the rounds go on up to one of them alone
  same_end : (i j : ℕ) → GoOnBefore net rows i → ¬ GoesOn net rows i → GoOnBefore net rows j → ¬ GoesOn net rows j → i ≡ j
  same_end i j before end before' end' =
      elim (cases_order i j) [
        | inl same ↦ same
        | inr apart ↦
            elim apart [
              | inl less ↦ absurd (end (before' i less))
              | inr more ↦ absurd (end' (before j more))
            ]
      ]

  large_ends : (a p : ℕ) (first : FirstLarge net rows a p) → ¬ GoesOn net rows first.round
  large_ends a p first goes = true≢false (sym first.here.here ∙ goes.small a p first.here.within.0 first.here.within.1 first.here.port)

  settled_ends : (round : ℕ) → SettlesAt net rows round → ¬ GoesOn net rows round
  settled_ends round settles goes = goes.unsettled settles.settled

  same_settled : (i j : ℕ) → SettlesAt net rows i → SettlesAt net rows j → i ≡ j
  same_settled i j one two = same_end i j one.before (settled_ends i one) two.before (settled_ends j two)

  no_overload : (arc : ℕ) → FirstOverload net rows arc → NoOverload net rows → ⊥
  no_overload arc first none = true≢false (sym first.overloaded ∙ none arc first.within)

  large_settled : (a p j : ℕ) → FirstLarge net rows a p → SettlesAt net rows j → ⊥
  large_settled a p j first settles =
      let same = same_end first.round j first.before (large_ends a p first) settles.before (settled_ends j settles) in
      let quiet = settles.small a p first.here.within.0 first.here.within.1 first.here.port in
      true≢false (sym first.here.here ∙ ap (λ n. passes_over net rows (round_bursts net rows n) a p) same ∙ quiet)

  large_unsettled : (a p b q : ℕ) → FirstLarge net rows a p → FirstUnsettled net rows b q → ⊥
  large_unsettled a p b q first none = large_ends a p first (none.before first.round (omega (arith, first.within)))

  settled_unsettled : (i b q : ℕ) → SettlesAt net rows i → FirstUnsettled net rows b q → ⊥
  settled_unsettled i b q settles none = settled_ends i settles (none.before i (omega (arith, settles.within)))

  pub wide_ticks : (delays : Delays) (stream hop : ℕ) (first : FirstWide net rows delays stream hop) → limit < ticks_before net delays first.row (length first.row.arcs)
  wide_ticks delays stream hop first =
      let more = ticks_le net delays first.row (hop + 1) (length first.row.arcs) (omega (arith, first.within)) (omega arith) in
      omega (arith, more, first.wide)

  wide_narrow : (round stream hop : ℕ) → SettlesAt net rows round → NoneWide net rows (round_delays net rows round) → FirstWideRound net rows stream hop → ⊥
  wide_narrow round stream hop settles narrow wide =
      let same = same_settled round wide.round settles wide.settles in
      let none = subst (λ n. NoneWide net rows (round_delays net rows n)) same narrow in
      let much = wide_ticks (round_delays net rows wide.round) stream hop wide.here in
      let little = none stream wide.here.row wide.here.is in
      omega (arith, much, little)

  same_overload : (a b : ArcId) → FirstOverload net rows a.0 → FirstOverload net rows b.0 → Overload a ≡ Overload b
  same_overload a b one two =
      elim (cases_order a.0 b.0) [
        | inl same ↦ ap (λ n. Overload (record { 0 = n })) same
        | inr apart ↦
            elim apart [
              | inl less ↦ absurd (true≢false (sym one.overloaded ∙ two.before a.0 less))
              | inr more ↦ absurd (true≢false (sym two.overloaded ∙ one.before b.0 more))
            ]
      ]

  same_large : (a b : ArcId) (p q : ℕ) → FirstLarge net rows a.0 p → FirstLarge net rows b.0 q → Large a p ≡ Large b q
  same_large a b p q one two =
      let round = same_end one.round two.round one.before (large_ends a.0 p one) two.before (large_ends b.0 q two) in
      let here = subst (λ n. IsFirstPort net rows (passes_over net rows (round_bursts net rows n)) a.0 p) round one.here in
      let port = same_port (passes_over net rows (round_bursts net rows two.round)) a.0 p b.0 q here two.here in
      ap (λ n. Large (record { 0 = n }) p) port.0 ∙ ap (λ n. Large b n) port.1

  same_unsettled : (a b : ArcId) (p q : ℕ) → FirstUnsettled net rows a.0 p → FirstUnsettled net rows b.0 q → Unsettled a p ≡ Unsettled b q
  same_unsettled a b p q one two =
      let port = same_port (some_differs rows (round_bursts net rows last_round) (round_bursts net rows (last_round + 1))) a.0 p b.0 q one.here two.here in
      ap (λ n. Unsettled (record { 0 = n }) p) port.0 ∙ ap (λ n. Unsettled b n) port.1

  same_ring : (a b : ArcId) (p q m n : ℕ) → FirstShort net rows a.0 p m → FirstShort net rows b.0 q n → Ring a p m ≡ Ring b q n
  same_ring a b p q m n one two =
      let round = same_settled one.round two.round one.settles two.settles in
      let here = subst (λ i. IsFirstPort net rows (is_short net rows (round_bursts net rows i)) a.0 p) round one.here in
      let port = same_port (is_short net rows (round_bursts net rows two.round)) a.0 p b.0 q here two.here in
      let need : m ≡ n = one.need_is ∙ ap (λ i. need_over net rows (round_bursts net rows i) a.0 p) round
      ∙ ap (λ i. need_over net rows (round_bursts net rows two.round) i p) port.0 ∙ ap (λ i. need_over net rows (round_bursts net rows two.round) b.0 i) port.1 ∙ sym two.need_is
      in
      ap (λ i. Ring (record { 0 = i }) p m) port.0 ∙ ap (λ i. Ring b i m) port.1 ∙ ap (λ i. Ring b q i) need

  same_wide_at : (delays : Delays) (s t h k : ℕ) → FirstWide net rows delays s h → FirstWide net rows delays t k → (s ≡ t) × (h ≡ k)
  same_wide_at delays s t h k one two =
      let much = wide_ticks delays s h one in
      let much' = wide_ticks delays t k two in
      let stream : s ≡ t =
      elim (cases_order s t) [
        | inl same ↦ same
        | inr apart ↦
            elim apart [
              | inl less ↦ absurd (let little = two.before s one.row one.is less in omega (arith, much, little))
              | inr more ↦ absurd (let little = one.before t two.row two.is more in omega (arith, much', little))
            ]
      ]
      in
      let rows' : Some one.row ≡ Some two.row = sym one.is.row ∙ ap (slice_get rows) stream ∙ two.is.row in
      let row : one.row ≡ two.row = cc in
      let wide = subst (λ r. limit < ticks_before net delays r (h + 1)) row one.wide in
      let wide' = subst (λ r. limit < ticks_before net delays r (k + 1)) (sym row) two.wide in (
        stream,
        elim (cases_order h k) [
          | inl same ↦ same
          | inr apart ↦
              elim apart [
                | inl less ↦ absurd (let little = two.first_hop h less in omega (arith, wide, little))
                | inr more ↦ absurd (let little = one.first_hop k more in omega (arith, wide', little))
              ]
        ],
      )

  same_wide : (s t : StreamId) (h k : ℕ) → FirstWideRound net rows s.0 h → FirstWideRound net rows t.0 k → Wide s h ≡ Wide t k
  same_wide s t h k one two =
      let round = same_settled one.round two.round one.settles two.settles in
      let place = same_wide_at (round_delays net rows two.round) s.0 t.0 h k (subst (λ n. FirstWide net rows (round_delays net rows n) s.0 h) round one.here) two.here in
      ap (λ n. Wide (record { 0 = n }) h) place.0 ∙ ap (λ n. Wide t n) place.1

  -- another fault with a cause is the same
  pub one_fault : (e f : RoundsFault) → Cause net rows e → Cause net rows f → (e ≡ Memory) ⊎ ((f ≡ Memory) ⊎ (f ≡ e))
  one_fault Memory f c d = inl refl
  one_fault (Overload a) Memory c d = inr (inl refl)
  one_fault (Overload a) (Overload b) c d = inr (inr (same_overload b a d c))
  one_fault (Overload a) (Large b q) c d = absurd (no_overload a.0 c d.0)
  one_fault (Overload a) (Unsettled b q) c d = absurd (no_overload a.0 c d.0)
  one_fault (Overload a) (Wide t k) c d = absurd (no_overload a.0 c d.0)
  one_fault (Overload a) (Ring b q n) c d = absurd (no_overload a.0 c d.0)
  one_fault (Large a p) Memory c d = inr (inl refl)
  one_fault (Large a p) (Overload b) c d = absurd (no_overload b.0 d c.0)
  one_fault (Large a p) (Large b q) c d = inr (inr (same_large b a q p d.1 c.1))
  one_fault (Large a p) (Unsettled b q) c d = absurd (large_unsettled a.0 p b.0 q c.1 d.1)
  one_fault (Large a p) (Wide t k) c d = absurd (large_settled a.0 p d.1.round c.1 d.1.settles)
  one_fault (Large a p) (Ring b q n) c d = absurd (large_settled a.0 p d.1.round c.1 d.1.settles)
  one_fault (Unsettled a p) Memory c d = inr (inl refl)
  one_fault (Unsettled a p) (Overload b) c d = absurd (no_overload b.0 d c.0)
  one_fault (Unsettled a p) (Large b q) c d = absurd (large_unsettled b.0 q a.0 p d.1 c.1)
  one_fault (Unsettled a p) (Unsettled b q) c d = inr (inr (same_unsettled b a q p d.1 c.1))
  one_fault (Unsettled a p) (Wide t k) c d = absurd (settled_unsettled d.1.round a.0 p d.1.settles c.1)
  one_fault (Unsettled a p) (Ring b q n) c d = absurd (settled_unsettled d.1.round a.0 p d.1.settles c.1)
  one_fault (Wide s h) Memory c d = inr (inl refl)
  one_fault (Wide s h) (Overload b) c d = absurd (no_overload b.0 d c.0)
  one_fault (Wide s h) (Large b q) c d = absurd (large_settled b.0 q c.1.round d.1 c.1.settles)
  one_fault (Wide s h) (Unsettled b q) c d = absurd (settled_unsettled c.1.round b.0 q c.1.settles d.1)
  one_fault (Wide s h) (Wide t k) c d = inr (inr (same_wide t s k h d.1 c.1))
  one_fault (Wide s h) (Ring b q n) c d = absurd (wide_narrow d.1.round s.0 h d.1.settles d.1.narrow c.1)
  one_fault (Ring a p m) Memory c d = inr (inl refl)
  one_fault (Ring a p m) (Overload b) c d = absurd (no_overload b.0 d c.0)
  one_fault (Ring a p m) (Large b q) c d = absurd (large_settled b.0 q c.1.round d.1 c.1.settles)
  one_fault (Ring a p m) (Unsettled b q) c d = absurd (settled_unsettled c.1.round b.0 q c.1.settles d.1)
  one_fault (Ring a p m) (Wide t k) c d = absurd (wide_narrow c.1.round t.0 k c.1.settles c.1.narrow d.1)
  one_fault (Ring a p m) (Ring b q n) c d = inr (inr (same_ring b a q p n m d.1 c.1))

  none_beside : (c : Certificate) → IsOfSettled net rows c → NoneCaused net rows
  none_beside c of Memory d = refl
  none_beside c of (Overload b) d = absurd (no_overload b.0 d of.load)
  none_beside c of (Large b q) d = absurd (large_settled b.0 q of.round d.1 of.settles)
  none_beside c of (Unsettled b q) d = absurd (settled_unsettled of.round b.0 q of.settles d.1)
  none_beside c of (Wide t k) d = absurd (wide_narrow of.round t.0 k of.settles of.narrow d.1)
  none_beside c of (Ring b q n) d =
      let round = same_settled d.1.round of.round d.1.settles of.settles in
      let first = d.1.here in
      let room = of.rings b.0 q first.within.0 first.within.1 first.port in
      absurd (true≢false (sym first.here ∙ ap (λ i. is_short net rows (round_bursts net rows i) b.0 q) round ∙ room))

  pub alone_answer : (r : Result Certificate RoundsFault) → IfErr r (Cause net rows) → IfErr r (λ e. (e ≡ Memory) ⊎ IsAlone net rows e)
  alone_answer (Ok c) h = h
  alone_answer (Err e) h = by_cases e h
    where
      by_cases : (e : RoundsFault) → Cause net rows e → (e ≡ Memory) ⊎ IsAlone net rows e
      by_cases Memory c = inl refl
      by_cases (Overload a) c = inr (λ f d. elim (one_fault (Overload a) f c d) [ inl memory ↦ absurd (let no = memory in cc) | inr rest ↦ rest ])
      by_cases (Large a p) c = inr (λ f d. elim (one_fault (Large a p) f c d) [ inl memory ↦ absurd (let no = memory in cc) | inr rest ↦ rest ])
      by_cases (Unsettled a p) c = inr (λ f d. elim (one_fault (Unsettled a p) f c d) [ inl memory ↦ absurd (let no = memory in cc) | inr rest ↦ rest ])
      by_cases (Wide s h) c = inr (λ f d. elim (one_fault (Wide s h) f c d) [ inl memory ↦ absurd (let no = memory in cc) | inr rest ↦ rest ])
      by_cases (Ring a p m) c = inr (λ f d. elim (one_fault (Ring a p m) f c d) [ inl memory ↦ absurd (let no = memory in cc) | inr rest ↦ rest ])

  pub none_answer : (r : Result Certificate RoundsFault) → IfOk r (IsOfSettled net rows) → IfOk r (λ c. NoneCaused net rows)
  none_answer (Ok c) of = none_beside c of
  none_answer (Err e) h = h
