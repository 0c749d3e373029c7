-- What each send of a plant is, and that those of one row lie apart.
use Rattle.std.proofs.Common.{◌≡◌, ◌≢◌, ℕ, ◌+◌, ◌*◌, ◌<◌, ◌≤◌, ◌⊎◌, inl, inr, cond, nat_lt, List, get_or, All, AllPairs, refl, sym, ◌∙◌, ap, arith}
use Rattle.std.proofs.Math.Nat.{mul-le-mul_right, mod-lt}
use Rattle.std.proofs.lemmas.Bool.{cases_lt, lt-ltb, le-ltb}
use Rattle.std.proofs.lemmas.List.Elements.{All-append}
use Rattle.std.specs.List.Sorted.{IsPermutation}
use Rattle.std.proofs.lemmas.List.Sorted.{All-permutation}
use Rattle.pre_base.specs.declared.numbers.Send.{Send}
use Rattle.pre_plant.specs.Lists.{joined_of}
use Rattle.pre_plant.specs.Draws.{draw}
use Rattle.pre_plant.specs.Rows.{stream_max}
use Rattle.pre_plant.specs.Scripts.{times, nth_send, sends_every, stream_period, stream_sends, flow_sends, sends_by_row}
use Rattle.pre_plant.proofs.ListLaws.{All-list_of, All-joined_of, AllPairs-list_of, AllPairs-joined_of, AllPairs-append}
use Rattle.pre_plant.proofs.Ticks.{before_stop}
use Rattle.pre_plant.proofs.Orders.{AllPairs-permutation}

pub draw_below : (draws : List ℕ) (number below : ℕ) → 0 < below → draw draws number below < below
draw_below draws number below some = mod-lt (get_or draws number 0) some

-- ---- what a send is

-- it is of a row of this number and size, and comes before the stop
pub record IsOf (stream size : ℕ) (s : Send) : Type 0 where
  pub stream_is : s.stream.0 ≡ stream
  pub size_is : s.size ≡ size
  pub tick_is : s.tick.0 < 9_000_000

each_is_of : (stream size first period : ℕ) → first < 9_000_000 → All (IsOf stream size) (sends_every stream size first period)
each_is_of stream size first period low =
    All-list_of (IsOf stream size) (nth_send stream size first period) (times first period) (λ k often. record { stream_is = refl; size_is = refl; tick_is = before_stop first period k low often })

pub stream_sends_are : (draws : List ℕ) (i : ℕ) → All (IsOf i (stream_max draws i)) (stream_sends draws i)
unfolding stream_sends
stream_sends_are draws i = each_is_of i (stream_max draws i) (draw draws (150 + i) 100_000) (stream_period draws i) (omega (arith, draw_below draws (150 + i) 100_000 (omega arith)))

pub flow_sends_are : (draws : List ℕ) (i : ℕ) → All (IsOf (60 + i) 1522) (flow_sends draws i)
unfolding flow_sends
flow_sends_are draws i = each_is_of (60 + i) 1522 (draw draws (210 + i) 24_000) 24_000 (omega (arith, draw_below draws (210 + i) 24_000 (omega arith)))

-- it is of a stream, or of a flow
abbrev pub IsOfRow : List ℕ → Send → Type 0
IsOfRow draws s = ((i : ℕ) × (i < 60) × IsOf i (stream_max draws i) s) ⊎ ((i : ℕ) × (i < 30) × IsOf (60 + i) 1522 s)

pub each_is_of_row : (draws : List ℕ) → All (IsOfRow draws) (sends_by_row draws)
unfolding sends_by_row
each_is_of_row draws =
    All-append (IsOfRow draws) (joined_of 60 (stream_sends draws)) (joined_of 30 (flow_sends draws))
    (All-joined_of (IsOfRow draws) (stream_sends draws) 60 (λ i lt k d within. inl (i, lt, stream_sends_are draws i k d within)))
    (All-joined_of (IsOfRow draws) (flow_sends draws) 30 (λ i lt k d within. inr (i, lt, flow_sends_are draws i k d within)))

-- ---- the sends of one row

-- the ticks from a send to the next one of its row at least
abbrev pub gap : Send → ℕ
gap s = cond (nat_lt s.stream.0 60) (5000 * (s.size + 20)) 1

pub record LieApart (a b : Send) : Type 0 where
  pub size : a.size ≡ b.size
  pub ticks : (a.tick.0 + gap a ≤ b.tick.0) ⊎ (b.tick.0 + gap a ≤ a.tick.0)

abbrev pub Apart : Send → Send → Type 0
Apart a b = a.stream.0 ≡ b.stream.0 → LieApart a b

same_gap : (a b : Send) → a.stream.0 ≡ b.stream.0 → a.size ≡ b.size → gap a ≡ gap b
same_gap a b streams sizes =
    ap (λ i. cond (nat_lt i 60) (5000 * (a.size + 20)) 1) streams ∙ ap (λ n. cond (nat_lt b.stream.0 60) (5000 * (n + 20)) 1) sizes

turned_apart : (a b : Send) → Apart a b → Apart b a
turned_apart a b apart same =
    let h = apart (sym same) in
    let gaps = same_gap a b (sym same) h.size in
    record {
      size = sym h.size;
      ticks = elim h.ticks [ inl p ↦ inr (omega (arith, p, gaps)) | inr p ↦ inl (omega (arith, p, gaps)) ];
    }

pub gap_of_stream : (s : Send) → s.stream.0 < 60 → gap s ≡ 5000 * (s.size + 20)
gap_of_stream s lt = ap (λ t. cond t (5000 * (s.size + 20)) 1) (lt-ltb s.stream.0 60 lt)

gap_of_flow : (s : Send) → 60 ≤ s.stream.0 → gap s ≡ 1
gap_of_flow s le = ap (λ t. cond t (5000 * (s.size + 20)) 1) (le-ltb s.stream.0 60 le)

every_apart : (stream size first period : ℕ) → ((s : Send) → s.stream.0 ≡ stream → s.size ≡ size → gap s ≤ period) → AllPairs Apart (sends_every stream size first period)
every_apart stream size first period wide =
    AllPairs-list_of Apart (nth_send stream size first period) (times first period)
    (λ i j before within same.
    let on : (i + 1) * period ≤ j * period = mul-le-mul_right period (omega arith) in
    let more : (i + 1) * period ≡ i * period + period = grind arith in
    record { size = refl; ticks = inl (omega (arith, on, more, wide (nth_send stream size first period i) refl refl)) })

streams_apart : (draws : List ℕ) (i : ℕ) → i < 60 → AllPairs Apart (stream_sends draws i)
unfolding stream_sends
streams_apart draws i lt =
    every_apart i (stream_max draws i) (draw draws (150 + i) 100_000) (stream_period draws i)
    (λ s stream size. omega (arith, gap_of_stream s (omega (arith, stream, lt)), size))

flows_apart : (draws : List ℕ) (i : ℕ) → AllPairs Apart (flow_sends draws i)
unfolding flow_sends
flows_apart draws i =
    every_apart (60 + i) 1522 (draw draws (210 + i) 24_000) 24_000 (λ s stream size. omega (arith, gap_of_flow s (omega (arith, stream))))

-- sends of different rows have nothing to keep
across : (m n size other : ℕ) (xs ys : List Send) → m ≢ n → All (IsOf m size) xs → All (IsOf n other) ys → All (λ x. All (Apart x) ys) xs
across m n size other xs ys apart one two k d within j e inside same =
    absurd (apart (sym (one k d within).stream_is ∙ same ∙ (two j e inside).stream_is))

all_apart : (draws : List ℕ) → AllPairs Apart (sends_by_row draws)
unfolding sends_by_row
all_apart draws =
    AllPairs-append Apart (joined_of 60 (stream_sends draws)) (joined_of 30 (flow_sends draws))
    (AllPairs-joined_of Apart (stream_sends draws) 60 (λ i lt. streams_apart draws i lt)
    (λ i j before lt. across i j (stream_max draws i) (stream_max draws j) (stream_sends draws i) (stream_sends draws j) (λ e. omega (arith, e, before)) (stream_sends_are draws i)
    (stream_sends_are draws j)))
    (AllPairs-joined_of Apart (flow_sends draws) 30 (λ i lt. flows_apart draws i)
    (λ i j before lt. across (60 + i) (60 + j) 1522 1522 (flow_sends draws i) (flow_sends draws j) (λ e. omega (arith, e, before)) (flow_sends_are draws i) (flow_sends_are draws j)))
    (All-joined_of (λ x. All (Apart x) (joined_of 30 (flow_sends draws))) (stream_sends draws) 60
    (λ i lt k d within. All-joined_of (Apart (get_or (stream_sends draws i) k d)) (flow_sends draws) 30
    (λ j inside. across i (60 + j) (stream_max draws i) 1522 (stream_sends draws i) (flow_sends draws j) (λ e. omega (arith, e, lt)) (stream_sends_are draws i) (flow_sends_are draws j) k d within)))

module _ (draws : List ℕ) (sends : List Send) (same : IsPermutation (sends_by_row draws) sends) where
  pub permuted_are : All (IsOfRow draws) sends
  permuted_are = All-permutation (IsOfRow draws) (sends_by_row draws) sends same (each_is_of_row draws)

  pub permuted_apart : AllPairs Apart sends
  permuted_apart = AllPairs-permutation Apart turned_apart (sends_by_row draws) sends same (all_apart draws)

  pub never_twice : AllPairs (λ a b. a.stream.0 ≡ b.stream.0 → a.tick.0 ≢ b.tick.0) sends
  never_twice i j d before within one_row =
      let a = get_or sends i d in
      let some : 0 < gap a = gap_some a in
      elim (permuted_apart i j d before within one_row).ticks [
        | inl p ↦ (λ e. omega (arith, e, p, some))
        | inr p ↦ (λ e. omega (arith, e, p, some))
      ]
    where
      gap_some : (s : Send) → 0 < gap s
      gap_some s =
          elim (cases_lt s.stream.0 60) [
            | inl lt ↦ omega (arith, gap_of_stream s lt)
            | inr le ↦ omega (arith, gap_of_flow s le)
          ]
