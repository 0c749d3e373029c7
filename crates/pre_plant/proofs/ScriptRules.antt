-- The script of a plant fits its network and its rows.
use Rattle.std.proofs.Common.{◌≡◌, ℕ, ◌+◌, ◌-◌, ◌*◌, ◌/◌, ◌<◌, ◌≤◌, ◌^◌, inl, inr, Bool, true, false, cond}
use Rattle.std.proofs.Common.{min, not, nat_lt, List, [], ◌++◌, length, get_or, map, slice_get, Some}
use Rattle.std.proofs.Common.{None, count_by, All, AllPairs, refl, sym, ◌∙◌, ap, subst, arith, length-append}
use Rattle.std.specs.List.{list_any}
use Rattle.std.proofs.Math.Nat.{div-mul-le_self, mul-le-mul_right}
use Rattle.std.proofs.lemmas.Bool.{cases_lt, lt-ltb, le-ltb}
use Rattle.std.proofs.lemmas.List.{length-map, get_or-map}
use Rattle.std.proofs.lemmas.List.Elements.{All-nil}
use Rattle.std.proofs.lemmas.List.Sorted.{length_permutation, sum_by-IsPermutation}
use Rattle.std.proofs.lemmas.List.Sums.{sum_by-append}
use Rattle.std.proofs.lemmas.Option.{slice_get-get_or}
use Rattle.pre_base.specs.declared.numbers.Send.{Send}
use Rattle.pre_topo.specs.declared.arcs.Arc.{Arc}
use Rattle.pre_topo.specs.declared.network.Network.{Network}
use Rattle.pre_topo.specs.declared.nodes.Timing.{Timing}
use Rattle.pre_streams.specs.declared.rows.Row.{Row}
use Rattle.pre_streams.specs.declared.rows.Streams.{Streams}
use Rattle.pre_streams.specs.Made.{RowParts, row_parts}
use Rattle.pre_script.specs.declared.scripts.Damage.{Damage}
use Rattle.pre_script.specs.declared.scripts.Loss.{Loss}
use Rattle.pre_script.specs.declared.scripts.Script.{Script}
use Rattle.pre_script.specs.declared.scripts.SendLine.{SendLine}
use Rattle.pre_script.specs.declared.scripts.SetLine.{SetLine}
use Rattle.pre_script.specs.Fits.{Fits, IsSend, IsSet, IsLoss, IsDamage, SendsInOrder, SetsInOrder}
use Rattle.pre_script.specs.Rules.{horizon, negotiates}
use Rattle.pre_plant.specs.Draws.{draw}
use Rattle.pre_plant.specs.Lists.{joined_of}
use Rattle.pre_plant.specs.Networks.{IsPlantNetwork}
use Rattle.pre_plant.specs.Rows.{stream_max, plant_rows}
use Rattle.pre_plant.specs.Scripts.{times, nth_send, stream_period, stream_sends, flow_sends, sends_by_row, ComesBefore, loss, damage, IsPlantScript}
use Rattle.pre_plant.proofs.Counting.{count_map, count_all, count_none, length-joined_of-le, length-joined_of}
use Rattle.pre_plant.proofs.ListLaws.{length-list_of, All-list_of, All-joined_of}
use Rattle.pre_plant.proofs.PlantNetworks.{arcs_count}
use Rattle.pre_plant.proofs.RowRules.{pairs_behind, rows_long, stream_at, flow_at}
use Rattle.pre_plant.proofs.Sending.{IsOfRow, draw_below, stream_sends_are, flow_sends_are, permuted_are}

-- ---- how many sends there are

few_times : (first period : ℕ) → 420_000 ≤ period → times first period ≤ 22
unfolding times
few_times first period long =
    elim (cases_lt ((8_999_999 - first) / period) 22) [
      | inl lt ↦ omega (arith, lt)
      | inr le ↦
          let whole = div-mul-le_self (8_999_999 - first) period in
          let part : 22 * period ≤ (8_999_999 - first) / period * period = mul-le-mul_right period le in
          absurd (omega (arith, whole, part, long))
    ]

flow_times : (first : ℕ) → first < 24_000 → times first 24_000 ≡ 375
unfolding times
flow_times first low = omega (arith, low)

stream_sends_few : (draws : List ℕ) (i : ℕ) → length (stream_sends draws i) ≤ 22
unfolding stream_sends
stream_sends_few draws i =
    let first = draw draws (150 + i) 100_000 in
    omega (arith, length-list_of (nth_send i (stream_max draws i) first (stream_period draws i)) (times first (stream_period draws i)), few_times first (stream_period draws i) (omega arith))

flow_sends_all : (draws : List ℕ) (i : ℕ) → length (flow_sends draws i) ≡ 375
unfolding flow_sends
flow_sends_all draws i =
    let first = draw draws (210 + i) 24_000 in
    length-list_of (nth_send (60 + i) 1522 first 24_000) (times first 24_000) ∙ flow_times first (draw_below draws (210 + i) 24_000 (omega arith))

abbrev of_streams : List ℕ → List Send
of_streams draws = joined_of 60 (stream_sends draws)

abbrev of_flows : List ℕ → List Send
of_flows draws = joined_of 30 (flow_sends draws)

streams_send : (draws : List ℕ) → length (of_streams draws) ≤ 1320
streams_send draws = length-joined_of-le (stream_sends draws) 22 60 (λ i lt. stream_sends_few draws i)

flows_send : (draws : List ℕ) → length (of_flows draws) ≡ 11_250
flows_send draws = length-joined_of (flow_sends draws) 375 30 (λ i lt. flow_sends_all draws i)

rows_send : (draws : List ℕ) → sends_by_row draws ≡ of_streams draws ++ of_flows draws
unfolding sends_by_row
rows_send draws = refl

-- the sends of streams, and the others
abbrev is_of_stream : Send → Bool
is_of_stream s = nat_lt s.stream.0 60

stream_tests : (draws : List ℕ) → All (λ s. is_of_stream s ≡ true) (of_streams draws)
stream_tests draws =
    All-joined_of (λ s. is_of_stream s ≡ true) (stream_sends draws) 60 (λ i lt k d within. lt-ltb (get_or (stream_sends draws i) k d).stream.0 60 (omega (
      arith,
      lt,
      (stream_sends_are draws i k d within).stream_is,
    )))

flow_tests : (draws : List ℕ) → All (λ s. is_of_stream s ≡ false) (of_flows draws)
flow_tests draws =
    All-joined_of (λ s. is_of_stream s ≡ false) (flow_sends draws) 30 (λ i lt k d within. le-ltb (get_or (flow_sends draws i) k d).stream.0 60 (omega (
      arith,
      (flow_sends_are draws i k d within).stream_is,
    )))

streams_counted : (draws : List ℕ) → count_by is_of_stream (sends_by_row draws) ≤ 1320
streams_counted draws =
    let whole : count_by is_of_stream (sends_by_row draws) ≡ count_by is_of_stream (of_streams draws) + count_by is_of_stream (of_flows draws) = ap (count_by is_of_stream)
    (rows_send draws) ∙ sum_by-append (λ s. cond (is_of_stream s) 1 0) (of_streams draws) (of_flows draws) in
    omega (arith, whole, count_all is_of_stream (of_streams draws) (stream_tests draws), count_none is_of_stream (of_flows draws) (flow_tests draws), streams_send draws)

flows_counted : (draws : List ℕ) → count_by (λ s. not (is_of_stream s)) (sends_by_row draws) ≡ 11_250
flows_counted draws =
    let whole : count_by (λ s. not (is_of_stream s)) (sends_by_row draws) ≡ count_by (λ s. not (is_of_stream s)) (of_streams draws) + count_by (λ s. not (is_of_stream s))
    (of_flows draws) = ap (count_by (λ s. not (is_of_stream s))) (rows_send draws) ∙ sum_by-append (λ s. cond (not (is_of_stream s)) 1 0) (of_streams draws) (of_flows draws) in
    omega (
      arith,
      whole,
      count_none (λ s. not (is_of_stream s)) (of_streams draws) (λ k d within. ap not (stream_tests draws k d within)),
      count_all (λ s. not (is_of_stream s))
          (of_flows draws) (λ k d within. ap not (flow_tests draws k d within)),
      flows_send draws,
    )

-- ---- its parts

no_row : Row
no_row = record { name = []; vid = 0; prio = 0; route = []; arcs = []; max = 0; curve = None }

module _ (draws : List ℕ) (script : Script) (is : IsPlantScript draws script) where
  abbrev sent : List Send
  sent = map (λ s. s.send) script.sends

  sent_are : All (λ s. IsOfRow draws s.send) script.sends
  sent_are k d within =
      subst (IsOfRow draws) (get_or-map (λ (s : SendLine). s.send) script.sends k d d.send within)
      (permuted_are draws sent is.sends.same k d.send (omega (arith, length-map script.sends (λ (s : SendLine). s.send))))

  sends_few : length script.sends ≤ 12_570
  sends_few =
      omega (
        arith,
        length-map script.sends (λ (s : SendLine). s.send),
        length_permutation (sends_by_row draws) sent is.sends.same,
        ap (λ (ss : List Send). length ss)
            (rows_send draws),
        length-append (of_streams draws) (of_flows draws),
        streams_send draws,
        flows_send draws,
      )

  sends_rise : AllPairs SendsInOrder script.sends
  sends_rise i j d before within =
      elim (pairs_behind ComesBefore (λ (s : SendLine). s.send) script.sends is.sends.order i j d before within) [
        | inl p ↦ omega (arith, p)
        | inr p ↦ omega (arith, p.0)
      ]

  pub streams_send_few : count_by (λ s. nat_lt s.send.stream.0 60) script.sends ≤ 1320
  streams_send_few =
      omega (
        arith,
        count_map is_of_stream (λ (s : SendLine). s.send) script.sends,
        sum_by-IsPermutation (λ s. cond (is_of_stream s) 1 0) (sends_by_row draws) sent is.sends.same,
        streams_counted draws,
      )

  pub flows_send_all : count_by (λ s. not (nat_lt s.send.stream.0 60)) script.sends ≡ 11_250
  flows_send_all =
      omega (
        arith,
        count_map (λ s. not (is_of_stream s)) (λ (s : SendLine). s.send) script.sends,
        sum_by-IsPermutation (λ s. cond (not (is_of_stream s)) 1 0)
            (sends_by_row draws) sent is.sends.same,
        flows_counted draws,
      )

  tick_before : (s : Send) → IsOfRow draws s → s.tick.0 < 9_000_000
  tick_before s of = elim of [ inl p ↦ p.2.tick_is | inr p ↦ p.2.tick_is ]

  pub sends_end : All (λ s. s.send.tick.0 < script.until.0) script.sends
  sends_end k d within = omega (arith, tick_before (get_or script.sends k d).send (sent_are k d within), is.until)

  module _ (net : Network) (streams : Streams) (network : IsPlantNetwork net) (rows : map row_parts streams.rows ≡ plant_rows draws) where
    send_is : (s : SendLine) → IsOfRow draws s.send → IsSend net streams s
    send_is s of =
        elim of [
          | inl p ↦
              let here = p.2 in
              let parts = stream_at draws streams.rows rows p.0 no_row p.1 in
              let known : slice_get streams.rows p.0 ≡ Some (get_or streams.rows p.0 no_row) = slice_get-get_or streams.rows p.0 no_row (omega (arith, p.1, rows_long draws streams.rows rows)) in
              record {
                row = get_or streams.rows p.0 no_row;
                known = ap (λ k. slice_get streams.rows k) here.stream_is ∙ known;
                least = omega (arith, here.size_is);
                most = omega (arith, here.size_is, ap (λ (q : RowParts). q.max) parts);
                tick = omega (arith, here.tick_is);
              }
          | inr p ↦
              let here = p.2 in
              let parts = flow_at draws streams.rows rows p.0 no_row p.1 in
              let known : slice_get streams.rows (60 + p.0) ≡ Some (get_or streams.rows (60 + p.0) no_row) = slice_get-get_or streams.rows (60 + p.0) no_row (omega (
                arith,
                p.1,
                rows_long draws streams.rows rows,
              )) in
              record {
                row = get_or streams.rows (60 + p.0) no_row;
                known = ap (λ k. slice_get streams.rows k) here.stream_is ∙ known;
                least = omega (arith, here.size_is);
                most = omega (arith, here.size_is, ap (λ (q : RowParts). q.max) parts);
                tick = omega (arith, here.tick_is);
              }
        ]

    arcs_are : length net.arcs ≡ 102
    arcs_are = ap (λ (as_ : List Arc). length as_) network.arcs ∙ arcs_count

    loss_is : (k : ℕ) → IsLoss net (loss draws k)
    loss_is k = record {
      known = omega (arith, arcs_are, draw_below draws (240 + 2 * k) 102 (omega arith));
      ordinal = omega (arith, draw_below draws (241 + 2 * k) 100 (omega arith));
    }

    damage_is : (k : ℕ) → IsDamage net (damage draws k)
    damage_is k = record {
      known = omega (arith, arcs_are, draw_below draws (280 + 4 * k) 102 (omega arith));
      ordinal = omega (arith, draw_below draws (281 + 4 * k) 100 (omega arith));
      offset = omega (arith, draw_below draws (282 + 4 * k) 32 (omega arith));
      least = omega arith;
      most = omega arith;
      octets = (omega (arith, draw_below draws (283 + 4 * k) 255 (omega arith)), tt);
    }

    until_in : script.until.0 ≤ horizon net
    until_in = by_cases (list_any negotiates net.arcs)
      where
        interval : net.timing.interval ≡ 1_000_000
        interval = ap (λ (t : Timing). t.interval) network.timing

        by_cases : (b : Bool) → script.until.0 ≤ cond b (min (4 * 10 ^ 12) (10000 * net.timing.interval)) (4 * 10 ^ 12)
        by_cases true = omega (arith, interval, is.until)
        by_cases false = omega (arith, is.until)

    pub script_fits : Fits net streams script
    script_fits = record {
      sends = λ k d within. send_is (get_or script.sends k d) (sent_are k d within);
      sends_order = sends_rise;
      sends_count = omega (arith, sends_few);
      sets = subst (All (IsSet net)) (sym is.sets) (All-nil (IsSet net));
      sets_order = subst (AllPairs SetsInOrder) (sym is.sets) (λ i j d before within. absurd (omega (arith, within)));
      sets_count = omega (arith, ap (λ (ss : List SetLine). length ss) is.sets);
      losses = subst (All (IsLoss net)) (sym is.losses) (All-list_of (IsLoss net) (loss draws) 20 (λ k lt. loss_is k));
      losses_count = omega (arith, ap (λ (ls : List Loss). length ls) is.losses, length-list_of (loss draws) 20);
      damages = subst (All (IsDamage net)) (sym is.damages) (All-list_of (IsDamage net) (damage draws) 20 (λ k lt. damage_is k));
      damages_count = omega (arith, ap (λ (ds : List Damage). length ds) is.damages, length-list_of (damage draws) 20);
      until = until_in;
    }

  pub losses_counted : length script.losses ≡ 20
  losses_counted = ap (λ (ls : List Loss). length ls) is.losses ∙ length-list_of (loss draws) 20

  pub damages_counted : length script.damages ≡ 20
  damages_counted = ap (λ (ds : List Damage). length ds) is.damages ∙ length-list_of (damage draws) 20
