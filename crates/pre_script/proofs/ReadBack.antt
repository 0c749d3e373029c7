-- A script that fits is read back.
use Rattle.std.proofs.Common.{◌≡◌, ℕ, ◌+◌, ◌^◌, ◌<◌, ◌≤◌, false, true, IsTrue, slice_get, List, [], ◌∷◌, ◌++◌}
use Rattle.std.proofs.Common.{length, map, Option, Some, None, Ok, refl, sym, ◌∙◌, ap, append_assoc, arith, codes}
use Rattle.std.specs.Fmt.{decimal}
use Rattle.std.specs.Option.{option_map_or}
use Rattle.std.proofs.lemmas.Bool.{false≢true}
use Rattle.std.proofs.lemmas.List.{append-nil, length_push, length-append}
use Rattle.pre_text.specs.Lines.{is_nonempty, lines_of}
use Rattle.pre_text.specs.Reading.{IsWord}
use Rattle.pre_text.specs.Writing.{hex}
use Rattle.pre_text.proofs.Decimals.{decimal_word, name_word, number_back, hex_word, hex_back}
use Rattle.pre_base.specs.declared.numbers.Tick.{Tick}
use Rattle.pre_base.specs.declared.numbers.Send.{Send}
use Rattle.pre_topo.specs.declared.network.Network.{Network}
use Rattle.pre_topo.specs.declared.arcs.Arc.{Arc}
use Rattle.pre_topo.specs.Named.{arc_name}
use Rattle.pre_streams.specs.declared.rows.Streams.{Streams}
use Rattle.pre_streams.specs.Fits as streams_rules
use Rattle.pre_script.specs.declared.scripts.Script.{Script}
use Rattle.pre_script.specs.declared.scripts.SendLine.{SendLine}
use Rattle.pre_script.specs.declared.scripts.SetLine.{SetLine}
use Rattle.pre_script.specs.declared.scripts.Setting.{Setting}
use Rattle.pre_script.specs.declared.scripts.Setting.TheVariants.{On, Off, Gone}
use Rattle.pre_script.specs.declared.scripts.Loss.{Loss}
use Rattle.pre_script.specs.declared.scripts.Damage.{Damage}
use Rattle.pre_script.specs.declared.saying.Said.TheVariants as said
use Rattle.pre_script.specs.Rules.{horizon, max_damaged, max_damages, max_losses, max_sends, max_sets, negotiates}
use Rattle.pre_script.specs.Saying.{negotiates_at}
use Rattle.pre_script.specs.Seen.{Seen, nothing_seen, with_said}
use Rattle.pre_script.specs.Fits.{Fits, IsDamage, IsLoss, IsSend}
use Rattle.pre_script.specs.Reading.{ended, script_of}
use Rattle.pre_script.specs.Same.{IsSame}
use Rattle.pre_script.specs.Text.{damage_line, damage_lines, loss_line, loss_lines, row_name, script_text, send_line, set_line, set_lines}
use Rattle.pre_script.specs.Text.{setting_word, sets_before, sets_since, timed_lines, until_line}
use Rattle.pre_script.proofs.Said.{damage_says, loss_says, nonempty_number, nonempty_pairs, send_says, set_says, until_says, until_small}
use Rattle.pre_script.proofs.Steps.{block, rest_read, seen_after, step}
use Rattle.pre_script.proofs.NameWords.{arc_some, arc_word, place_inside, row_read}
use Rattle.pre_script.proofs.Ticks.{Each, IsOpen, SendsFrom, SetsFrom, before_from, each_of, open_last, open_send, open_set, open_sets, rejoined, sends_from, sets_from, since_from}

negotiating_at : (o : Option Arc) (arcs : List Arc) (i : ℕ) → slice_get arcs i ≡ o → option_map_or negotiates o false ≡ true → i < length arcs
negotiating_at None arcs i at h = absurd (false≢true h)
negotiating_at (Some a) arcs i at h = place_inside arcs i a at

-- an arc that negotiates is one of the network
negotiating_known : (net : Network) (arc : ℕ) → IsTrue (negotiates_at net arc) → arc < length net.arcs
negotiating_known net arc h = negotiating_at (slice_get net.arcs arc) net.arcs arc refl h

number_some : (n : ℕ) → n < 2 ^ 64 → is_nonempty (decimal n) ≡ true
number_some n lt = nonempty_number (decimal n) n (number_back n lt)

--- ---- losses

record LossesHold (net : Network) (seen : Seen) (losses : List Loss) : Type 0 where
  each : Each (IsLoss net) losses
  unended : seen.until ≡ None
  few : length seen.losses + length losses ≤ max_losses

abbrev add_loss : Seen → Loss → Seen
add_loss seen l = with_said seen (said.Lose l)

losses_read : (net : Network) (streams : Streams) (losses : List Loss) (rest : List ℕ) (n : ℕ) (seen : Seen) → LossesHold net seen losses
    → (m : ℕ) × (rest_read net streams seen n (loss_lines net losses ++ rest) ≡ rest_read net streams (seen_after add_loss seen losses) m rest)
losses_read net streams = block net streams (loss_line net) add_loss (LossesHold net) one next
  where
    one : (seen : Seen) (n : ℕ) (l : Loss) (ls : List Loss) (rest : List ℕ) → LossesHold net seen (l ∷ ls) → rest_read net streams seen n (loss_line net l ++ rest) ≡ rest_read net streams (with_said seen (said.Lose l)) (n + 1) rest
    one seen n l ls rest h =
        let is = h.each.0 in
        step net streams seen n (codes "lose") (arc_name net l.arc.0 ∷ decimal l.ordinal ∷ []) rest (said.Lose l)
        (name_word (codes "lose") refl) (arc_word net l.arc.0 is.known, (decimal_word l.ordinal is.ordinal, tt))
        (refl, (arc_some net l.arc.0 is.known, (number_some l.ordinal is.ordinal, tt))) refl h.unended
        (loss_says net streams seen n l is (omega (arith, h.few)))

    next : (seen : Seen) (l : Loss) (ls : List Loss) → LossesHold net seen (l ∷ ls) → LossesHold net (with_said seen (said.Lose l)) ls
    next seen l ls h = record { each = h.each.1; unended = h.unended; few = omega (arith, h.few, length_push seen.losses l) }

losses_added : (seen : Seen) (losses : List Loss) → seen_after add_loss seen losses ≡ record seen { losses = seen.losses ++ losses }
losses_added seen [] = ap (λ (l : List Loss). record seen { losses = l }) (sym (append-nil seen.losses))
losses_added seen (l ∷ ls) = losses_added (add_loss seen l) ls ∙ ap (λ (k : List Loss). record seen { losses = k }) (append_assoc seen.losses (l ∷ []) ls)

--- ---- damages

record DamagesHold (net : Network) (seen : Seen) (damages : List Damage) : Type 0 where
  each : Each (IsDamage net) damages
  unended : seen.until ≡ None
  few : length seen.damages + length damages ≤ max_damages

abbrev add_damage : Seen → Damage → Seen
add_damage seen d = with_said seen (said.Damage d)

damages_read : (net : Network) (streams : Streams) (damages : List Damage) (rest : List ℕ) (n : ℕ) (seen : Seen) → DamagesHold net seen damages
    → (m : ℕ) × (rest_read net streams seen n (damage_lines net damages ++ rest) ≡ rest_read net streams (seen_after add_damage seen damages) m rest)
damages_read net streams = block net streams (damage_line net) add_damage (DamagesHold net) one next
  where
    one : (seen : Seen) (n : ℕ) (d : Damage) (ds : List Damage) (rest : List ℕ) → DamagesHold net seen (d ∷ ds) → rest_read net streams seen n (damage_line net d ++ rest) ≡ rest_read net streams (with_said seen (said.Damage d)) (n + 1) rest
    one seen n d ds rest h =
        let is = h.each.0 in
        let pairs = hex_back d.octets max_damaged is.octets is.least is.most in
        step net streams seen n (codes "damage") (arc_name net d.arc.0 ∷ decimal d.ordinal ∷ decimal d.offset ∷ hex d.octets ∷ []) rest (said.Damage d)
        (name_word (codes "damage") refl) (arc_word net d.arc.0 is.known, (decimal_word d.ordinal is.ordinal, (decimal_word d.offset is.offset, (hex_word d.octets is.octets, tt))))
        (refl, (arc_some net d.arc.0 is.known, (number_some d.ordinal is.ordinal, (number_some d.offset is.offset, (nonempty_pairs max_damaged (hex d.octets) d.octets pairs, tt))))) refl h.unended
        (damage_says net streams seen n d is (omega (arith, h.few)))

    next : (seen : Seen) (d : Damage) (ds : List Damage) → DamagesHold net seen (d ∷ ds) → DamagesHold net (with_said seen (said.Damage d)) ds
    next seen d ds h = record { each = h.each.1; unended = h.unended; few = omega (arith, h.few, length_push seen.damages d) }

damages_added : (seen : Seen) (damages : List Damage) → seen_after add_damage seen damages ≡ record seen { damages = seen.damages ++ damages }
damages_added seen [] = ap (λ (l : List Damage). record seen { damages = l }) (sym (append-nil seen.damages))
damages_added seen (d ∷ ds) = damages_added (add_damage seen d) ds ∙ ap (λ (k : List Damage). record seen { damages = k }) (append_assoc seen.damages (d ∷ []) ds)

--- ---- sets

record SetsHold (net : Network) (seen : Seen) (sets : List SetLine) : Type 0 where
  low : ℕ
  from : SetsFrom net low sets
  is_open : IsOpen seen low
  few : length seen.sets + length sets ≤ max_sets

abbrev add_set : Seen → SetLine → Seen
add_set seen s = with_said seen (said.Set s)

setting_filled : (v : Setting) → IsWord (setting_word v) × (is_nonempty (setting_word v) ≡ true)
setting_filled On = (name_word (codes "on") refl, refl)
setting_filled Off = (name_word (codes "off") refl, refl)
setting_filled Gone = (name_word (codes "gone") refl, refl)

sets_read : (net : Network) (streams : Streams) (sets : List SetLine) (rest : List ℕ) (n : ℕ) (seen : Seen) → SetsHold net seen sets
    → (m : ℕ) × (rest_read net streams seen n (set_lines net sets ++ rest) ≡ rest_read net streams (seen_after add_set seen sets) m rest)
sets_read net streams = block net streams (set_line net) add_set (SetsHold net) one next
  where
    one : (seen : Seen) (n : ℕ) (s : SetLine) (ss : List SetLine) (rest : List ℕ) → SetsHold net seen (s ∷ ss) → rest_read net streams seen n (set_line net s ++ rest) ≡ rest_read net streams (with_said seen (said.Set s)) (n + 1) rest
    one seen n s ss rest h =
        let is = h.from.1 in
        let known = negotiating_known net s.arc.0 is.negotiates in
        let value = setting_filled s.value in
        step net streams seen n (codes "set") (decimal s.tick.0 ∷ arc_name net s.arc.0 ∷ setting_word s.value ∷ []) rest (said.Set s)
        (name_word (codes "set") refl) (decimal_word s.tick.0 is.tick, (arc_word net s.arc.0 known, (value.0, tt)))
        (refl, (number_some s.tick.0 is.tick, (arc_some net s.arc.0 known, (value.1, tt)))) refl h.is_open.unended
        (set_says net streams seen n s is known (open_last seen h.low s.tick.0 h.from.0 h.is_open) (omega (arith, h.few)))

    next : (seen : Seen) (s : SetLine) (ss : List SetLine) → SetsHold net seen (s ∷ ss) → SetsHold net (with_said seen (said.Set s)) ss
    next seen s ss h = record {
      low = s.tick.0;
      from = h.from.2;
      is_open = open_set seen h.low s h.from.0 h.is_open;
      few = omega (arith, h.few, length_push seen.sets s);
    }

sets_added : (seen : Seen) (sets : List SetLine) → seen_after add_set seen sets ≡ record seen { sets = seen.sets ++ sets }
sets_added seen [] = ap (λ (l : List SetLine). record seen { sets = l }) (sym (append-nil seen.sets))
sets_added seen (s ∷ ss) = sets_added (add_set seen s) ss ∙ ap (λ (k : List SetLine). record seen { sets = k }) (append_assoc seen.sets (s ∷ []) ss)

--- ---- sends and sets

-- the sends but for their lines
abbrev sent : List SendLine → List Send
sent sends = map (λ (s : SendLine). s.send) sends

abbrev with_timed : Seen → List SendLine → List SetLine → Seen
with_timed seen sends sets = record seen { sends = seen.sends ++ sends; sets = seen.sets ++ sets }

record TimedHold (net : Network) (streams : Streams) (seen : Seen) (low : ℕ) (sends : List SendLine) (sets : List SetLine) : Type 0 where
  sends_from : SendsFrom net streams low sends
  sets_from : SetsFrom net low sets
  is_open : IsOpen seen low
  few_sends : length seen.sends + length sends ≤ max_sends
  few_sets : length seen.sets + length sets ≤ max_sets

-- these sends are read, with other lines
record TimedRead (net : Network) (streams : Streams) (seen : Seen) (n : ℕ) (sends : List SendLine) (sets : List SetLine) (rest : List ℕ) : Type 0 where
  found : List SendLine
  next : ℕ
  same : sent found ≡ sent sends
  read : rest_read net streams seen n (timed_lines net streams sends sets ++ rest) ≡ rest_read net streams (with_timed seen found sets) next rest

send_read : (net : Network) (streams : Streams) (seen : Seen) (n : ℕ) (s : SendLine) (rest : List ℕ) → streams_rules.Fits net streams → IsSend net streams s → IsOpen seen s.send.tick.0 → length seen.sends < max_sends
    → rest_read net streams seen n (send_line streams s ++ rest) ≡ rest_read net streams (with_said seen (said.Send (record { send = s.send; line = n }))) (n + 1) rest
send_read net streams seen n s rest streams_fit is opened few =
    let row = row_read net streams s.send.stream.0 is.row streams_fit is.known in
    let small : s.send.size < 2 ^ 64 = omega (arith, is.most, row.short) in
    step net streams seen n (codes "send") (decimal s.send.tick.0 ∷ row_name streams s.send.stream.0 ∷ decimal s.send.size ∷ []) rest (said.Send (record { send = s.send; line = n }))
    (name_word (codes "send") refl) (decimal_word s.send.tick.0 is.tick, (row.word, (decimal_word s.send.size small, tt)))
    (refl, (number_some s.send.tick.0 is.tick, (row.some, (number_some s.send.size small, tt)))) refl opened.unended
    (send_says net streams seen n s is.row is.known row.back is.tick is.least is.most row.short (open_last seen s.send.tick.0 s.send.tick.0 (omega arith) opened) few)

timed_read : (net : Network) (streams : Streams) → streams_rules.Fits net streams → (sends : List SendLine) (sets : List SetLine) (rest : List ℕ) (n : ℕ) (seen : Seen) (low : ℕ) → TimedHold net streams seen low sends sets → TimedRead net streams seen n sends sets rest
timed_read net streams streams_fit [] sets rest n seen low h =
    let read = sets_read net streams sets rest n seen (record { low = low; from = h.sets_from; is_open = h.is_open; few = h.few_sets }) in
    record {
      found = [];
      next = read.0;
      same = refl;
      read = read.1 ∙ ap (λ (s : Seen). rest_read net streams s read.0 rest) (sets_added seen sets ∙ ap (λ (l : List SendLine). record seen { sends = l; sets = seen.sets ++ sets }) (sym (append-nil seen.sends)));
    }
timed_read net streams streams_fit (s ∷ sends) sets rest n seen low h =
    let tick = s.send.tick.0 in
    let before = sets_before tick sets in
    let since = sets_since tick sets in
    let left = timed_lines net streams sends since in
    let whole = rejoined tick sets in
    let counts : length before + length since ≡ length sets = sym (length-append before since) ∙ ap length whole in
    let text : timed_lines net streams (s ∷ sends) sets ++ rest ≡ set_lines net before ++ (send_line streams s ++ (left ++ rest))
    = append_assoc (set_lines net before) (send_line streams s ++ left) rest ∙ ap (λ (l : List ℕ). set_lines net before ++ l) (append_assoc (send_line streams s) left rest) in
    let first = sets_read net streams before (send_line streams s ++ (left ++ rest)) n seen (record { low = low; from = before_from net low tick sets h.sets_from; is_open = h.is_open; few = omega (arith, h.few_sets, counts) }) in
    let seen1 : Seen = record seen { sets = seen.sets ++ before } in
    let open1 : IsOpen seen1 tick = open_sets seen low tick sets h.sends_from.0 h.is_open in
    let line : SendLine = record { send = s.send; line = first.0 } in
    let seen2 : Seen = record seen1 { sends = seen.sends ++ line ∷ [] } in
    let second : rest_read net streams seen1 first.0 (send_line streams s ++ (left ++ rest)) ≡ rest_read net streams seen2 (first.0 + 1) (left ++ rest)
    = send_read net streams seen1 first.0 s (left ++ rest) streams_fit h.sends_from.1 open1 (omega (arith, h.few_sends)) in
    let third = timed_read net streams streams_fit sends since rest (first.0 + 1) seen2 tick (record {
      sends_from = h.sends_from.2;
      sets_from = since_from net low tick sets h.sets_from;
      is_open = open_send seen1 line open1;
      few_sends = omega (arith, h.few_sends, length_push seen.sends line);
      few_sets = omega (arith, h.few_sets, counts, length-append seen.sets before);
    }) in
    let all_sets : (seen.sets ++ before) ++ since ≡ seen.sets ++ sets = append_assoc seen.sets before since ∙ ap (λ (l : List SetLine). seen.sets ++ l) whole in
    let ends : with_timed seen2 third.found since ≡ with_timed seen (line ∷ third.found) sets
    = ap (λ (l : List SendLine). record seen { sends = l; sets = (seen.sets ++ before) ++ since }) (append_assoc seen.sends (line ∷ []) third.found)
    ∙ ap (λ (l : List SetLine). record seen { sends = seen.sends ++ line ∷ third.found; sets = l }) all_sets in
    record {
      found = line ∷ third.found;
      next = third.next;
      same = ap (λ (l : List Send). s.send ∷ l) third.same;
      read = ap (rest_read net streams seen n) text
          ∙ first.1
          ∙ ap (λ (k : Seen). rest_read net streams k first.0 (send_line streams s ++ (left ++ rest))) (sets_added seen before)
          ∙ second
          ∙ third.read
          ∙ ap (λ (k : Seen). rest_read net streams k third.next rest) ends;
    }

--- ---- the whole

until_read : (net : Network) (streams : Streams) (seen : Seen) (n : ℕ) (t : Tick) → t.0 ≤ horizon net → seen.until ≡ None → rest_read net streams seen n (until_line t) ≡ Ok (record seen { until = Some t })
until_read net streams seen n t le unended =
    let early = until_small net t le in
    ap (rest_read net streams seen n) (sym (append-nil (until_line t)))
    ∙ step net streams seen n (codes "until") (decimal t.0 ∷ []) [] (said.Until t) (name_word (codes "until") refl) (decimal_word t.0 early, tt) (refl, (number_some t.0 early, tt)) refl unended (until_says net streams seen n t le)

pub reads_back : (net : Network) (streams : Streams) (script : Script) → streams_rules.Fits net streams → Fits net streams script → (read : Script) × (script_of net streams (script_text net streams script) ≡ Ok read) × IsSame read script
reads_back net streams script streams_fit fits =
    let rest3 = until_line script.until in
    let rest2 = damage_lines net script.damages ++ rest3 in
    let rest1 = loss_lines net script.losses ++ rest2 in
    let timed = timed_read net streams streams_fit script.sends script.sets rest1 1 nothing_seen 0 (record {
      sends_from = sends_from net streams 0 script.sends (λ k d lt. omega arith) fits.sends fits.sends_order;
      sets_from = sets_from net 0 script.sets (λ k d lt. omega arith) fits.sets fits.sets_order;
      is_open = record { unended = refl; sends = refl; sets = refl };
      few_sends = omega (arith, fits.sends_count);
      few_sets = omega (arith, fits.sets_count);
    }) in
    let seen1 : Seen = with_timed nothing_seen timed.found script.sets in
    let losses = losses_read net streams script.losses rest2 timed.next seen1 (record { each = each_of (IsLoss net) script.losses fits.losses; unended = refl; few = omega (arith, fits.losses_count) }) in
    let seen2 : Seen = record seen1 { losses = script.losses } in
    let damages = damages_read net streams script.damages rest3 losses.0 seen2 (record { each = each_of (IsDamage net) script.damages fits.damages; unended = refl; few = omega (arith, fits.damages_count) }) in
    let seen3 : Seen = record seen2 { damages = script.damages } in
    let until = until_read net streams seen3 damages.0 script.until fits.until refl in
    let text = script_text net streams script in
    let all : rest_read net streams nothing_seen 1 text ≡ Ok (record seen3 { until = Some script.until })
    = timed.read
    ∙ losses.1
    ∙ ap (λ (k : Seen). rest_read net streams k losses.0 rest2) (losses_added seen1 script.losses)
    ∙ damages.1
    ∙ ap (λ (k : Seen). rest_read net streams k damages.0 rest3) (damages_added seen2 script.damages)
    ∙ until in (
      record { sends = timed.found; sets = script.sets; losses = script.losses; damages = script.damages; until = script.until },
      ap (ended (length (lines_of text))) all,
      record { sends = timed.same; sets = refl; losses = refl; damages = refl; until = refl },
    )
