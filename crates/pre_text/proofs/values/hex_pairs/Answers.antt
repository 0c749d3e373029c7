use Rattle.std.proofs.Common.{◌≡◌, ◌<◌, ◌+◌, ◌*◌, ◌++◌, ◌∙◌, true, false, List, Option, Some, length, get_or, drop, take, add-one, sym, ap, arith, refl, ℕ}
use Rattle.std.specs.Option.{option_map, option_map_or}
use Rattle.std.proofs.lemmas.List.{take_all}
use Rattle.pre_text.specs.Words.{are_pairs, pair_octets}
use Rattle.pre_text.proofs.Pairs.{length-pair_octets, pair_at, within, refused, wide, written_more}
use Rattle.pre_text.proofs.values.hex_pairs.Goals as goal
use Rattle.pre_text.proofs.values.hex_pairs.Goals.{then-not-spells_pairs-via-then-not-spells_pairs, then-not-spells_pairs-via-else-not-spells_pairs+then-into-word}

pub returns-then-not-spells_pairs-clause-count : goal.returns-then-not-spells_pairs-clause-count
returns-then-not-spells_pairs-clause-count c =
    elim c.then-not-spells_pairs.branch [
      | then-not-spells_pairs-via-then-not-spells_pairs w ↦
          let no : are_pairs c.args.word.now ≡ false = sym c.spells_pairs.ensures ∙ w.if-not-spells_pairs.true in
          ap (option_map length) (sym (refused c.args.word.now (length c.args.into.now) no))
      | then-not-spells_pairs-via-else-not-spells_pairs+then-into-word w ↦
          let yes : are_pairs c.args.word.now ≡ true = sym c.spells_pairs.ensures ∙ w.if-not-spells_pairs.false in
          ap (option_map length) (sym (wide c.args.word.now (length c.args.into.now) yes w.if-into-word.true))
    ]

pub returns-then-not-spells_pairs-clause-written :
    goal.returns-then-not-spells_pairs-clause-written
returns-then-not-spells_pairs-clause-written c =
    let left = λ (o : Option (List ℕ)). option_map_or (λ (octets : List ℕ). octets ++ drop (length octets) c.args.into.now) o c.args.into.now in
    elim c.then-not-spells_pairs.branch [
      | then-not-spells_pairs-via-then-not-spells_pairs w ↦
          let no : are_pairs c.args.word.now ≡ false = sym c.spells_pairs.ensures ∙ w.if-not-spells_pairs.true in
          ap left (sym (refused c.args.word.now (length c.args.into.now) no))
      | then-not-spells_pairs-via-else-not-spells_pairs+then-into-word w ↦
          let yes : are_pairs c.args.word.now ≡ true = sym c.spells_pairs.ensures ∙ w.if-not-spells_pairs.false in
          ap left (sym (wide c.args.word.now (length c.args.into.now) yes w.if-into-word.true))
    ]

pub loop-i-preserved : goal.loop-i-preserved
loop-i-preserved c =
    let word = c.args.word.now in
    let i = c.loop-i.i in
    let room : i < length (pair_octets word) = omega (arith, length-pair_octets word) in
    let pair = pair_at word i (2 * i) refl (omega arith) in
    let value : 16 * c.hex_value.result + c.hex_value-in-loop-i.result ≡ get_or (pair_octets word) i 0 = rw (c.hex_value.ensures.value, c.hex_value-in-loop-i.ensures.value, add-one (2 * i)) (sym pair) in
    rw (add-one i) (written_more (pair_octets word) c.args.into.now c.loop-i.into i (16 * c.hex_value.result + c.hex_value-in-loop-i.result) room (omega arith) c.loop-i.invariant value)

pub returns-clause-count : goal.returns-clause-count
returns-clause-count c =
    let word = c.args.word.now in
    let yes : are_pairs word ≡ true = sym c.spells_pairs.ensures ∙ c.if-not-spells_pairs.false in
    ap Some (sym (length-pair_octets word)) ∙ ap (option_map length) (sym (within word (length c.args.into.now) yes (omega arith)))

pub returns-clause-written : goal.returns-clause-written
returns-clause-written c =
    let word = c.args.word.now in
    let left = λ (o : Option (List ℕ)). option_map_or (λ (octets : List ℕ). octets ++ drop (length octets) c.args.into.now) o c.args.into.now in
    let yes : are_pairs word ≡ true = sym c.spells_pairs.ensures ∙ c.if-not-spells_pairs.false in
    let long : c.loop-i.i ≡ length (pair_octets word) = omega (arith, length-pair_octets word) in
    c.loop-i.invariant ∙ ap (λ (n : ℕ). take n (pair_octets word) ++ drop n c.args.into.now) long
    ∙ ap (λ (l : List ℕ). l ++ drop (length (pair_octets word)) c.args.into.now) (take_all (length (pair_octets word)) (pair_octets word) (omega arith))
    ∙ ap left (sym (within word (length c.args.into.now) yes (omega arith)))
