use Rattle.std.proofs.Common.{ℕ, ◌∙◌, ap, sym, Some, List, rules}
use Rattle.std.specs.Prelude.{replicate}
use Rattle.std.proofs.lemmas.List.{length-take-le}
use Rattle.pre_text.specs.Words.{pairs_within}
use Rattle.pre_script.specs.Rules.{max_damaged}
use Rattle.pre_script.proofs.Values.{none_spelled, spelled_in_front}
use Rattle.pre_script.proofs.saying.octets_of.Goals as goal

pub slice_bounds-room-end : goal.slice_bounds-room-end
slice_bounds-room-end c = (spelled_in_front (pairs_within max_damaged c.args.word.now) c.in-Some.count (replicate 32 0) c.hex_pairs.new.into c.in-Some.ensures.count c.in-Some.ensures.written).0

pub slice_bounds-to_vec-end : goal.slice_bounds-to_vec-end
slice_bounds-to_vec-end c = sym (length-take-le c.in-Some.count c.hex_pairs.new.into (spelled_in_front (pairs_within max_damaged c.args.word.now) c.in-Some.count (replicate 32 0) c.hex_pairs.new.into c.in-Some.ensures.count c.in-Some.ensures.written).0)

pub returns-in-None : goal.returns-in-None
returns-in-None c = none_spelled (pairs_within max_damaged c.args.word.now) c.in-None.ensures.count

pub returns-in_ok-to_vec-in-Some : goal.returns-in_ok-to_vec-in-Some
returns-in_ok-to_vec-in-Some c =
    ap (λ (xs : List ℕ). Some xs) (c.from_vec.ensures ∙ c.in_ok-to_vec-in-Some.ensures.items_if_clones_equal (search rules))
    ∙ (spelled_in_front (pairs_within max_damaged c.args.word.now) c.in-Some.count (replicate 32 0) c.hex_pairs.new.into c.in-Some.ensures.count c.in-Some.ensures.written).1
