use Rattle.std.proofs.Common.{ℕ, ◌∙◌, ap, sym, Some, List, rules}
use Rattle.std.specs.Prelude.{replicate}
use Rattle.std.proofs.lemmas.List.{length-take-le}
use Rattle.pre_text.specs.Words.{pairs_within}
use Rattle.pre_cli.specs.PacketFiles.{max_arrival}
use Rattle.pre_cli.proofs.PacketLines.{no_octets, some_octets}
use Rattle.pre_cli.proofs.packet_files.octets_of.Goals as goal

pub slice_bounds-room-end : goal.slice_bounds-room-end
slice_bounds-room-end c = (some_octets (pairs_within max_arrival c.args.word.now) c.in-Some.count (replicate 4096 0) c.hex_pairs.new.into c.in-Some.ensures.count c.in-Some.ensures.written).0

pub slice_bounds-to_vec-end : goal.slice_bounds-to_vec-end
slice_bounds-to_vec-end c = sym (length-take-le c.in-Some.count c.hex_pairs.new.into (some_octets (pairs_within max_arrival c.args.word.now) c.in-Some.count (replicate 4096 0) c.hex_pairs.new.into c.in-Some.ensures.count c.in-Some.ensures.written).0)

pub returns-in-None : goal.returns-in-None
returns-in-None c = no_octets (pairs_within max_arrival c.args.word.now) c.in-None.ensures.count

pub returns-in_ok-octets-in-Some : goal.returns-in_ok-octets-in-Some
returns-in_ok-octets-in-Some c =
    ap (λ (xs : List ℕ). Some xs) (c.from_vec.ensures ∙ c.in_ok-octets-in-Some.ensures.items_if_clones_equal (search rules))
    ∙ (some_octets (pairs_within max_arrival c.args.word.now) c.in-Some.count (replicate 4096 0) c.hex_pairs.new.into c.in-Some.ensures.count c.in-Some.ensures.written).1
