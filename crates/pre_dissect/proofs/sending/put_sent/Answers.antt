use Rattle.std.proofs.Common.{◌≡◌, ◌≤◌, ◌+◌, ◌-◌, ◌++◌, take, drop, rules, ap, ◌∙◌, arith}
use Rattle.std.proofs.lemmas.List.{length-take}
use Rattle.pre_mpacket.specs.Spelling.{head_of}
use Rattle.pre_dissect.proofs.Sent.{written, room_for, piece}
use Rattle.pre_dissect.proofs.sending.put_sent.Goals as goal

pub returns-clause-sent : goal.returns-clause-sent
returns-clause-sent c = λ whole is counts fits least.
    let from = c.from-from.result in
    let size = c.from.result in
    let same_from : from ≡ c.args.newest.from = search rules in
    let same_size : size ≡ c.args.ending.size = search rules in
    let within : from + size ≤ c.in_ok-count.count = search rules in
    let most : c.in_ok-count.count ≤ 2000 = search rules in
    let mdata = take (from + size - 4 - from) (drop from c.put_whole.new.into) in
    let room = room_for c.write_mpacket.result (λ err. let short = c.write_mpacket.ensures.room.0 err in absurd (omega (arith, short, length-take (from + size - 4 - from) (drop from c.put_whole.new.into), within, most, c.told-into, least, same_size))) in
    let carried : mdata ≡ take (c.args.ending.size - 4) (drop c.args.newest.from whole)
    = piece from size c.in_ok-count.count c.put_whole.new.into whole (c.in_ok-count.ensures.whole whole is) within (omega (arith, same_size, least)) ∙ (λ i. take (same_size i - 4) (drop (same_from i) whole)) in
    written c.args.newest.kind _ _ c.write_mpacket.new.into (head_of c.args.newest.kind ++ take (c.args.ending.size - 4) (drop c.args.newest.from whole) ++ c.args.ending.check) c.write_mpacket.result c.ok.result
    c.ok.ensures.value room c.write_mpacket.ensures.spelled (ap (λ m. head_of c.args.newest.kind ++ m ++ c.args.ending.check) carried)
