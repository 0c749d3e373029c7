use Rattle.std.proofs.Common.{◌≡◌, ◌-◌, ◌++◌, length, take, drop, ap, ◌∙◌, arith, length-append}
use Rattle.std.proofs.lemmas.List.{length-take-le, take_at}
use Rattle.pre_frame.proofs.FrameFacts.{length-payload_of}
use Rattle.pre_frame.specs.Layout.{payload_of, with_check, frame_of}
use Rattle.pre_frame.proofs.building.build_unchecked.Goals as goal

pub returns-clause-frame : goal.returns-clause-frame
unfolding frame_of
returns-clause-frame c =
    let n = c.from-end.result - 4 in
    let part : length (take n c.args.into.now) - 18 ≡ c.args.size - 22 = ap (λ k. k - 18) (length-take-le n c.args.into.now c.if-into-end.false) ∙ omega (arith, c.from-end.ensures) in
    let written : c.put_unchecked.new.octets ≡ c.header-header.result ++ payload_of c.args.number.0 (length (take n c.args.into.now) - 18) = c.put_unchecked.ensures in
    let is : c.put_unchecked.new.octets ≡ c.header-header.result ++ payload_of c.args.number.0 (c.args.size - 22) = written ∙ ap (λ k. c.header-header.result ++ payload_of c.args.number.0 k) part in
    let header : length c.header-header.result ≡ 18 = ap length c.header-header.ensures in
    let long : length c.put_unchecked.new.octets ≡ c.args.size - 4 =
    ap length is ∙ omega (arith, length-append c.header-header.result (payload_of c.args.number.0 (c.args.size - 22)), header, length-payload_of c.args.number.0 (c.args.size - 22) (omega arith)) in
    ap with_check (take_at c.put_unchecked.new.octets (drop n c.args.into.now) (c.args.size - 4) long
    ∙ (is ∙ ap (λ xs. xs ++ payload_of c.args.number.0 (c.args.size - 22)) c.header-header.ensures))
