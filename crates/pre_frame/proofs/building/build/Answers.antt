use Rattle.std.proofs.Common.{◌≡◌, ◌-◌, take, length, ap, ap₂, ◌++◌, drop, ◌∙◌, arith}
use Rattle.std.proofs.lemmas.List.{length-take-le}
use Rattle.pre_frame.specs.Layout.{payload_of, with_check, frame_of}
use Rattle.pre_frame.proofs.building.build.Goals as goal

pub returns-clause-frame : goal.returns-clause-frame
unfolding frame_of
returns-clause-frame c =
    let written : c.put_frame.new.frame ≡ with_check (c.header-header.result ++ payload_of c.args.number.0 (length (take c.from-size.result c.args.into.now) - 22)) = c.put_frame.ensures in
    let long : length (take c.from-size.result c.args.into.now) - 22 ≡ c.args.size - 22 = ap (λ n. n - 22) (length-take-le c.from-size.result c.args.into.now (omega arith) ∙ c.from-size.ensures) in
    ap₂ (λ us vs. us ++ vs) (written ∙ ap₂ (λ us n. with_check (us ++ payload_of c.args.number.0 n)) c.header-header.ensures long) (ap (λ n. drop n c.args.into.now) c.from-size.ensures)
