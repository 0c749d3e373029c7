use Rattle.std.proofs.Common.{◌≡◌, ◌≤◌, length, decimal, ap, ◌∙◌, arith, rules}
use Rattle.std.proofs.lemmas.Fmt.{length-decimal-le}
use Rattle.pre_lldp.proofs.Written.{frame_written}
use Rattle.pre_lldp.proofs.writing.write_lldp.Goals as goal

pub returns : goal.returns
returns c =
    let text : c.as_bytes-digits.result.now ≡ decimal c.args.arc.0 = c.as_bytes-digits.ensures.value ∙ c.format.ensures.text in
    let short : length (decimal c.args.arc.0) ≤ 5 = length-decimal-le 5 c.args.arc.0 (omega arith) (omega arith) (omega arith) in
    let five : length c.as_bytes-digits.result.now ≤ 5 = omega (arith, ap length text) in
    frame_written c.args.node.0 c.args.arc.0 c.args.advert.now c.put-place.new.into c.put-place-2.new.into c.put-place-3.new.into c.front.result c.as_bytes-digits.result.now c.back.result
    c.fill.new.self c.copy_from_slice.new.self c.put-place.result c.put-place-2.result c.put-place-3.result
    (omega arith) c.put-place.ensures.written c.put-place-2.ensures.written c.put-place-3.ensures.written
    (omega arith) c.put-place-2.ensures.place c.put-place-3.ensures.place (search rules) text c.back.ensures five
    (c.fill.ensures.after (λ y e. e)) (c.copy_from_slice.ensures.after ∙ c.fcs-check.ensures)
