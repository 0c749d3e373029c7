use Rattle.std.proofs.Common.{◌≡◌, ◌∙◌, ap, length, take, true, rules}
use Rattle.std.specs.Option.{option_map}
use Rattle.std.specs.List.{list_all}
use Rattle.pre_base.specs.declared.limits.TheConstants.{GREATEST_FRAME}
use Rattle.pre_text.specs.Words.{pairs_within}
use Rattle.pre_trace.specs.Values.{is_lower_case_digit}
use Rattle.pre_trace.proofs.Fronts.{front_is, no_pairs, some_pairs}
use Rattle.pre_trace.proofs.values.octets_into.Goals as goal

pub returns-in_err-count : goal.returns-in_err-count
returns-in_err-count c =
    let low : list_all is_lower_case_digit c.args.word.now ≡ true = search rules in
    ap (option_map (λ o. o.now)) c.from_residual.ensures ∙ no_pairs c.args.into.now c.args.word.now c.requires low c.in_err-count.ensures.count

pub slice_bounds-result-end : goal.slice_bounds-result-end
slice_bounds-result-end c = (front_is c.in_ok-count.count (take GREATEST_FRAME c.args.into.now) c.hex_pairs.new.into
    (pairs_within (length (take GREATEST_FRAME c.args.into.now)) c.args.word.now) c.in_ok-count.ensures.count c.hex_pairs.ensures.written).1

pub returns : goal.returns
returns c =
    let low : list_all is_lower_case_digit c.args.word.now ≡ true = search rules in
    some_pairs c.in_ok-count.count c.args.into.now c.hex_pairs.new.into c.args.word.now c.requires low c.in_ok-count.ensures.count c.hex_pairs.ensures.written
