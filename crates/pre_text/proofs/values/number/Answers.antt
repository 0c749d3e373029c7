use Rattle.std.proofs.Common.{◌≡◌, ◌≤◌, ◌<◌, ◌+◌, ◌*◌, ◌-◌, ◌^◌, ◌∙◌, true, take, get_or, sym, ap, arith, refl, Some, subst, ℕ}
use Rattle.std.specs.Str.Parse.{digits_value}
use Rattle.std.proofs.lemmas.List.{take_all}
use Rattle.std.proofs.lemmas.Bool.Decides.{nat_tests}
use Rattle.pre_text.specs.Words.{is_plain}
use Rattle.pre_text.proofs.Numbers.{value_more, fits, passes}
use Rattle.pre_text.proofs.values.number.Goals as goal

pub returns-in_err-checked_mul : goal.returns-in_err-checked_mul
returns-in_err-checked_mul c =
    let word = c.args.word.now in
    let i = c.loop-digit.digit-index in
    let plain : is_plain word ≡ true = grind (arith, nat_tests) in
    let more = value_more word i c.loop-digit.value (c.loop-digit.value * 10 + (get_or word i 0 - 48)) plain c.loop-digit-test.true c.loop-digit.invariant.so_far refl in
    let large : 2 ^ 64 ≤ digits_value 10 (take (i + 1) word) = omega (arith, more, c.in_err-checked_mul.ensures) in
    c.from_residual.ensures ∙ sym (passes word (i + 1) plain large)

pub returns-in_err-value : goal.returns-in_err-value
returns-in_err-value c =
    let word = c.args.word.now in
    let i = c.loop-digit.digit-index in
    let plain : is_plain word ≡ true = grind (arith, nat_tests) in
    let more = value_more word i c.loop-digit.value (c.loop-digit.value * 10 + (get_or word i 0 - 48)) plain c.loop-digit-test.true c.loop-digit.invariant.so_far refl in
    let large : 2 ^ 64 ≤ digits_value 10 (take (i + 1) word) = omega (arith, more, c.in_err-value.ensures, c.in_ok-checked_mul.ensures.1) in
    c.from_residual-in_err-value.ensures ∙ sym (passes word (i + 1) plain large)

pub loop-digit-preserved : goal.loop-digit-preserved
loop-digit-preserved c =
    let word = c.args.word.now in
    let i = c.loop-digit.digit-index in
    let plain : is_plain word ≡ true = grind (arith, nat_tests) in
    record {
      so_far = value_more word i c.loop-digit.value c.in_ok-value.value plain c.loop-digit-test.true c.loop-digit.invariant.so_far (omega (arith, c.in_ok-value.ensures.1, c.in_ok-checked_mul.ensures.1));
      fits = omega (arith, c.in_ok-value.ensures);
    }

pub returns : goal.returns
returns c =
    let word = c.args.word.now in
    let plain : is_plain word ≡ true = grind (arith, nat_tests) in
    let all = take_all c.loop-digit.digit-index word (omega arith) in
    let value : c.loop-digit.value ≡ digits_value 10 word = c.loop-digit.invariant.so_far ∙ ap (digits_value 10) all in
    ap Some value ∙ sym (fits word plain (subst (λ (n : ℕ). n < 2 ^ 64) value c.loop-digit.invariant.fits))
