use Rattle.std.proofs.Common.{◌≡◌, ◌<◌, ◌≤◌, sym, ◌∙◌, arith, length, length-set, Some, take}
use Rattle.std.proofs.lemmas.List.{take_all}
use Rattle.toml.specs.View.{view}
use Rattle.pre_table.specs.Values.{as_whole}
use Rattle.pre_table.proofs.Elements.{each_seen, filled}
use Rattle.pre_table.proofs.lists.eight_numbers.Goals as goal

pub loop-place-preserved : goal.loop-place-preserved
loop-place-preserved c =
    let eight : length c.loop-place.numbers ≡ 8 = c.loop-place.invariant.0 in
    let room : c.loop-place.place < length c.loop-place.numbers = omega arith in
    let one : as_whole (view c.index-values-place.result) ≡ Some c.in_ok-numbers.field-0 = sym c.as_whole.ensures ∙ c.in_ok-numbers.was in
    (rw length-set eight, filled as_whole view c.args.values.now c.loop-place.numbers c.loop-place.place c.index-values-place.result c.in_ok-numbers.field-0 c.loop-place-test.true room c.index-values-place.is one c.loop-place.invariant.1)

pub returns : goal.returns
returns c =
    let values : take c.loop-place.place c.args.values.now ≡ c.args.values.now = take_all c.loop-place.place c.args.values.now c.loop-place-test.false in
    let eight : length c.loop-place.numbers ≡ 8 = c.loop-place.invariant.0 in
    let within : length c.loop-place.numbers ≤ c.loop-place.place = omega arith in
    let numbers : take c.loop-place.place c.loop-place.numbers ≡ c.loop-place.numbers = take_all c.loop-place.place c.loop-place.numbers within in
    sym (each_seen as_whole view c.args.values.now c.loop-place.numbers (rw (← values, ← numbers) c.loop-place.invariant.1))
