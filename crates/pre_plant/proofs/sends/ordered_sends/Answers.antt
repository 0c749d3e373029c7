use Rattle.std.proofs.Common.{List, subst, rules}
use Rattle.std.specs.List.Sorted.{IsPermutation}
use Rattle.std.proofs.lemmas.List.Sorted.{answers_always, ties_still_rise, IsNonDecreasingBy-from_sort_by_key, IsPermutation-trans}
use Rattle.pre_base.specs.declared.numbers.Send.{Send}
use Rattle.pre_plant.specs.Scripts.{sends_by_row}
use Rattle.pre_plant.proofs.Orders.{in_order}
use Rattle.pre_plant.proofs.Sending.{never_twice}
use Rattle.pre_plant.proofs.sends.ordered_sends.Goals as goal

pub returns : goal.returns
returns c =
    let draws = c.args.draws.now in
    let one = c.sort_by_key.new.self.items in
    let two = c.sort_by_key-2.new.self.items in
    let first : IsPermutation (sends_by_row draws) one = subst (λ (xs : List Send). IsPermutation xs one) c.in_ok-sends.ensures c.in_ok-sort_by_key.ensures.permutation in
    let same : IsPermutation (sends_by_row draws) two = IsPermutation-trans (sends_by_row draws) one two first c.in_ok-sort_by_key-2.ensures.permutation in
    record {
      same = same;
      order = in_order two
          (IsNonDecreasingBy-from_sort_by_key (λ s. s.tick.0) _ c.in_ok-sort_by_key-2.ensures.sorted (λ a r q k. search rules))
          (ties_still_rise (λ s. s.stream.0) (λ s. s.tick.0) _ _ (c.in_ok-sort_by_key.ensures.sorted (λ s. s.stream.0) (answers_always _ _ _ (λ f a r g h. search rules)))
          (c.in_ok-sort_by_key-2.ensures.stable (λ s. s.tick.0) (answers_always _ _ _ (λ f a r g h. search rules))))
          (never_twice draws two same);
    }
