use Rattle.std.proofs.Common.{◌≡◌, ℕ, List, length, min, take, ap, subst, arith, ◌∙◌}
use Rattle.std.proofs.lemmas.List.{take_min}
use Rattle.pre_base.specs.Told.{WhereTold}
use Rattle.pre_base.specs.Sinks.{TakesAll}
use Rattle.pre_base.specs.declared.numbers.StreamId.{StreamId}
use Rattle.pre_picture.specs.Bounds.{bounds_text, whole_text}
use Rattle.pre_picture.proofs.bounds.put_bounds.Goals as goal

pub returns-clause-octets : goal.returns-clause-octets
unfolding bounds_text
returns-clause-octets g c =
    let bounds = c.args.bounds.now in
    let few : c.min.result ≡ min 512 (length bounds) = omega (arith, c.min.ensures) in
    let front : take c.min.result bounds ≡ take 512 bounds = ap (λ (n : ℕ). take n bounds) few ∙ take_min 512 bounds in
    subst (λ (l : List (StreamId × ℕ)). WhereTold (g.S.Sink.tells c.args.sink.now) (g.S.Sink.tells c.put_whole.new.sink) (TakesAll c.put_whole.result (whole_text c.args.rows.now l c.args.sent.now.events.now)))
    front c.put_whole.ensures.octets
