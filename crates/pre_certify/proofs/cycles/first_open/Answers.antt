use Rattle.std.proofs.Common.{arith, None}
use Rattle.std.proofs.lemmas.Option.{slice_get_within}
use Rattle.pre_certify.proofs.Walking.{none_open}
use Rattle.pre_certify.proofs.cycles.first_open.Goals as goal

pub returns : goal.returns
returns c =
    let none = none_open c.args.ranks.now (λ a e. let inside = slice_get_within c.args.ranks.now a None e in c.loop-arc.invariant a (omega (arith, inside, c.loop-arc-test.false)) e) in
    absurd (omega (arith, none, c.requires.some))
