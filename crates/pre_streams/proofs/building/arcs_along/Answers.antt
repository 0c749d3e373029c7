use Rattle.std.proofs.Common.{◌≡◌, [], arith, sym, ◌∙◌, ap, ◌++◌, List}
use Rattle.std.proofs.lemmas.List.{append-nil}
use Rattle.pre_base.specs.declared.numbers.ArcId.{ArcId}
use Rattle.pre_streams.specs.NamedRoutes.{arcs_along}
use Rattle.pre_streams.proofs.Rising.{short_route}
use Rattle.pre_streams.proofs.building.arcs_along.Goals as goal

pub returns : goal.returns
returns c =
    let none : arcs_along c.args.net.now c.loop-rest.rest.now ≡ [] = short_route c.args.net.now c.loop-rest.rest.now (omega (arith, c.in_default.len_below)) in
    sym (append-nil c.loop-rest.arcs) ∙ ap (λ (l : List ArcId). c.loop-rest.arcs ++ l) (sym none) ∙ c.loop-rest.invariant
