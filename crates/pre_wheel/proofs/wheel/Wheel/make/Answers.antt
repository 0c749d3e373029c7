use Rattle.std.proofs.Common.{rules, ◌≡◌, ◌*◌, None, replicate, ◌∙◌, ap}
use Rattle.std.specs.Ordering.{nat_cmp}
use Rattle.std.specs.FinMap as map
use Rattle.pre_wheel.specs.Winners.{dues_of}
use Rattle.pre_wheel.proofs.Turns.{dues_of-new}
use Rattle.pre_wheel.proofs.wheel.Wheel.make.Goals as goal

pub returns : goal.returns
returns c =
    let none : c.in_ok-nodes.nodes.items ≡ replicate (2 * c.from-members.result) None = c.in_ok-nodes.ensures.items_if_clones_equal (λ y h. search rules) in
    ap (dues_of c.from-members.result) none ∙ dues_of-new c.from-members.result ∙ ap (λ n. record { members = n; due = map.empty {R = nat_cmp} }) c.from-members.ensures
