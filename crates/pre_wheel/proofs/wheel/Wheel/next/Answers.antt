use Rattle.std.proofs.Common.{◌≡◌, None, Some, ◌∙◌, sym, ap, arith, ◌<◌}
use Rattle.std.proofs.lemmas.List.{get_or_read}
use Rattle.pre_wheel.specs.Winners.{node_at}
use Rattle.pre_wheel.proofs.Turns.{IfNone-always, empty_root, empty_wheel, root_is_own, root_is_least}
use Rattle.pre_wheel.proofs.wheel.Wheel.next.Goals as goal

pub returns-then-self-eq0-clause-none : goal.returns-then-self-eq0-clause-none
returns-then-self-eq0-clause-none c = empty_wheel c.self.inside.members c.self.inside.nodes.items c.args.self.now c.self.view_is c.self.invariant c.if-self-eq0.true

pub returns-in_err-first-clause-none : goal.returns-in_err-first-clause-none
returns-in_err-first-clause-none c =
    let nodes = c.self.inside.nodes.items in
    let some : 0 < c.self.inside.members = omega (arith, c.if-self-eq0.false) in
    let root : node_at nodes 1 ≡ None = sym (get_or_read nodes 1 c.index.result.now (omega (arith, some, c.self.invariant.size)) c.index.ensures None) ∙ c.in_err-first.was in
    IfNone-always c.from_residual.result (empty_root c.self.inside.members nodes c.args.self.now c.self.view_is c.self.invariant root)

pub set-requires : goal.set-requires
set-requires c =
    let nodes = c.self.inside.nodes.items in
    let some : 0 < c.self.inside.members = omega (arith, c.if-self-eq0.false) in
    let root : node_at nodes 1 ≡ Some c.in_ok-first.first = sym (get_or_read nodes 1 c.index.result.now (omega (arith, some, c.self.invariant.size)) c.index.ensures None) ∙ c.in_ok-first.was in
    let own = root_is_own c.self.inside.members nodes c.in_ok-first.first c.self.invariant some root in
    omega (arith, own.0, ap (λ d. d.members) c.self.view_is)

pub returns-clause-member : goal.returns-clause-member
returns-clause-member c =
    let nodes = c.self.inside.nodes.items in
    let some : 0 < c.self.inside.members = omega (arith, c.if-self-eq0.false) in
    let root : node_at nodes 1 ≡ Some c.in_ok-first.first = sym (get_or_read nodes 1 c.index.result.now (omega (arith, some, c.self.invariant.size)) c.index.ensures None) ∙ c.in_ok-first.was in
    let own = root_is_own c.self.inside.members nodes c.in_ok-first.first c.self.invariant some root in
    omega (arith, own.0, ap (λ d. d.members) c.self.view_is)

pub returns-clause-least : goal.returns-clause-least
returns-clause-least c =
    let nodes = c.self.inside.nodes.items in
    let some : 0 < c.self.inside.members = omega (arith, c.if-self-eq0.false) in
    let root : node_at nodes 1 ≡ Some c.in_ok-first.first = sym (get_or_read nodes 1 c.index.result.now (omega (arith, some, c.self.invariant.size)) c.index.ensures None) ∙ c.in_ok-first.was in
    root_is_least c.self.inside.members nodes c.args.self.now c.in_ok-first.first c.self.view_is c.self.invariant some root
