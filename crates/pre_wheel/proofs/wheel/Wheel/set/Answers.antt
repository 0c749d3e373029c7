use Rattle.std.proofs.Common.{◌≡◌, ◌+◌, ◌<◌, length, set, ◌∙◌, sym, ap, subst, arith}
use Rattle.std.proofs.lemmas.List.{with_items_is, length-set}
use Rattle.std.specs.Vec.{with_item}
use Rattle.pre_wheel.specs.Dues.{with_due}
use Rattle.pre_wheel.specs.Winners.{dues_of, leaf_of, node_at, IsTournament}
use Rattle.pre_wheel.proofs.Turns.{dues_of-set, IsTournament-set}
use Rattle.pre_wheel.proofs.wheel.Wheel.set.Goals as goal

pub invariant_of-self : goal.invariant_of-self
invariant_of-self c =
    let members = c.self.inside.members in
    let nodes = c.self.inside.nodes.items in
    let here : c.args.member < members = omega (arith, c.requires, ap (λ d. d.members) c.self.view_is) in
    let was : c.deref_mut.result.now ≡ set nodes (members + c.args.member) (leaf_of c.args.member c.args.at) =
    c.deref_mut.ensures.value ∙ ap (λ n. set nodes (members + n) c.leaf.result) c.from.ensures ∙ ap (set nodes (members + c.args.member)) c.leaf.ensures
    in
    let size : length c.deref_mut.result.now ≡ length nodes = ap length was ∙ length-set nodes (members + c.args.member) (leaf_of c.args.member c.args.at) in
    let long : length c.renew.new.nodes ≡ length nodes = c.renew.auto.nodes ∙ size in
    let same = with_items_is (with_item c.self.inside.nodes (members + c.from.result) c.leaf.result) c.renew.new.nodes (long ∙ sym c.self.inside.nodes.ok.0) in
    subst (λ l. IsTournament members l) (sym same)
    (IsTournament-set members nodes c.renew.new.nodes c.args.member c.args.at c.self.invariant here long (λ i p q. c.renew.ensures.won i p (omega (arith, size, q)))
    (λ k h. c.renew.ensures.leaves k (omega (arith, size, h)) ∙ ap (λ l. node_at l k) was))

pub returns-clause-due : goal.returns-clause-due
returns-clause-due c =
    let members = c.self.inside.members in
    let nodes = c.self.inside.nodes.items in
    let here : c.args.member < members = omega (arith, c.requires, ap (λ d. d.members) c.self.view_is) in
    let was : c.deref_mut.result.now ≡ set nodes (members + c.args.member) (leaf_of c.args.member c.args.at) =
    c.deref_mut.ensures.value ∙ ap (λ n. set nodes (members + n) c.leaf.result) c.from.ensures ∙ ap (set nodes (members + c.args.member)) c.leaf.ensures
    in
    let size : length c.deref_mut.result.now ≡ length nodes = ap length was ∙ length-set nodes (members + c.args.member) (leaf_of c.args.member c.args.at) in
    let long : length c.renew.new.nodes ≡ length nodes = c.renew.auto.nodes ∙ size in
    let same = with_items_is (with_item c.self.inside.nodes (members + c.from.result) c.leaf.result) c.renew.new.nodes (long ∙ sym c.self.inside.nodes.ok.0) in
    ap (dues_of members) same
    ∙ dues_of-set members nodes c.renew.new.nodes c.args.member c.args.at c.self.invariant.size here (λ k h. c.renew.ensures.leaves k (omega (arith, size, h)) ∙ ap (λ l. node_at l k) was)
    ∙ ap (λ d. with_due d c.args.member c.args.at) c.self.view_is
