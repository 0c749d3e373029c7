use Rattle.std.proofs.Common.{◌≡◌, not, ap, ◌∙◌}
use Rattle.std.specs.BTreeSet.{insert_key}
use Rattle.pre_table.proofs.PairsAdded.{pair_cmp, pair_found, pair_added}
use Rattle.pre_table.proofs.text_sets.PairSet.add.Goals as goal

pub returns-clause-added : goal.returns-clause-added
returns-clause-added c =
    let keys : c.insert.new.self.keys ≡ insert_key pair_cmp c.args.self.now.pairs.keys (c.in_ok-left.left, c.in_ok-right.right) = c.in_ok-added.ensures.keys in
    λ has held. pair_added c.args.self.now _ has (c.in_ok-left.left, c.in_ok-right.right) c.args.first.now c.args.second.now c.in_ok-left.ensures.ok c.in_ok-right.ensures.ok keys held

pub returns-clause-first : goal.returns-clause-first
returns-clause-first c =
    λ has held. c.in_ok-added.ensures.added
    ∙ ap not (pair_found c.args.self.now has held (c.in_ok-left.left, c.in_ok-right.right) c.args.first.now c.args.second.now c.in_ok-left.ensures.ok c.in_ok-right.ensures.ok)
