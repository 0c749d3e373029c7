use Rattle.std.proofs.Common.{◌≡◌, not, ap, ◌∙◌, true, string_bytes}
use Rattle.std.specs.BTreeSet.{contains_text}
use Rattle.std.proofs.lemmas.Map.Text.{btree_set_updates_text}
use Rattle.std.proofs.lemmas.Result.{IfOk-at_ok}
use Rattle.pre_table.proofs.Added.{IsSetOf-has, one_more}
use Rattle.pre_table.proofs.text_sets.TextSet.add.Goals as goal

pub returns-clause-added : goal.returns-clause-added
returns-clause-added c =
    let is_text = IfOk-at_ok (λ s. string_bytes s ≡ c.args.text.now) c.in_ok-key.was c.from_str.ensures.ok in
    let sets = btree_set_updates_text (string_bytes c.in_ok-key.key) c.args.self.now.texts c.insert.new.self true c.in_ok-first.ensures.updates in
    λ texts held. one_more c.args.self.now _ texts c.args.text.now (rw is_text at sets) held

pub returns-clause-first : goal.returns-clause-first
returns-clause-first c =
    let is_text = IfOk-at_ok (λ s. string_bytes s ≡ c.args.text.now) c.in_ok-key.was c.from_str.ensures.ok in
    λ texts held. c.in_ok-first.ensures.added ∙ ap not (ap (contains_text c.args.self.now.texts) is_text ∙ IsSetOf-has c.args.self.now texts held c.args.text.now)
