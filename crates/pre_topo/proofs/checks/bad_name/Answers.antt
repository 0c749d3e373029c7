use Rattle.std.proofs.Common.{◌≡◌, true, sym, ◌∙◌, ap, take, get_or, subst, arith, ◌++◌, ◌∷◌, []}
use Rattle.pre_text.specs.Words.{is_name}
use Rattle.pre_table.proofs.FirstRows.{first_row_at, first_row_none, none_further}
use Rattle.pre_table.proofs.Repeated.{set_more, unnamed_breaks, repeated_breaks, new_holds}
use Rattle.pre_table.specs.TextSets.{IsSetOf}
use Rattle.pre_topo.specs.declared.raw.RawNode.{RawNode}
use Rattle.pre_topo.specs.FileRules.{node_names, name_breaks}
use Rattle.pre_topo.proofs.checks.bad_name.Goals.{then-not-name-via-then-not-name, then-not-name-via-else-not-name+in_ok-add+then-not-branch}
use Rattle.pre_topo.proofs.checks.bad_name.Goals as goal

pub returns-then-not-name : goal.returns-then-not-name
returns-then-not-name c =
    let nodes = c.args.nodes.now in
    let i = c.loop-place.place in
    let node = c.index-nodes-place.result in
    let breaks : name_breaks nodes i (get_or nodes i node) ≡ true = elim c.then-not-name.branch [
      | then-not-name-via-then-not-name w ↦
          unnamed_breaks (λ (n : RawNode). n.name) is_name nodes i node c.as_str-name.result.now c.index-nodes-place.is c.as_str-name.ensures
          (sym (ap is_name c.as_bytes.ensures.value) ∙ sym c.name.ensures ∙ w.if-not-name.true)
      | then-not-name-via-else-not-name+in_ok-add+then-not-branch w ↦
          repeated_breaks (λ (n : RawNode). n.name) is_name nodes i node c.as_str-name.result.now c.index-nodes-place.is c.as_str-name.ensures w.in_ok-add.field-0
          (w.in_ok-add.ensures.first (node_names (take i nodes)) c.loop-place.invariant.set)
          w.if-not-branch.true
    ] in
    sym (first_row_at (name_breaks nodes) nodes i node c.loop-place.invariant.good c.loop-place-test.true breaks)

pub loop-place-preserved : goal.loop-place-preserved
loop-place-preserved c =
    let nodes = c.args.nodes.now in
    let i = c.loop-place.place in
    let node = c.index-nodes-place.result in
    let named = sym (ap is_name c.as_bytes.ensures.value) ∙ sym c.name.ensures ∙ c.if-not-name.false in
    let holds = new_holds (λ (n : RawNode). n.name) is_name nodes i node c.as_str-name.result.now c.index-nodes-place.is c.as_str-name.ensures c.in_ok-add.field-0
    (c.in_ok-add.ensures.first (node_names (take i nodes)) c.loop-place.invariant.set) named c.if-not-branch.false in
    let added = c.in_ok-add.ensures.added (node_names (take i nodes)) c.loop-place.invariant.set in
    record {
      set = set_more (λ (n : RawNode). n.name) c.add.new.self nodes i node c.loop-place-test.true
          (subst (λ t. IsSetOf c.add.new.self (node_names (take i nodes) ++ t ∷ [])) (c.as_str-name.ensures ∙ ap (λ (n : RawNode). n.name) c.index-nodes-place.is) added);
      good = none_further (name_breaks nodes) nodes i node c.loop-place.invariant.good holds c.loop-place-test.true;
    }

pub returns : goal.returns
returns c =
    sym (first_row_none (name_breaks c.args.nodes.now) c.args.nodes.now c.loop-place.place c.loop-place.invariant.good (omega (arith, c.loop-place-test.false, c.loop-place.auto.place-end)))
