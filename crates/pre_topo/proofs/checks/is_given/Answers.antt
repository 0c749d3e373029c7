use Rattle.std.proofs.Common.{◌∙◌, ap}
use Rattle.std.specs.List.{list_any}
use Rattle.pre_table.proofs.Repeated.{any_named}
use Rattle.pre_topo.specs.declared.raw.RawNode.{RawNode}
use Rattle.pre_topo.specs.FileRules.{node_names, is_named}
use Rattle.pre_topo.proofs.checks.is_given.Goals as goal

pub returns : goal.returns
returns c =
    c.has.ensures (node_names c.args.nodes.now) c.requires
    ∙ any_named (λ (n : RawNode). n.name) c.as_str.result.now c.args.nodes.now
    ∙ ap (λ w. list_any (is_named w) c.args.nodes.now) c.as_str.ensures
