use Rattle.std.proofs.Common.{◌≡◌, ℕ, ◌<◌, false, take, get_or}
use Rattle.pre_table.specs.TextSets.{IsSetOf}
use Rattle.pre_topo.specs.declared.raw.RawNode.{RawNode}
use Rattle.pre_topo.specs.FileRules.{node_names, name_breaks}
use Rattle.pre_topo.proofs.checks.bad_name.Given as goal

abbrev pub invariant-loop-place : goal.invariant-loop-place
invariant-loop-place l = record {
  set : IsSetOf l.names (node_names (take l.place l.nodes));
  good : (k : ℕ) (e : RawNode) → k < l.place → name_breaks l.nodes k (get_or l.nodes k e) ≡ false;
}
