use Rattle.std.proofs.Common.{◌≡◌, ℕ, ◌<◌, false, take, get_or}
use Rattle.pre_table.specs.TextSets.{HasPairs}
use Rattle.pre_topo.specs.declared.raw.RawLink.{RawLink}
use Rattle.pre_topo.specs.FileRules.{ends_break}
use Rattle.pre_topo.proofs.Linked.{are_linked}
use Rattle.pre_topo.proofs.checks.bad_ends.Given as goal

abbrev pub invariant-loop-row : goal.invariant-loop-row
invariant-loop-row l = record {
  joined : HasPairs l.joined (are_linked (take l.row l.links));
  good : (k : ℕ) (e : RawLink) → k < l.row → ends_break l.nodes l.links k (get_or l.links k e) ≡ false;
}
