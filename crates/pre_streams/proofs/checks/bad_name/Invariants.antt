use Rattle.std.proofs.Common.{◌≡◌, ℕ, ◌<◌, false, take, get_or}
use Rattle.pre_table.specs.TextSets.{IsSetOf}
use Rattle.pre_streams.specs.declared.raw.RawFlow.{RawFlow}
use Rattle.pre_streams.specs.FileRules.{name_breaks}
use Rattle.pre_streams.proofs.RowNames.{row_names}
use Rattle.pre_streams.proofs.checks.bad_name.Given as goal

abbrev pub invariant-loop-place : goal.invariant-loop-place
invariant-loop-place l = record {
  set : IsSetOf l.names (row_names (take l.place l.rows));
  good : (k : ℕ) (e : RawFlow) → k < l.place → name_breaks l.rows k (get_or l.rows k e) ≡ false;
}
