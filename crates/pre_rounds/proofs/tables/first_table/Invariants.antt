use Rattle.std.proofs.Common.{◌≡◌, length}
use Rattle.pre_certify.specs.Tables.{AreWithin}
use Rattle.pre_rounds.specs.Rounds.{declared}
use Rattle.pre_rounds.specs.Tables.{HasBursts}
use Rattle.pre_rounds.proofs.tables.first_table.Given as goal

abbrev pub invariant-loop-place : goal.invariant-loop-place
invariant-loop-place l = record {
  long : length l.table ≡ l.place;
  within : AreWithin l.table;
  same : HasBursts l.rows l.table (declared l.rows) l.place;
}
