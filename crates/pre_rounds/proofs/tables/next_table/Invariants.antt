use Rattle.std.proofs.Common.{◌≡◌, length}
use Rattle.pre_certify.specs.Tables.{AreWithin}
use Rattle.pre_rounds.specs.Rounds.{next_bursts}
use Rattle.pre_rounds.specs.Tables.{bursts_in, HasBursts}
use Rattle.pre_rounds.proofs.tables.next_table.Given as goal

abbrev pub invariant-loop-place : goal.invariant-loop-place
invariant-loop-place l = record {
  long : length l.table ≡ l.place;
  within : AreWithin l.table;
  same : HasBursts l.rows l.table (next_bursts l.net l.rows (bursts_in l.bursts)) l.place;
}
