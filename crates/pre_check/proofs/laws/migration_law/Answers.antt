use Rattle.pre_check.proofs.Migrating.{migrates}
use Rattle.pre_check.proofs.laws.migration_law.Goals as goal

pub returns : goal.returns
returns c = migrates
