use Rattle.pre_cli.proofs.AdmitRead.{read_as_held}
use Rattle.pre_cli.proofs.admitting_laws.admissions_are_read_back.Goals as goal

pub returns : goal.returns
returns c = read_as_held c.certificate_reads_back.ensures.good c.comments_are_skipped.ensures
