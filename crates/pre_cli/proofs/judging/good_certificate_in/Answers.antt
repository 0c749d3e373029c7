use Rattle.std.proofs.Common.{refl}
use Rattle.pre_bound.specs.Listed.{GoodCertificate}
use Rattle.pre_cli.specs.declared.statuses.Status.TheVariants as status
use Rattle.pre_cli.specs.Judging.{certificate_in, IsRejected}
use Rattle.pre_cli.proofs.ReadingLemmas.{failed_instead}
use Rattle.pre_cli.proofs.judging.good_certificate_in.Goals as goal

pub returns-in-Rejected-clause-cause : goal.returns-in-Rejected-clause-cause
returns-in-Rejected-clause-cause g c =
    let net = c.args.net.now in
    let streams = c.args.streams.now in
    let clause = c.in-Rejected.clause in
    let row = c.in-Rejected.row in
    failed_instead (certificate_in c.args.name.now net streams) (GoodCertificate net streams) (IsRejected net streams) c.in-Ok.certificate (status.Rejected clause row)
    (g.H.Shelf.faults c.args.shelf.now) (g.H.Shelf.faults c.certificate_in.new.shelf) (g.H.Shelf.tells c.args.shelf.now) (g.H.Shelf.tells c.certificate_in.new.shelf)
    (c.in-Ok.ensures.rows, (clause, row, c.judge.ensures.rejected clause row c.in-Rejected.is, refl)) c.in-Ok.ensures.certificate
