use Rattle.pre_check.proofs.tests.verdict_of.Goals as goal

pub read_certificate-requires : goal.read_certificate-requires
read_certificate-requires c = c.in_ok-streams.ensures.fits c.in_ok-net.net c.in_ok-net.ensures

pub judge-requires-clause-fits : goal.judge-requires-clause-fits
judge-requires-clause-fits c = c.in_ok-streams.ensures.fits c.in_ok-net.net c.in_ok-net.ensures
