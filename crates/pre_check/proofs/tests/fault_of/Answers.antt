use Rattle.pre_check.proofs.tests.fault_of.Goals as goal

pub read_certificate-requires : goal.read_certificate-requires
read_certificate-requires c = c.in_ok-streams.ensures.fits c.in_ok-net.net c.in_ok-net.ensures
