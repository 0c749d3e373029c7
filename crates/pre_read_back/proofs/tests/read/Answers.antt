use Rattle.pre_read_back.proofs.tests.read.Goals as goal

pub read_certificate-read-requires : goal.read_certificate-read-requires
read_certificate-read-requires c = c.in_ok-streams.ensures.fits c.in_ok-net.net c.in_ok-net.ensures
