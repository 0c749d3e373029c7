use Rattle.pre_certify.proofs.tests.one_stream.Goals as goal

pub certify-requires : goal.certify-requires
certify-requires g c = c.in_ok-streams.ensures.fits c.in_ok-net.net c.in_ok-net.ensures
