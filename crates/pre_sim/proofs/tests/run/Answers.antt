use Rattle.pre_sim.proofs.tests.run.Goals as goal

-- src/tests.rt: the built-in streams fit the built-in network, and a script that is read fits both
pub make-requires-2 : goal.make-requires-2
make-requires-2 c = record { streams_fit = c.in_ok-streams.ensures.fits c.in_ok-net.net c.in_ok-net.ensures; script_fits = c.in-Ok.ensures.fits }
