use Rattle.pre_replays.proofs.calls.a_run_is_made.Goals as goal

pub make-requires : goal.make-requires
make-requires g c = record { streams_fit = c.in_ok-streams.ensures.fits c.in_ok-net.net c.in_ok-net.ensures; script_fits = c.in-Ok.ensures.fits }
