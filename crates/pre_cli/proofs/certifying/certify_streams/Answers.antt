use Rattle.std.proofs.Common.{◌⊎◌, inl, inr}
use Rattle.pre_cli.proofs.certifying.certify_streams.Goals as goal

pub put_least-requires-clause-least : goal.put_least-requires-clause-least
put_least-requires-clause-least g c = inl (record { least = c.in-Ok.ensures.least; ranked = c.in-Ok.ensures.ranked })

pub put_least-requires-clause-has : goal.put_least-requires-clause-has
put_least-requires-clause-has g c = inl (record { certificate = c.in-Ok.certificate; least = record { least = c.in-Ok.ensures.least; ranked = c.in-Ok.ensures.ranked }; none = c.in-Ok.ensures.none })
