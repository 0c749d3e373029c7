use Rattle.std.proofs.Common.{◌≡◌, take}
use Rattle.pre_streams.specs.NamedRoutes.{route_made}
use Rattle.pre_streams.proofs.building.route_made.Given as goal

abbrev pub invariant-loop-name : goal.invariant-loop-name
invariant-loop-name l = l.made ≡ route_made l.net (take l.name-index l.route)
