use Rattle.std.proofs.Common.{◌≡◌, ◌<◌, length, subst}
use Rattle.pre_laws.specs.Routed.{IsRouted}
use Rattle.pre_history.specs.Moments.{Phase}
use Rattle.pre_history.specs.Placed.{moment_of}
use Rattle.pre_history.specs.History.{History}
use Rattle.pre_history.specs.Legal.{LegalBefore}
use Rattle.pre_history.specs.Scenario.{Scenario}
use Rattle.pre_incoming.specs.Inputs as inputs
use Rattle.pre_incoming.specs.Landings.{Lands}
use Rattle.pre_incoming.specs.Wires.{Receives}
use Rattle.pre_sim.specs.Parts.{scenario_of}
use Rattle.pre_sim.proofs.FrameSizes.{routed}
use Rattle.pre_sim.proofs.arrivals.land.Goals as goal

pub returns-clause-lands : goal.returns-clause-lands
returns-clause-lands c =
    let w : Scenario = scenario_of c.args.plan.now in
    let t = c.args.now.0 in
    let a = c.args.arc.0 in
    let same : inputs.scenario_of c.inputs.result ≡ w = λ i. record { net = c.inputs.ensures.net i; streams = c.inputs.ensures.streams i; script = c.inputs.ensures.script i } in
    λ h legal receives.
    subst (λ (v : Scenario). IsRouted v → (h : History) → a < length v.net.arcs → LegalBefore v h (moment_of v t (Phase.arrivals a)) → Receives v h a c.args.incoming.now
    → Lands v h t a c.land.result c.land.new.into c.land.new.self)
    same c.land.ensures.lands (routed w c.requires.fit) h c.requires.arc legal receives
