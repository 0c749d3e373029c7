use Rattle.std.proofs.Common.{sym, ap, subst, ℕ}
use Rattle.pre_history.specs.Scenario.{no_arc}
use Rattle.pre_history.specs.History.{PlainEvent}
use Rattle.pre_topo.specs.declared.arcs.Arc.{Arc}
use Rattle.pre_sim.specs.Parts.{TellsOne}
use Rattle.pre_sim.proofs.Lists.{read_at}
use Rattle.pre_sim.proofs.arrivals.deliver.Goals as goal

pub returns-clause-one : goal.returns-clause-one
returns-clause-one g c =
    let link = read_at c.args.net.now.arcs c.args.arc.0 c.arc_at-link.result.now no_arc c.arc_at-link.ensures.found in
    subst (λ (node : ℕ). TellsOne c.args.net.now c.tell.result (g.W.Watcher.took c.args.watcher.now) (g.W.Watcher.took c.tell.new.watcher) (g.W.Watcher.torn c.tell.new.watcher)
    (PlainEvent.deliver (record { tick = c.args.now.0; node = node; frame = c.args.frame.0; octets = c.args.octets.now })))
    (ap (λ (l : Arc). l.to.0) (sym link)) c.tell.ensures.one
