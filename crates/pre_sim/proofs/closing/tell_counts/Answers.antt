use Rattle.pre_sim.proofs.TellParts.{part_of_one}
use Rattle.pre_sim.proofs.closing.tell_counts.Goals as goal

pub returns-clause-part : goal.returns-clause-part
returns-clause-part g c =
    part_of_one c.args.net.now c.tell.result (g.W.Watcher.took c.args.watcher.now) (g.W.Watcher.took c.tell.new.watcher) (g.W.Watcher.torn c.tell.new.watcher) _ _ _ _
    c.tell.ensures.one (λ x. c.in-Some.ensures.counts) c.in-Some.ensures.counts
