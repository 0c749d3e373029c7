use Rattle.std.proofs.Common.{◌≡◌, [], subst, sym, rules}
use Rattle.pre_script.specs.declared.scripts.Script.{Script}
use Rattle.pre_history.specs.Scenario.{Scenario}
use Rattle.pre_trace.specs.Sums.{Sums}
use Rattle.pre_cli.proofs.DrillLemmas.{never_stopped, summed}
use Rattle.pre_cli.proofs.Runs.{run_comes}
use Rattle.pre_cli.proofs.drilling.run_summed.Goals as goal

pub returns-clause-goes : goal.returns-clause-goes
returns-clause-goes c = never_stopped c.run_on.result c.run_on.ensures.cause

pub returns-clause-comes : goal.returns-clause-comes
returns-clause-comes c =
    let w : Scenario = record { net = c.args.net.now; streams = c.args.streams.now; script = c.args.script.now } in
    run_comes w c.in_ok-sim.sim c.run_on.new.sim c.in_ok-sim.ensures.begins.0 c.in_ok-sim.ensures.begins.3 c.run_on.result _ _ _ c.run_on.ensures.last c.run_on.ensures.told

pub returns-clause-ended : goal.returns-clause-ended
returns-clause-ended c = λ ended.
    let w : Scenario = record { net = c.args.net.now; streams = c.args.streams.now; script = c.args.script.now } in
    let new = c.run_on.new.watcher in
    let same : new.script.now ≡ w.script = search rules in
    let old = c.args.summary.now in
    let t = summed w c.in_ok-sim.sim c.run_on.new.sim c.run_on.result _ _ _ c.in_ok-sim.ensures.begins.0 c.in_ok-sim.ensures.begins.3
    (subst (λ (s : Script). Sums s old.tallies old.slots old.kept []) (sym c.requires.script) c.requires.nothing) c.run_on.ensures.told ended in
    (t.0, t.1, subst (λ (s : Script). Sums s new.tallies new.slots new.kept t.0) same t.2)
