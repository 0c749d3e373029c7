use Rattle.std.proofs.Common.{◌≡◌, sym, subst, rules}
use Rattle.pre_script.specs.declared.scripts.Script.{Script}
use Rattle.pre_history.specs.Scenario.{Scenario}
use Rattle.pre_cli.specs.Certifying.{HasLeast}
use Rattle.pre_cli.specs.Drilling.{Drill, scenario}
use Rattle.pre_cli.specs.Runs.{RunComesTo}
use Rattle.pre_cli.specs.Sums.{HasSummed}
use Rattle.pre_cli.proofs.drilling.drill_certified.Goals as goal

pub put_drilled-requires-clause-summed : goal.put_drilled-requires-clause-summed
put_drilled-requires-clause-summed g c =
    let new = c.run_summed.new.summary in
    let same : new.script.now ≡ c.args.script.now = search rules in
    subst (λ (s : Script). HasSummed (record { net = c.args.net.now; streams = c.args.streams.now; script = s }) new) (sym same) (c.in-Ok-Ended.ensures.ended c.in-Ok-Ended.field-0-is)

pub returns-in-Ok-Alias-clause-cause : goal.returns-in-Ok-Alias-clause-cause
returns-in-Ok-Alias-clause-cause g c =
    let x : Drill c.args.number = record { net = c.args.net.now; streams = c.args.streams.now; script = c.args.script.now; is_plant = c.requires.plant } in
    let w : Scenario = scenario x in
    let has : HasLeast x.net x.streams = record { certificate = c.args.certificate.now; least = c.requires.least; none = c.requires.none } in
    (x, has, subst (RunComesTo w) c.in-Ok-Alias.field-0-is c.in-Ok-Alias.ensures.comes)
