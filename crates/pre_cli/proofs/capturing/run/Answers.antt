use Rattle.std.proofs.Common.{◌≡◌, ◌∙◌, ap, rules, subst}
use Rattle.pre_dissect.specs.Fronts.{FilesFit}
use Rattle.pre_history.specs.Scenario.{Scenario}
use Rattle.pre_cli.specs.Capturing.{CaptureLeaves}
use Rattle.pre_cli.proofs.CaptureRuns.{header_front, capture_leaves, told_over, nothing_over}
use Rattle.pre_base.specs.Told.{StillTells}
use Rattle.pre_cli.proofs.Runs.{run_comes}
use Rattle.pre_cli.proofs.capturing.run.Goals as goal

pub returns-then-is_err-clause-octets : goal.returns-then-is_err-clause-octets
returns-then-is_err-clause-octets g c =
    let w : Scenario = record { net = c.args.net.now; streams = c.args.streams.now; script = c.args.script.now } in
    header_front w c.args.arc.0 c.put_header.result (search rules) (g.S.Sink.tells c.args.sink.now) (g.S.Sink.tells c.put_header.new.sink) c.put_header.ensures.octets

pub returns-clause-octets : goal.returns-clause-octets
returns-clause-octets g c =
    let w : Scenario = record { net = c.args.net.now; streams = c.args.streams.now; script = c.args.script.now } in
    let fits : FilesFit w = record { rows_fit = c.requires.fit.streams_fit; lines_fit = c.requires.fit.script_fits } in
    let old = c.over-watcher.result in
    let new = c.run_on.new.watcher in
    let same_run = c.over-watcher.ensures.scenario in
    let same_arc : old.arc ≡ c.args.arc = c.over-watcher.ensures.arc in
    let same_sink : old.sink.now ≡ c.put_header.new.sink = c.over-watcher.ensures.sink in
    let kept_run = c.run_on.ensures.same.1 ∙ same_run in
    let kept_arc : new.arc ≡ c.args.arc = c.run_on.ensures.same.2 ∙ same_arc in
    let before = g.S.Sink.tells c.put_header.new.sink in
    let after = g.S.Sink.tells new.sink.now in
    let tells : g.S.Sink.tells old.sink.now ≡ before = ap g.S.Sink.tells same_sink in
    let told =
    told_over w c.args.arc.0 old.active new.active old.newest new.newest old.advert new.advert before after c.in_ok-sim.sim c.run_on.new.sim c.run_on.result _ _ _ _ _
    same_run kept_run (ap (λ a. a.0) same_arc) (ap (λ a. a.0) kept_arc) tells c.run_on.ensures.told in
    let still = subst (λ t. StillTells t after) tells c.run_on.ensures.same.3 in
    let nothing = nothing_over w c.args.arc.0 old.active new.active old.newest new.newest old.advert new.advert before after _ _ same_run tells c.over-watcher.ensures.nothing in
    subst (λ s. CaptureLeaves w c.args.arc.0 c.run_on.result (g.S.Sink.tells c.args.sink.now) (g.S.Sink.tells s)) (search rules)
    (capture_leaves w c.args.arc.0 fits c.requires.known old.active new.active old.newest new.newest old.advert new.advert c.in_ok-sim.sim c.run_on.new.sim c.in_ok-sim.ensures.begins.0 c.in_ok-sim.ensures.begins.3
    c.run_on.result c.put_header.result (search rules) (g.S.Sink.tells c.args.sink.now) (g.S.Sink.tells c.put_header.new.sink) (g.S.Sink.tells new.sink.now) c.put_header.ensures.octets still nothing c.run_on.ensures.last told)

pub returns-clause-comes : goal.returns-clause-comes
returns-clause-comes g c =
    let w : Scenario = record { net = c.args.net.now; streams = c.args.streams.now; script = c.args.script.now } in
    run_comes w c.in_ok-sim.sim c.run_on.new.sim c.in_ok-sim.ensures.begins.0 c.in_ok-sim.ensures.begins.3 c.run_on.result _ _ _ c.run_on.ensures.last c.run_on.ensures.told
