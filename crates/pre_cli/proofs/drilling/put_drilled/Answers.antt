use Rattle.std.proofs.Common.{◌≡◌, ◌<◌, ℕ, List, length, sym, subst}
use Rattle.std.specs.Prelude.{All}
use Rattle.pre_base.specs.declared.numbers.StreamId.{StreamId}
use Rattle.pre_base.specs.Told.{WhereTold}
use Rattle.pre_base.specs.Sinks.{TakesFront, TakesWhole}
use Rattle.pre_history.specs.Scenario.{Scenario}
use Rattle.pre_trace.specs.SummaryText.{summary_text}
use Rattle.pre_cli.specs.Certifying.{HasLeast}
use Rattle.pre_cli.specs.Drilling.{Drill, scenario, IsDrilled}
use Rattle.pre_cli.proofs.DrillLemmas.{come_once, delays_within, bounds_of_rows, torn_leaves, flushed_leaves, flushed_cause}
use Rattle.pre_cli.proofs.drilling.put_drilled.Goals as goal

pub returns-in-Ok-clause-cause : goal.returns-in-Ok-clause-cause
returns-in-Ok-clause-cause g c =
    let x : Drill c.args.number = record { net = c.args.net.now; streams = c.args.streams.now; script = c.args.summary.now.script.now; is_plant = c.requires.plant } in
    let has : HasLeast x.net x.streams = record { certificate = c.args.certificate.now; least = c.requires.least; none = c.requires.none } in
    flushed_cause c.args.number x c.flushed.result (g.S.Sink.faults c.args.sink.now) (g.S.Sink.faults c.put_summary.new.sink) (g.S.Sink.faults c.flushed.new.sink)
    (g.S.Sink.tells c.put_summary.new.sink) (g.S.Sink.tells c.flushed.new.sink) (has, (c.requires.summed.0, c.requires.summed.1)) c.in-Ok.ensures.cause.later c.flushed.ensures.ends

pub returns-in-Err-clause-cause : goal.returns-in-Err-clause-cause
returns-in-Err-clause-cause g c =
    let x : Drill c.args.number = record { net = c.args.net.now; streams = c.args.streams.now; script = c.args.summary.now.script.now; is_plant = c.requires.plant } in
    let has : HasLeast x.net x.streams = record { certificate = c.args.certificate.now; least = c.requires.least; none = c.requires.none } in
    (c.in-Err.ensures.cause.failed, (x, (has, (c.requires.summed.0, c.requires.summed.1))))

pub returns-in-Ok-clause-leaves : goal.returns-in-Ok-clause-leaves
returns-in-Ok-clause-leaves g c =
    let x : Drill c.args.number = record { net = c.args.net.now; streams = c.args.streams.now; script = c.args.summary.now.script.now; is_plant = c.requires.plant } in
    let w : Scenario = scenario x in
    let h = c.requires.summed.0 in
    let legal = c.requires.summed.1 in
    let certificate = c.args.certificate.now in
    let good = c.requires.least.least.good in
    let once = come_once w h (c.deliveries_are_of_frames_sent.ensures.whole w (c.files_give_routes.ensures w c.requires.fit.streams_fit c.requires.fit.script_fits) h legal) in
    let rows = bounds_of_rows w.net w.streams.rows certificate good.values (length c.args.summary.now.tallies) c.requires.rows good.says in
    let here = subst (λ (l : List (StreamId × ℕ)). All (λ bound. bound.0.0 < length c.args.summary.now.tallies) l) (sym c.as_slice-bounds.ensures) rows in
    let within = delays_within w h good.values _ (c.network_law.ensures.certified w certificate h c.requires.run good legal) certificate good.says in
    flushed_leaves c.args.number x certificate c.requires.least h legal c.flushed.result
    (g.S.Sink.tells c.args.sink.now) (g.S.Sink.tells c.put_summary.new.sink) (g.S.Sink.tells c.flushed.new.sink) _ _ within
    (subst (λ (l : List (StreamId × ℕ)). WhereTold (g.S.Sink.tells c.args.sink.now) (g.S.Sink.tells c.put_summary.new.sink) (TakesWhole (summary_text w.net w.streams w.script h l c.args.number)))
    c.as_slice-bounds.ensures (c.in-Ok.ensures.octets h c.requires.summed.2 once (c.closings_are_few.ensures w h legal) here))
    c.flushed.ensures.ends

pub returns-in-Err-clause-leaves : goal.returns-in-Err-clause-leaves
returns-in-Err-clause-leaves g c =
    let x : Drill c.args.number = record { net = c.args.net.now; streams = c.args.streams.now; script = c.args.summary.now.script.now; is_plant = c.requires.plant } in
    let w : Scenario = scenario x in
    let h = c.requires.summed.0 in
    let legal = c.requires.summed.1 in
    let certificate = c.args.certificate.now in
    let good = c.requires.least.least.good in
    let once = come_once w h (c.deliveries_are_of_frames_sent.ensures.whole w (c.files_give_routes.ensures w c.requires.fit.streams_fit c.requires.fit.script_fits) h legal) in
    let rows = bounds_of_rows w.net w.streams.rows certificate good.values (length c.args.summary.now.tallies) c.requires.rows good.says in
    let here = subst (λ (l : List (StreamId × ℕ)). All (λ bound. bound.0.0 < length c.args.summary.now.tallies) l) (sym c.as_slice-bounds.ensures) rows in
    torn_leaves c.args.number x certificate c.requires.least h legal (g.S.Sink.tells c.args.sink.now) (g.S.Sink.tells c.put_summary.new.sink)
    (subst (λ (l : List (StreamId × ℕ)). WhereTold (g.S.Sink.tells c.args.sink.now) (g.S.Sink.tells c.put_summary.new.sink) (TakesFront (summary_text w.net w.streams w.script h l c.args.number)))
    c.as_slice-bounds.ensures (c.in-Err.ensures.octets h c.requires.summed.2 once (c.closings_are_few.ensures w h legal) here))
