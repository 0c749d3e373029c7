use Rattle.std.proofs.Common.{◌≡◌, List, Some, None, refl, sym, subst, rules}
use Rattle.std.specs.Prelude.{AllPairs}
use Rattle.pre_script.specs.Fits.{SendsInOrder}
use Rattle.pre_streams.specs.declared.rows.Row.{Row}
use Rattle.pre_script.specs.declared.scripts.SendLine.{SendLine}
use Rattle.pre_cli.specs.declared.statuses.Status.TheVariants as status
use Rattle.pre_cli.specs.Curves.{CurvesHold, LinesRise, IsUnruly, Finds}
use Rattle.pre_cli.specs.Replaying.{Replay, scripted_in, IsUnrulyAt}
use Rattle.pre_cli.specs.Words.{ReplayWords, replay_words}
use Rattle.pre_cli.proofs.ReadingLemmas.{untested_instead, failed_instead, passed_given}
use Rattle.pre_cli.proofs.replays.input_named.Goals as goal

pub returns-in-Ok-None-clause-input : goal.returns-in-Ok-None-clause-input
returns-in-Ok-None-clause-input g c =
    let words : ReplayWords = replay_words c.args.net_word.now c.args.streams_word.now c.args.certificate_word.now c.args.script_word.now in
    let input = c.in-Ok.input in
    let x : Replay = ((input.judged.net, (input.judged.certified.streams, input.judged.certified.certificate)), input.script) in
    let none : c.in-Ok-None.field-0 ≡ None = c.in-Ok-None.field-0-is in
    let found = subst (Finds c.as_slice-rows.result.now c.as_slice.result.now) none c.in-Ok-None.ensures in
    let holds = subst (λ (rows : List Row). CurvesHold rows c.as_slice.result.now) c.as_slice-rows.ensures found in
    passed_given (scripted_in words) (λ y. CurvesHold y.0.1.0.rows y.1.sends) IsUnrulyAt x (g.H.Shelf.tells c.args.shelf.now) (g.H.Shelf.tells c.scripted_named.new.shelf)
    (subst (CurvesHold x.0.1.0.rows) c.as_slice.ensures holds) c.in-Ok.ensures.scripted

pub returns-in-Ok-Some-clause-cause : goal.returns-in-Ok-Some-clause-cause
returns-in-Ok-Some-clause-cause g c =
    let words : ReplayWords = replay_words c.args.net_word.now c.args.streams_word.now c.args.certificate_word.now c.args.script_word.now in
    let input = c.in-Ok.input in
    let x : Replay = ((input.judged.net, (input.judged.certified.streams, input.judged.certified.certificate)), input.script) in
    let line = c.in-Ok-Some.line in
    let some : c.in-Ok-Some.field-0 ≡ Some line = search rules in
    let found = subst (Finds c.as_slice-rows.result.now c.as_slice.result.now) some c.in-Ok-Some.ensures in
    let unruly = subst (λ (rows : List Row). IsUnruly rows c.as_slice.result.now line) c.as_slice-rows.ensures found in
    failed_instead (scripted_in words) (λ y. CurvesHold y.0.1.0.rows y.1.sends) IsUnrulyAt x (status.Unruly line) (g.H.Shelf.faults c.args.shelf.now) (g.H.Shelf.faults c.scripted_named.new.shelf)
    (g.H.Shelf.tells c.args.shelf.now) (g.H.Shelf.tells c.scripted_named.new.shelf)
    (line, subst (λ (sends : List SendLine). IsUnruly x.0.1.0.rows sends line) c.as_slice.ensures unruly, refl) c.in-Ok.ensures.scripted

pub returns-in-Err-clause-cause : goal.returns-in-Err-clause-cause
returns-in-Err-clause-cause g c =
    let words : ReplayWords = replay_words c.args.net_word.now c.args.streams_word.now c.args.certificate_word.now c.args.script_word.now in
    untested_instead (scripted_in words) (λ y. CurvesHold y.0.1.0.rows y.1.sends) IsUnrulyAt c.in-Err.status (g.H.Shelf.faults c.args.shelf.now) (g.H.Shelf.faults c.scripted_named.new.shelf)
    (g.H.Shelf.tells c.args.shelf.now) (g.H.Shelf.tells c.scripted_named.new.shelf) c.in-Err.ensures.cause

pub unruly_line-requires-clause-order : goal.unruly_line-requires-clause-order
unruly_line-requires-clause-order g c = subst (AllPairs SendsInOrder) (sym c.as_slice.ensures) c.in-Ok.ensures.can.script_fits.sends_order

pub unruly_line-requires-clause-rise : goal.unruly_line-requires-clause-rise
unruly_line-requires-clause-rise g c = subst LinesRise (sym c.as_slice.ensures) c.in-Ok.ensures.rise
