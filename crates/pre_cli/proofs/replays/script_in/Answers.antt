use Rattle.std.proofs.Common.{List, ℕ, Err, subst, sym}
use Rattle.pre_script.specs.Reading.{script_of, ReadsAs}
use Rattle.pre_cli.specs.declared.statuses.Status.{Status}
use Rattle.pre_cli.specs.Files.{InPlace, IsNoFile}
use Rattle.pre_cli.specs.Replaying.{ScriptRefused}
use Rattle.pre_cli.proofs.ReplayLemmas.{script_refused, script_rises}
use Rattle.pre_cli.proofs.replays.script_in.Goals as goal

pub returns-in-Ok-clause-cause : goal.returns-in-Ok-clause-cause
returns-in-Ok-clause-cause g c =
    let word = c.args.name.now in
    let net = c.args.net.now in
    let streams = c.args.streams.now in
    let fault = c.in-Err-read_script.fault in
    let before = g.H.Shelf.faults c.args.shelf.now in
    let now = g.H.Shelf.faults c.file_text.new.shelf in
    let a = g.H.Shelf.tells c.args.shelf.now in
    let b = g.H.Shelf.tells c.file_text.new.shelf in
    subst (λ (s : Status). InPlace s (IsNoFile word) (ScriptRefused word net streams) before now a b) (sym c.script_status.ensures)
    (script_refused fault word c.in-Ok.text.items net streams before now a b
    (subst (λ (l : List ℕ). ReadsAs (Err fault) (script_of net streams l)) c.as_slice.ensures.value c.in-Err-read_script.ensures.exact) c.in-Ok.ensures.text)

pub returns-in-Ok-read_script-clause-rise : goal.returns-in-Ok-read_script-clause-rise
returns-in-Ok-read_script-clause-rise g c = script_rises c.args.net.now c.args.streams.now c.as_slice.result.now c.in-Ok-read_script.script c.in-Ok-read_script.ensures.exact
