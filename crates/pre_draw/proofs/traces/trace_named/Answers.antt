use Rattle.std.proofs.Common.{List, ℕ, Err, subst, sym}
use Rattle.pre_picture.specs.Traces.{trace_of, ReadsAs}
use Rattle.pre_cli.specs.declared.statuses.Status.{Status}
use Rattle.pre_cli.specs.Files.{InPlace, IsNoFile}
use Rattle.pre_draw.specs.Traces.{TraceRefused}
use Rattle.pre_draw.proofs.TraceLemmas.{trace_refused}
use Rattle.pre_draw.proofs.traces.trace_named.Goals as goal

pub returns-in-Ok-clause-cause : goal.returns-in-Ok-clause-cause
returns-in-Ok-clause-cause g c =
    let word = c.args.name.now in
    let net = c.args.net.now in
    let fault = c.in-Err-read_trace.fault in
    let before = g.H.Shelf.faults c.args.shelf.now in
    let now = g.H.Shelf.faults c.file_text.new.shelf in
    let a = g.H.Shelf.tells c.args.shelf.now in
    let b = g.H.Shelf.tells c.file_text.new.shelf in
    subst (λ (s : Status). InPlace s (IsNoFile word) (TraceRefused word net) before now a b) (sym c.trace_status.ensures)
    (trace_refused fault word c.in-Ok.text.items net before now a b
    (subst (λ (l : List ℕ). ReadsAs (Err fault) (trace_of net l)) c.as_slice.ensures.value c.in-Err-read_trace.ensures) c.in-Ok.ensures.text)
