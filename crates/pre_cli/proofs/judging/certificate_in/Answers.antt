use Rattle.std.proofs.Common.{List, ℕ, Err, subst, sym}
use Rattle.pre_check.specs.Reading.{certificate_of, ReadsAs}
use Rattle.pre_cli.specs.declared.statuses.Status.{Status}
use Rattle.pre_cli.specs.Files.{InPlace, IsNoFile}
use Rattle.pre_cli.specs.Judging.{CertificateRefused}
use Rattle.pre_cli.proofs.JudgeLemmas.{certificate_refused}
use Rattle.pre_cli.proofs.judging.certificate_in.Goals as goal

pub returns-in-Ok-clause-cause : goal.returns-in-Ok-clause-cause
returns-in-Ok-clause-cause g c =
    let word = c.args.name.now in
    let net = c.args.net.now in
    let streams = c.args.streams.now in
    let fault = c.in-Err-read_certificate.fault in
    let before = g.H.Shelf.faults c.args.shelf.now in
    let now = g.H.Shelf.faults c.file_text.new.shelf in
    let a = g.H.Shelf.tells c.args.shelf.now in
    let b = g.H.Shelf.tells c.file_text.new.shelf in
    subst (λ (s : Status). InPlace s (IsNoFile word) (CertificateRefused word net streams) before now a b) (sym c.certificate_status.ensures)
    (certificate_refused fault word c.in-Ok.text.items net streams before now a b
    (subst (λ (l : List ℕ). ReadsAs (Err fault) (certificate_of net streams l)) c.as_slice.ensures.value c.in-Err-read_certificate.ensures.exact) c.in-Ok.ensures.text)
