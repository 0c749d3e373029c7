use Rattle.std.proofs.Common.{refl, rules}
use Rattle.std.specs.Prelude.{IsTrue}
use Rattle.pre_base.specs.declared.numbers.FileRow.TheVariants.{Top}
use Rattle.pre_cli.specs.declared.statuses.FileWord.TheVariants as file
use Rattle.pre_cli.specs.declared.statuses.Status.TheVariants as status
use Rattle.pre_cli.specs.Files.{IsNoFile}
use Rattle.pre_cli.specs.Admitting.{rows_in, has_flow, HasNoFlow, FlowRefused}
use Rattle.pre_cli.proofs.ReadingLemmas.{failed_instead, untested_instead, text_instead, gone_file}
use Rattle.pre_cli.proofs.admitting.more_in.Goals as goal

pub returns-then-has_flow-clause-cause : goal.returns-then-has_flow-clause-cause
returns-then-has_flow-clause-cause g c =
    let some : IsTrue (has_flow c.in-Ok.more.rows) = search rules in
    failed_instead (rows_in c.args.name.now c.args.net.now) HasNoFlow FlowRefused c.in-Ok.more (status.Rules file.More Top 8)
    (g.H.Shelf.faults c.args.shelf.now) (g.H.Shelf.faults c.rows_in.new.shelf) (g.H.Shelf.tells c.args.shelf.now) (g.H.Shelf.tells c.rows_in.new.shelf)
    (some, refl) c.in-Ok.ensures.rows

pub returns-in-Err-clause-cause : goal.returns-in-Err-clause-cause
returns-in-Err-clause-cause g c =
    let before = g.H.Shelf.faults c.args.shelf.now in
    let now = g.H.Shelf.faults c.rows_in.new.shelf in
    let old = g.H.Shelf.tells c.args.shelf.now in
    let new = g.H.Shelf.tells c.rows_in.new.shelf in
    let word = c.args.name.now in
    untested_instead (rows_in word c.args.net.now) HasNoFlow FlowRefused c.in-Err.status before now old new
    (text_instead (rows_in word c.args.net.now) (IsNoFile word) c.in-Err.status before now old new (gone_file word) (λ p. p) c.in-Err.ensures.cause)
