use Rattle.std.proofs.Common.{◌≡◌, List, length, map, sym, ◌∙◌, ap, None, arith}
use Rattle.std.specs.List.{enumerate_from}
use Rattle.std.proofs.lemmas.List.{length-map}
use Rattle.std.proofs.lemmas.List.FromFn.{length-enumerate_from}
use Rattle.pre_streams.specs.FileRules.{raw_fault}
use Rattle.pre_streams.specs.Made.{RowParts, row_parts, rows_made}
use Rattle.pre_streams.proofs.Faultless.{faultless}
use Rattle.pre_streams.proofs.MadeRows.{rows_fit}
use Rattle.pre_streams.proofs.reading.streams_made.Goals as goal

pub rows_made-requires-clause-rows : goal.rows_made-requires-clause-rows
rows_made-requires-clause-rows c =
    let none : raw_fault c.args.net.now c.args.raw.now ≡ None = sym c.in_ok-fault.ensures ∙ c.in_default.is in
    (faultless c.args.net.now c.args.raw.now none).rows

pub rows_made-requires-clause-curves : goal.rows_made-requires-clause-curves
rows_made-requires-clause-curves c =
    let none : raw_fault c.args.net.now c.args.raw.now ≡ None = sym c.in_ok-fault.ensures ∙ c.in_default.is in
    (faultless c.args.net.now c.args.raw.now none).curves

pub invariant_of-result : goal.invariant_of-result
invariant_of-result c =
    let none : raw_fault c.args.net.now c.args.raw.now ≡ None = sym c.in_ok-fault.ensures ∙ c.in_default.is in
    let hold = faultless c.args.net.now c.args.raw.now none in
    let same : length (map row_parts c.in_ok-rows.rows) ≡ length (rows_made c.args.net.now c.args.raw.now) = ap (λ (l : List RowParts). length l) c.in_ok-rows.ensures in
    let rows : length (map row_parts c.in_ok-rows.rows) ≡ length c.in_ok-rows.rows = length-map c.in_ok-rows.rows row_parts in
    let made : length (rows_made c.args.net.now c.args.raw.now) ≡ length (enumerate_from 0 c.args.raw.now.rows) = length-map (enumerate_from 0 c.args.raw.now.rows) _ in
    let count = length-enumerate_from 0 c.args.raw.now.rows in
    let streams = hold.streams_count in
    let flows = hold.flows_count in
    record { few = omega arith }

pub returns-clause-fits : goal.returns-clause-fits
returns-clause-fits c =
    let none : raw_fault c.args.net.now c.args.raw.now ≡ None = sym c.in_ok-fault.ensures ∙ c.in_default.is in
    rows_fit c.args.net.now c.args.raw.now _ none c.in_ok-rows.ensures
