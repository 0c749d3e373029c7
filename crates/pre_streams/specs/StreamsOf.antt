-- The streams that a text is for a network, or its first fault.
use Rattle.std.specs.Prelude.{◌≡◌, ⊤, ℕ, List, map, Option, Some, None, Result, Ok, Err}
use Rattle.toml.specs.Data.{Members}
use Rattle.pre_base.specs.declared.numbers.FileRow.{FileRow}
use Rattle.pre_table.specs.Documents.{document_of}
use Rattle.pre_topo.specs.declared.network.Network.{Network}
use Rattle.pre_streams.specs.declared.faults.StreamFault.{StreamFault}
use Rattle.pre_streams.specs.declared.faults.StreamFault.TheVariants.{Toml, Field, Name, Route, Class, Range, Burst, Count, Memory}
use Rattle.pre_streams.specs.declared.raw.RawStreams.{RawStreams}
use Rattle.pre_streams.specs.declared.rows.Streams.{Streams}
use Rattle.pre_streams.specs.Raw.{raw_of}
use Rattle.pre_streams.specs.FileRules.{raw_fault}
use Rattle.pre_streams.specs.Made.{RowParts, row_parts, rows_made}

abbrev pub unless_fault : Option StreamFault → List RowParts → Result (List RowParts) StreamFault
unless_fault None rows = Ok rows
unless_fault (Some fault) rows = Err fault

abbrev pub of_raw : Network → RawStreams → Result (List RowParts) StreamFault
of_raw net raw = unless_fault (raw_fault net raw) (rows_made net raw)

abbrev pub of_rows : Network → Result RawStreams FileRow → Result (List RowParts) StreamFault
of_rows net (Err row) = Err (Field row)
of_rows net (Ok raw) = of_raw net raw

abbrev pub of_document : Network → Option Members → Result (List RowParts) StreamFault
of_document net None = Err Toml
of_document net (Some ms) = of_rows net (raw_of ms)

-- the rows of a text, or the first fault, by rule and then by row
abbrev pub streams_of : Network → List ℕ → Result (List RowParts) StreamFault
streams_of net text = of_document net (document_of text)

-- want of memory alone may take the place of what is due
abbrev pub IsDue : {A : Type 0} → StreamFault → Result A StreamFault → Type 0
IsDue Memory due = ⊤
IsDue Toml due = due ≡ Err Toml
IsDue (Field row) due = due ≡ Err (Field row)
IsDue (Name row) due = due ≡ Err (Name row)
IsDue (Route row hop) due = due ≡ Err (Route row hop)
IsDue (Class row) due = due ≡ Err (Class row)
IsDue (Range row) due = due ≡ Err (Range row)
IsDue (Burst row) due = due ≡ Err (Burst row)
IsDue Count due = due ≡ Err Count

abbrev pub ReadsAs : Result Streams StreamFault → Result (List RowParts) StreamFault → Type 0
ReadsAs (Ok streams) due = due ≡ Ok (map row_parts streams.rows)
ReadsAs (Err fault) due = IsDue fault due
