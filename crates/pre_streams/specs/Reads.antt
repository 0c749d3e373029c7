-- What a call answers that is to read raw rows: they or the due fault, unless memory is wanting.
use Rattle.std.specs.Prelude.{◌≡◌, ⊤, Result, Ok, Err}
use Rattle.pre_base.specs.declared.numbers.FileRow.{FileRow}
use Rattle.pre_streams.specs.declared.faults.StreamFault.{StreamFault}
use Rattle.pre_streams.specs.declared.faults.StreamFault.TheVariants.{Toml, Field, Name, Route, Class, Range, Burst, Count, Memory}

abbrev pub FaultReads : {A : Type 0} → StreamFault → Result A FileRow → Type 0
FaultReads Memory due = ⊤
FaultReads (Field row) due = due ≡ Err row
FaultReads Toml due = ⊥
FaultReads (Name row) due = ⊥
FaultReads (Route row hop) due = ⊥
FaultReads (Class row) due = ⊥
FaultReads (Range row) due = ⊥
FaultReads (Burst row) due = ⊥
FaultReads Count due = ⊥

abbrev pub RawReads : {A : Type 0} → Result A StreamFault → Result A FileRow → Type 0
RawReads (Ok raw) due = due ≡ Ok raw
RawReads (Err fault) due = FaultReads fault due
