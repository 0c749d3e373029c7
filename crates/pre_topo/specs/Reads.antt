-- What a call answers that is to read raw rows: they or the due fault, unless memory is wanting.
use Rattle.std.specs.Prelude.{◌≡◌, ⊤, Result, Ok, Err}
use Rattle.pre_base.specs.declared.numbers.FileRow.{FileRow}
use Rattle.pre_topo.specs.declared.faults.TopoFault.{TopoFault}
use Rattle.pre_topo.specs.declared.faults.TopoFault.TheVariants.{Toml, Field, Name, End, Range, Count, Slots, Wires, Memory}

abbrev pub FaultReads : {A : Type 0} → TopoFault → Result A FileRow → Type 0
FaultReads Memory due = ⊤
FaultReads (Field row) due = due ≡ Err row
FaultReads Toml due = ⊥
FaultReads (Name row) due = ⊥
FaultReads (End row) due = ⊥
FaultReads (Range row) due = ⊥
FaultReads Count due = ⊥
FaultReads Slots due = ⊥
FaultReads Wires due = ⊥

abbrev pub RawReads : {A : Type 0} → Result A TopoFault → Result A FileRow → Type 0
RawReads (Ok raw) due = due ≡ Ok raw
RawReads (Err fault) due = FaultReads fault due
