-- What the program's values show to contracts.
use Rattle.std.specs.Prelude.{Result, Ok, Err}
use Rattle.pre_lldp.specs.declared.reading.LldpFault.{LldpFault}
use Rattle.pre_lldp.specs.declared.reading.Pdu.{Pdu}
use Rattle.pre_lldp.specs.Pdus.{Fields}

abbrev pub fields_in : Pdu → Fields
fields_in pdu = record { chassis = pdu.chassis.now; port = pdu.port.now; ttl = pdu.ttl; caps = pdu.caps }

abbrev pub read_fields : Result Pdu LldpFault → Result Fields LldpFault
read_fields (Ok pdu) = Ok (fields_in pdu)
read_fields (Err fault) = Err fault
