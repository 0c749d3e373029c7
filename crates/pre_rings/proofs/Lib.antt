pub mod PortLemmas
pub mod SlotLemmas
pub mod KeptLemmas
