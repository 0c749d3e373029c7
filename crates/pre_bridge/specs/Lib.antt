pub mod Table
pub mod Inside
pub mod Ingresses
pub mod Relays
pub mod Sample
pub mod Turns
