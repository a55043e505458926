pub mod Rules
pub mod Cuts
pub mod Packing
pub mod Held
pub mod Wires
pub mod Faults
