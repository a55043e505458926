pub mod Packets
pub mod PacketLaws
