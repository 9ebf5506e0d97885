pub mod Parcels
pub mod Laws
pub mod Canon
pub mod Rereads
pub mod Writes
