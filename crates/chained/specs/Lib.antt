pub mod ChainedSound
pub mod Chains
