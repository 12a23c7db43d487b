pub mod Candidates
pub mod Finding
pub mod Plans
pub mod Prefixing
pub mod Taking
