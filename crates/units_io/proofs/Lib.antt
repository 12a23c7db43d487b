pub mod Growing
pub mod NamePlaceLemmas
pub mod Names
pub mod StreamLemmas
pub mod Tables
