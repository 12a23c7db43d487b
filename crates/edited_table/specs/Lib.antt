pub mod Answers
pub mod EditAnswers
pub mod Faults
pub mod HandleResources
pub mod Statuses
pub mod TableValue
pub mod TurnAnswers
pub mod Words
