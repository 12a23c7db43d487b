pub mod ClosedFile
mod DefinitionsByNumber
mod DraftAppends
pub mod Entries
mod Exchangeable
pub mod ListExchanges
pub mod ExchangedItems
pub mod MarkLimits
mod Keys
mod LoadParts
mod NameNumbers
mod RenumberedKeys
pub mod MarkReplacement
mod LoadTranscripts
mod StoredLines
mod KnownLoads
mod PartInduction
mod FailedLoads
mod CountedLoads
mod AskedLoads
mod KeptLines
mod LastFetches
mod LoggedFetches
mod ListTurns
