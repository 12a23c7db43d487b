pub mod InquirySequence
mod ConversionCalls
mod Denominators
mod ExactDivision
mod Examples
pub mod Fronts
mod FurtherCounts
mod GrantedTexts
mod GrantedValues
mod GrantedReplies
mod InquiryResults
mod ListConversions
mod PositivePoints
mod PositiveSteps
mod PositiveValues
mod ReplyResults
pub mod Runs
mod SoundExpansions
mod ReportableFaults
mod TreeValues
mod UnitConversions
mod UnitCounts
mod UnlikeUnits
