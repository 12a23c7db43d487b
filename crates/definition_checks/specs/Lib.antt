pub mod CallPlaces
pub mod IncludeDepth
pub mod IntervalEnds
pub mod LocaleBlocks
pub mod NumberLimits
pub mod PrintedLayouts
pub mod ShadowedLines
