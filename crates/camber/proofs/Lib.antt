-- Laws that belong to no one function.
pub mod MarchMachine
pub mod MarchLaw
pub mod MarchSlots
pub mod GoodMarches
pub mod MarchAgain
pub mod EdgesLaw
pub mod MarchLoop
pub mod MarchFrom
pub mod PartLaws
pub mod WantsLaws
pub mod GoingLimit
pub mod GoingSlots
pub mod StateLaws
pub mod HandedLaws
pub mod PauseLaws
