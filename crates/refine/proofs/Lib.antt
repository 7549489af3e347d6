-- Laws that belong to no one function.
pub mod MoveLaws
pub mod RefineLaws
pub mod MachineLaws
pub mod LawOfRuns
pub mod RefinementLaw
pub mod EmptyLaws
pub mod RefinedLaws
pub mod SlotLaws
pub mod SlotEntries
pub mod ThinLaws
pub mod ThinLoop
pub mod ThinPlaces
pub mod ThinningLaw
pub mod OffersLaws
pub mod OffersLaw
pub mod GoodLaws
pub mod AgainLaws
