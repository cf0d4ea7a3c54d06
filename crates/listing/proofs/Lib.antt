-- Laws of the listing's code, and the theorem that it shows what it is to show.
pub mod ListingSteps
pub mod ListedRight
pub mod OneResult
