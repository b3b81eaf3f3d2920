pub mod ExamplesHold
pub mod Steps
pub mod Dearer
pub mod GoodFares
pub mod FareLaws
pub mod FurtherLink
pub mod FoundLaws
pub mod Determined
