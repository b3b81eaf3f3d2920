pub mod WordLaws
pub mod TextLaws
pub mod TallyLaws
