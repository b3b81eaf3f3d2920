pub mod Storing
pub mod Planning
pub mod Routes
pub mod Asking
pub mod Faring
