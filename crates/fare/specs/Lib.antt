pub mod Amounts
pub mod Fares
pub mod Fare
pub mod Asked
pub mod Examples
pub mod RefusedFares
pub mod steps
