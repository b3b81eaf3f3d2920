pub mod Line
pub mod Sheet
pub mod FareSheet
pub mod RefusedLines
pub mod steps
