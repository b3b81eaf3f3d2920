pub mod KeptLabels
pub mod Onward
