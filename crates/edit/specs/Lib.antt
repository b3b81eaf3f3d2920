pub mod Edit
pub mod Run
pub mod Demands
pub mod RefusedEdits
pub mod steps
