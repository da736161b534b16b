pub mod Parts
pub mod Next
pub mod Read
pub mod Fold
pub mod Kinds
pub mod Texts
pub mod Pages
