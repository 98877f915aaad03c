pub mod AtMost
pub mod Comparisons
pub mod Derived
pub mod Rearranging
pub mod Totals
