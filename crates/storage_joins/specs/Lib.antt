-- When the elements of a new array may be copied straight from where they stand.
pub mod Joined
