-- Laws of machines of cells; the one walk over all plans, and the theorem that a plan's trap is one of the table.
pub mod Machines
pub mod Cellwise
pub mod Performed
pub mod Tests
pub mod Lists
pub mod Elements
pub mod Operators
pub mod Values
pub mod Variables
pub mod Decoding
pub mod Cases
pub mod Traps
pub mod Comparisons
pub mod Joins
