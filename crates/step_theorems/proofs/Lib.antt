-- The next instruction of an accepted segment: what is known of its plan, what is due after it, and that its effects leave an
-- accepted segment. Put together from the theorems on effects, plans and legal machines.
pub mod Entering
pub mod Current
pub mod Again
pub mod Planned
pub mod Settled
