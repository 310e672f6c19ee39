-- Laws of storage and of truth values, passed on to crates that still take them from here.
pub use Rattle.descriptor.proofs.Truth.{decide}
pub use Rattle.storage.proofs.Requests.{given-split, given-whole, give-split, give-whole, request_at-none, request-some, request_at-some}
