-- What a default line is, and the laws of the model of a run, passed on under their names.
pub mod Defaults
pub use Rattle.model.proofs.Order
pub use Rattle.model.proofs.Valid
pub use Rattle.model.proofs.Allowed
pub use Rattle.model.proofs.Moves
pub use Rattle.model.proofs.ValidSteps
pub use Rattle.model.proofs.History
pub use Rattle.model.proofs.Rehearsal
