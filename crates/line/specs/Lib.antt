-- The run of a whole line as the code holds it: which run of the model it is, its record rules, its questions and a fresh run. The
-- model's own files are passed on under their names.
pub mod Held
pub mod HeldLaws
pub mod Question
pub mod Fresh
pub use Rattle.model.specs.Run
pub use Rattle.model.specs.Record
pub use Rattle.model.specs.Event
pub use Rattle.model.specs.Valid
pub use Rattle.model.specs.Allowed
pub use Rattle.model.specs.Moves
pub use Rattle.model.specs.History
