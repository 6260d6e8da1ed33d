-- The lines of a rehearsal: their bytes.
pub mod Text
