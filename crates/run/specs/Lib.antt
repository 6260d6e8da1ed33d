-- The three events as the code plays them: what each comes to, the limits within which nothing wraps, and the laws; then the
-- parts of a script. Their rehearsal put together is `rehearsal`.
pub mod Play
pub mod Limits
pub mod Sends
pub mod Hearing
pub mod Advance
pub mod Follows
pub mod Part
pub mod Ready
