-- That the reader gives the lossy text, what callers of it cite, and lemmas of its functions.
pub mod ReaderLaws
pub mod HeldLaws
mod ReaderTurns
