-- The memory under construction.
pub mod Built
