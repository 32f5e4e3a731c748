-- Lent memory as the definitions see it.
pub mod Lent
