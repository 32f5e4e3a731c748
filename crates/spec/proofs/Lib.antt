-- Rows by computation: what the definitions say of document 01's examples, of other memory, and at their edges.
pub mod Examples
pub mod OtherMemory
pub mod TextRows
