-- The scan and its running form, in the order in which to read them.
pub mod Prefixes
pub mod Longest
pub mod Joined
pub mod ScanLaws
pub mod RunLaws
pub mod Claims
pub mod FullLaws
