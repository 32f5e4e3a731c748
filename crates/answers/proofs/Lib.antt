-- What a load comes to, from what its parts leave.
pub mod Settling
