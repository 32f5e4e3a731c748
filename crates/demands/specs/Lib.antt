-- The statements of the demands; their proofs stand in proofs/.
pub mod DemandTheorems
