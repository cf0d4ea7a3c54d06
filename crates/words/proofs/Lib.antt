-- The laws of bits, of widths and of limits, for this crate's proofs and those above it, and the table of cases.
pub mod BitLaws
pub mod WidthLaws
pub mod ResultLaws
pub mod LimitedLaws
pub mod Cases
