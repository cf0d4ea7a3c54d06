-- Document 01, "All values are unsigned vectors of 1 to 32 bits": widths, bits, and the operators on them.
pub mod Limits
pub mod Limited
pub mod Widths
pub mod Bits
pub mod Values
pub mod Operators
pub mod Results
