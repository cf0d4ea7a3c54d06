-- What the code of the check computes on every input; that it is the answer of crate verilog's definitions is shown in proofs/.
pub mod Tables
pub mod Judged
pub mod Walk
pub mod Survey
pub mod Known
