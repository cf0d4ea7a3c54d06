-- What the code of a run computes on every input, without stopping; that it is the cycle of crate verilog's definitions is shown in proofs/.
pub mod Numbers
pub mod Execution
