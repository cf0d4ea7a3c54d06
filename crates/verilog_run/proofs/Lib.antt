-- Laws of a run: what the code computes is the cycle of an accepted module.
pub mod VariableLaws
pub mod ExecutionSteps
pub mod NumberLaws
pub mod WrittenFields
pub mod PayloadLaws
pub mod ExecutionLaws
pub mod SettledLaws
pub mod CycleWritten
pub mod OneResult
