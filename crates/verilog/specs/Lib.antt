-- Document 01, the module's half: its tree, its bytes, its refusals, and one cycle.
pub mod Tree
pub mod Reader
pub mod Form
pub mod Reading
pub mod Nodes
pub mod Rules
pub mod Answer
pub mod Cycle
pub mod Run
pub mod Parts
pub mod Quiet
pub mod Fits
pub mod Breaks
