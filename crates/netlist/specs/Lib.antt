-- Document 01, "Netlist and translation", the netlist's half: its lists, its bytes, its refusals, and one cycle.
pub mod Lists
pub mod Form
pub mod Reading
pub mod Rules
pub mod Answer
pub mod WalkAnswers
pub mod Cycle
pub mod Fits
pub mod Breaks
pub mod Run
pub mod Numbers
pub mod Parts
