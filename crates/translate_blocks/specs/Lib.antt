-- What the translator's code computes on every input: the translation over a file's bytes and tables of operands. That it is the translation of the tree is shown in crate translator.
pub mod Emitting
pub mod Writing
pub mod Log
pub mod Working
pub mod Ends
