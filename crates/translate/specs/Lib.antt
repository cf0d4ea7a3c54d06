-- Document 01, "Netlist and translation", the translation's half: which cells and drives a module gives, and what translating answers and writes.
pub mod Tables
pub mod Translation
pub mod Answer
