-- Document 01, "Who calls it": the program.
pub mod Text
