-- Document 01's cases marked (P), the errors that the course keeps meeting, and the examples of each refusal, each table under one theorem.
pub mod Lines
pub mod Course
pub mod Large
pub mod Explained
