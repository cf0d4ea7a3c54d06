-- The four C calls: each determines its result, and the answer can be read back from what C gets.
pub mod OneResult
