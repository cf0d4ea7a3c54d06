-- What the two passes of the translator compute on any parts, and what a caller may see who translates a module and runs both files cycle after cycle.
pub mod Passes
pub mod Calls
