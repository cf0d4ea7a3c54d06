-- Laws of the text that the program writes; the words that a refusal prints; two responses coincide; and the first 16,385 bytes of a longer input decide.
pub mod TextLaws
pub mod RefusalWords
pub mod LongInput
pub mod OneResult
