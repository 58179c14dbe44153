-- Numbers and digests, and the digits that spell them.
pub mod DecimalNumbers
pub mod TextDigests
pub mod GrammarDigits
