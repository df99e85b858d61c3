pub mod TextLaws
pub mod DigitLaws
