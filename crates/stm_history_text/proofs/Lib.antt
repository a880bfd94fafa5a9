-- A text that is written part by part.
pub mod TextInParts
