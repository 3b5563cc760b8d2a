pub mod Ranked
pub mod FieldLemmas
pub mod TextLemmas
pub mod DecimalLemmas
pub mod CursorLemmas
pub mod PageLemmas
