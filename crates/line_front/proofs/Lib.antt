pub mod ItemLemmas
pub mod RatioLemmas
pub mod RequestLemmas
