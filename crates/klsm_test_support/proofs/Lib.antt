mod ApartLemmas
pub mod OwnerLemmas
