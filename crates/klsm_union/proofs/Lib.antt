pub mod ApartLemmas
pub mod HeadLemmas
pub mod UnionLemmas
pub mod WorkLemmas
