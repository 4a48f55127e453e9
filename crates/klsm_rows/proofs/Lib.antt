-- Lemmas.
pub mod NumberLemmas  -- what reading a field as a number gives
pub mod RowLemmas  -- what one read of a record does to the rows that were read
