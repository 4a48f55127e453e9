-- Lemmas. What is not listed here has the proofs of the functions of a file of src.
pub mod lemmas  -- by subject
