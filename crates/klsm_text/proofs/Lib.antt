pub mod KeepingLemmas  -- what one row does to the rows that are kept for the threads
pub mod OutputLemmas  -- what one piece of text after another leaves with a writer
pub mod ScriptLemmas  -- what a row's fields are, and how it is judged
