-- Lemmas, in a folder for each subject.
pub mod refusals  -- which parts a thread lacks, and what is not legal for it
pub mod lists  -- tests on lists of items, and lists that are merged
pub mod kept  -- what a running world keeps, and each step that it takes
pub mod traces  -- runs of steps
