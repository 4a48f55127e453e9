-- Lemmas, in a folder for each subject.
pub mod lists  -- lists that are equal, joined and put in order
pub mod counts  -- how often an item is in a content, and in the contents of a world
pub mod hands  -- words, contents at home and hands, and the content of each part
pub mod lawful  -- the first world is lawful, and each legal step keeps a world so
pub mod theorems  -- the laws that the functions of src/laws.rt ensure
