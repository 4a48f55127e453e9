-- The first world is lawful, and each legal step keeps a world so.
pub mod FirstLemmas  -- the first world
pub mod LegalLemmas  -- lists of own steps stay legal
pub mod FewLemmas  -- own parts keep at most k items
pub mod LiveAfterLemmas  -- the live items after an event
pub mod FrontLemmas  -- the front word is that of the shared part
pub mod OnceLemmas  -- what is inserted is deleted or live, each once
pub mod LawfulLemmas  -- all of it
