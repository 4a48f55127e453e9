-- Words, contents at home and hands, and the content of each part.
pub mod HandLemmas  -- a hand after a change, a return and an event
pub mod NotedLemmas  -- lists and hands after one more entry
pub mod AgreeLemmas  -- each legal step keeps all in agreement
pub mod PartContentLemmas  -- what each step leaves of a part
