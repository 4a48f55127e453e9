-- Which parts a thread holds, which it lacks, and which steps are not legal.
pub mod RefusalLemmas  -- which parts a thread holds, and which it lacks
pub mod HeldLemmas  -- the own part and another, both held
pub mod RefusedLemmas  -- a refused step is not legal
