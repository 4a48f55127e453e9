-- Runs of steps.
pub mod StartLemmas  -- what a new world, and so a run, is refused for
pub mod TraceLemmas  -- what a run did so far
pub mod TraceEndLemmas  -- what it did at its end
