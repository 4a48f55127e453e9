-- The definitions, in the order in which they are best read.
pub mod SharedRuns  -- how the items of a shared run lie in its store
pub mod Heads  -- which items leave a union first
pub mod Halves  -- what a worker owes
pub mod Unions  -- two runs that are to become one
pub mod Works  -- work that is under way
