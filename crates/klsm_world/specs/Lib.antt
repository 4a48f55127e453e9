-- The definitions, in the order in which they are best read.
pub mod WorldView  -- a world as contracts see it, and what a step answers
pub mod Refusals  -- which steps are refused, and why; none of them is legal
pub mod Traces  -- what a run of steps answers
pub mod Kept  -- how a running world keeps what it shows; no public contract cites it
