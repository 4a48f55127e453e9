-- The definitions, in the order in which they are best read.
pub mod Number  -- the numbers of a text
pub mod Rows  -- the rows of a text
