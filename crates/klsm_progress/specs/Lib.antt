-- The definitions, in the order in which they are best read.
pub mod Words  -- what the line says behind the number
pub mod Pace  -- how far one thread has come since it told
pub mod TerminalLine  -- whether a line on a terminal tells anything
