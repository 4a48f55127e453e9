-- The definitions, in the order in which they are best read.
pub mod Options  -- the options of the commands, as the parser reads them
pub mod CommandLine  -- the command line, as its parser reads it
