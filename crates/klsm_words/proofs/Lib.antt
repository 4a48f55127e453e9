pub mod OptionLemmas  -- what the options of a command come to
pub mod CommandLemmas  -- a command with its subcommands
pub mod ReplayLemmas  -- the words that ask for a replay
