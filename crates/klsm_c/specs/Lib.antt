pub mod Held
pub mod Lending  -- what a slot ends as that lent its member
pub mod Slots
pub mod Items
pub mod Codes  -- the codes that calls answer
pub mod Calls
pub mod Opening
pub mod Closing
