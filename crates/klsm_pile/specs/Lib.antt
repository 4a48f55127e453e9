-- The definitions, in the order in which they are best read.
pub mod Piece  -- pieces, as contracts see them
pub mod Body  -- what they have their items in
pub mod Pieces  -- which blocks numbered pieces are
pub mod Renumbering  -- what becomes of the numbers where a run is put in
pub mod Settling  -- and where items leave
pub mod Front  -- the least items, side by side
pub mod Labels  -- where they and their levels lie apart
pub mod Fetching  -- how they come there
pub mod Counting  -- how many items the levels have
pub mod Merging  -- items that are merged into the front
pub mod Absorbing  -- which items of a run go to the front
pub mod Leaving  -- blocks without the least items of all
pub mod Spilling  -- how items of the front become pieces
pub mod Uniting  -- which pieces can become one
pub mod Reading  -- a list that gains items
pub mod Seeking  -- which items come after another one
pub mod Piles  -- which piles are lawful
