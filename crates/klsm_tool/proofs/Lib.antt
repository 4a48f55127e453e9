pub mod AloneLemmas  -- a replay over a board of its own
pub mod ClosingLemmas
pub mod NotRunLemmas  -- scripts that are not run, and how far they were read
pub mod SkipCounterLemmas  -- what joins and leaves the live items
pub mod AllLemmas  -- one of all members goes on
pub mod CrewLemmas  -- one member goes on, and the others stay
pub mod ShownLemmas  -- what the calls of a member show in the text
pub mod PickingLemmas  -- the pickers of the threads
pub mod CourseLemmas  -- how the calls of a thread go on, one after another
pub mod ReplayLemmas
pub mod TellingLemmas
pub mod WorkLemmas  -- what a worker's rows are answered with
pub mod TotalLemmas  -- the totals of a script that was run
pub mod RoomLemmas  -- no worker finds the shared part full
pub mod PlaceLemmas  -- the workers at their places
