-- The definitions, in the order in which they are best read.
pub mod OwnSteps  -- a thread's own steps, and the hand that they leave
pub mod LegalSteps  -- which events may be committed, and which lists are legal
pub mod Worlds  -- worlds: words, contents at home, lists; the live items; the first world
pub mod LawfulWorlds  -- lawful worlds
pub mod Schedules  -- legal steps, where each leads, and schedules
pub mod RelaxedQueue  -- the relaxed queue of one thread, and its runs
pub mod Account  -- what all threads inserted and deleted, and what is left
pub mod Laws  -- what follows for worlds and schedules
pub mod OwnListLaws  -- what a thread can know from its own list
pub mod LiveLaws  -- what lives, for a thread that has all parts in hand, and later
pub mod WorkLaws  -- the keys in work, and what is deleted later
pub mod OrderLaws  -- contents ascend
pub mod Reached  -- schedules that reach the bounds
