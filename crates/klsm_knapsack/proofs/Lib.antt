-- Lemmas.
pub mod RuleLemmas  -- each step on the incumbent keeps its rule
pub mod CoverageLemmas  -- no feasible selection is missed
pub mod WorkLemmas  -- the work of one worker grows
pub mod EndLemmas  -- the nodes left are finished
pub mod AnswerLemmas  -- what a call leaves at the end of a list
pub mod IdleLemmas  -- how many answers "nothing" a list ends with
pub mod CourseLemmas  -- how the calls of a member go on, one after another
pub mod RunLemmas  -- how a worker ran, and then shared its items
pub mod CrewLemmas  -- the workers of a search together
pub mod RoomLemmas  -- workers that go on without room do not lack it
pub mod SearchLemmas  -- the lists of the workers, once all are back
pub mod FinishLemmas  -- the workers at the start and at the end of a search
