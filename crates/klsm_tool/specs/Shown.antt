-- What a member's list of own steps shows in the text, and what the lines of its thread show.
use Rattle.std.specs.Prelude.{ℕ, ◌≡◌, ◌*◌, ◌<◌, ◌≤◌, ◌==◌, if◌then◌else◌, List, [], ◌∷◌, ◌++◌, slice_index_or}
use Rattle.std.specs.List.{flat_map}
use Rattle.klsm_schedules.specs.declared.step.Event.{Event}
use Rattle.klsm_schedules.specs.declared.step.Event.TheVariants as event
use Rattle.klsm_schedules.specs.declared.step.Entry.{Entry}
use Rattle.klsm_schedules.specs.OwnSteps.{event_at}
use Rattle.klsm_schedules.specs.Account.{account}
use Rattle.klsm_run.specs.Content.{sorted}
use Rattle.klsm_text.specs.AnswerText.{live_by, skip_of}
use Rattle.klsm_text.specs.declared.answer.Answer.{Answer}
use Rattle.klsm_text.specs.declared.answer.Answer.TheVariants.{Inserted, Deleted, Nothing}
use Rattle.klsm_text.specs.declared.answer.Line.{Line}

-- the answer that an event is; spying is none, and neither is a refill, a steal or a sharing
abbrev pub shown : Event → List Answer
shown (event.Put x) = Inserted x ∷ []
shown (event.Flush x moved) = Inserted x ∷ []
shown (event.Take x) = Deleted x ∷ []
shown (event.Early x front) = Deleted x ∷ []
shown event.Nothing = Nothing ∷ []
shown (event.Spy victim moved) = []
shown (event.Steal victim moved) = []
shown (event.Refill moved) = []
shown (event.Share moved) = []

-- the answers that a list of own steps has, the first one first
abbrev pub shown_in : List Entry → List Answer
shown_in es = flat_map shown (flat_map event_at es)

-- the answers in the lines of a thread, the first one first. Lines are listed the latest first
abbrev pub answers_of : ℕ → List Line → List Answer
answers_of t [] = []
answers_of t (line ∷ earlier) =
    answers_of t earlier ++ (if line.thread == t then line.answer ∷ [] else [])

-- the lines of each thread have the answers of its list, one by one and in order, and no other
abbrev pub AreShown : ℕ → List (List Entry) → List Line → Type 0
AreShown threads lists lines = (t : ℕ) → t < threads
    → answers_of t lines ≡ shown_in (slice_index_or lists t [])

-- a deletion skips at most T·k items, and with one thread none
abbrev pub IsFew : ℕ → ℕ → ℕ → Type 0
IsFew threads k skip = (skip ≤ threads * k) × (threads ≡ 1 → skip ≡ 0)

-- so does the deletion of each line, of the items of the insertion lines before it without those of the
-- deletion lines
abbrev pub SkipFew : ℕ → ℕ → List Line → Type 0
SkipFew threads k [] = Unit {0}
SkipFew threads k (line ∷ earlier) =
    IsFew threads k (skip_of (live_by earlier) line.answer) × SkipFew threads k earlier

-- The lines show these lists, whose account leaves the items of the insertion lines without those of
-- the deletion lines, and each deletion skips few.
pub record Show (threads k : ℕ) (lists : List (List Entry)) (lines : List Line) : Type 0 where
  pub answers : AreShown threads lists lines
  pub left_is : (account lists).left ≡ sorted (live_by lines)
  pub few : SkipFew threads k lines
