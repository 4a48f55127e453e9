-- What a member may answer to a row, and what one alone may lack.
use Rattle.std.specs.Prelude.{ℕ, ⊤, ◌≡◌, List, [], ◌∷◌}
use Rattle.klsm_schedules.specs.declared.step.Entry.{Entry}
use Rattle.klsm_board.specs.Inserting.{RefusesInsertWaiting}
use Rattle.klsm_board.specs.declared.errors.InsertError.TheVariants as insert
use Rattle.klsm_text.specs.declared.answer.Answer.{Answer}
use Rattle.klsm_text.specs.declared.answer.Answer.TheVariants.{Inserted, Deleted, Nothing}
use Rattle.klsm_text.specs.declared.request.Operation.{Operation}
use Rattle.klsm_text.specs.declared.request.Operation.TheVariants.{Insert, Delete}
use Rattle.klsm_tool.specs.declared.member_calls.Want.{Want}
use Rattle.klsm_tool.specs.declared.member_calls.Want.TheVariants as want

-- an item, or nothing
abbrev pub IsDeletion : Answer → Type 0
IsDeletion (Inserted x) = ⊥
IsDeletion (Deleted x) = ⊤
IsDeletion Nothing = ⊤

-- an item of this key and load was inserted
abbrev pub IsInsertion : ℕ → ℕ → Answer → Type 0
IsInsertion key load (Inserted x) = (x.key ≡ key) × (x.load ≡ load)
IsInsertion key load (Deleted x) = ⊥
IsInsertion key load Nothing = ⊥

-- an answer to what a row asks for
abbrev pub IsAnswerTo : Operation → Answer → Type 0
IsAnswerTo (Insert key load) answer = IsInsertion key load answer
IsAnswerTo Delete answer = IsDeletion answer

-- the answers are those to what a thread is asked for, one by one
abbrev pub AreAnswers : List Operation → List Answer → Type 0
AreAnswers [] [] = Unit {0}
AreAnswers [] (answer ∷ answers) = ⊥
AreAnswers (asked ∷ more) [] = ⊥
AreAnswers (asked ∷ more) (answer ∷ answers) =
    IsAnswerTo asked answer × AreAnswers more answers

-- a list of own steps ends with an insertion for which the shared part had no room
abbrev pub EndsFull : ℕ → ℕ → ℕ → List Entry → Type 0
EndsFull levels k t es = (before : List Entry) × RefusesInsertWaiting ⊥ levels k t before es insert.Full

-- what an insertion by a member alone was refused for. Its list does not show that memory was wanted
abbrev pub Wants : ℕ → ℕ → ℕ → List Entry → Want → Type 0
Wants levels k t es want.Room = EndsFull levels k t es
Wants levels k t es want.Memory = ⊤
