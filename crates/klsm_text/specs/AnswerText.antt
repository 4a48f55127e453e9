-- The answer text: what `klsm replay` writes for the answers to a script's rows. Answers are listed
-- the latest first, so that `line ∷ earlier` is a line with the lines before it.
use Rattle.std.specs.Prelude.{ℕ, ◌+◌, List, [], ◌∷◌, ◌++◌, length, codes, max}
use Rattle.std.specs.List.{concat}
use Rattle.std.specs.Fmt.{decimal}
use Rattle.klsm_run.specs.declared.item.Item.{Item}
use Rattle.klsm_run.specs.declared.item.Stamp.{Stamp}
use Rattle.klsm_run.specs.Content.{without, skipped}
use Rattle.klsm_text.specs.declared.answer.Line.{Line}
use Rattle.klsm_text.specs.declared.answer.Answer.{Answer}
use Rattle.klsm_text.specs.declared.answer.Answer.TheVariants.{Inserted, Deleted, Nothing}
use Rattle.klsm_text.specs.declared.request.Refusal.{Refusal}
use Rattle.klsm_text.specs.declared.request.Refusal.TheVariants as refusal
use Rattle.klsm_text.specs.declared.stop.Stop.{Stop}
use Rattle.klsm_text.specs.declared.stop.Stop.TheVariants as stop

-- the live items after an answer, of those before it
abbrev pub live_after : List Item → Answer → List Item
live_after live (Inserted x) = x ∷ live
live_after live (Deleted x) = without x live
live_after live Nothing = live

-- the live items after some lines: the items of the insertion lines without those of the deletion
-- lines
abbrev pub live_by : List Line → List Item
live_by [] = []
live_by (line ∷ earlier) = live_after (live_by earlier) line.answer

-- how many live items a deletion skips
abbrev pub skip_of : List Item → Answer → ℕ
skip_of live (Inserted x) = 0
skip_of live (Deleted x) = skipped live x
skip_of live Nothing = 0

abbrev pub greatest_skip : List Line → ℕ
greatest_skip [] = 0
greatest_skip (line ∷ earlier) = max (greatest_skip earlier) (skip_of (live_by earlier) line.answer)

-- owner, a dot and number
abbrev pub stamp_text : Stamp → List ℕ
stamp_text s = concat (decimal s.owner ∷ codes "." ∷ decimal s.number ∷ [])

-- an answer to a thread, with what its deletion skips
abbrev pub answer_text : ℕ → Answer → ℕ → List ℕ
answer_text thread (Inserted x) skip =
    concat (decimal thread ∷ codes " i " ∷ decimal x.key ∷ codes " " ∷ stamp_text x.stamp
    ∷ codes "\n" ∷ [])
answer_text thread (Deleted x) skip =
    concat (decimal thread ∷ codes " d " ∷ decimal x.key ∷ codes " " ∷ stamp_text x.stamp
    ∷ codes " load " ∷ decimal x.load ∷ codes " skip " ∷ decimal skip ∷ codes "\n" ∷ [])
answer_text thread Nothing skip = concat (decimal thread ∷ codes " d none\n" ∷ [])

-- the lines, each with the number of live items before it that its deletion skips
abbrev pub lines_text : List Line → List ℕ
lines_text [] = []
lines_text (line ∷ earlier) =
    lines_text earlier
    ++ answer_text line.thread line.answer (skip_of (live_by earlier) line.answer)

abbrev pub refusal_word : Refusal → List ℕ
refusal_word refusal.Rows = codes "rows"
refusal_word refusal.Fields = codes "fields"
refusal_word refusal.Thread = codes "thread"
refusal_word refusal.Operation = codes "operation"
refusal_word refusal.Key = codes "key"
refusal_word refusal.Load = codes "load"

-- the line of a row that is refused
abbrev pub row_text : ℕ → List ℕ → List ℕ
row_text row word =
    concat (codes "refused row " ∷ decimal row ∷ codes ": " ∷ word ∷ codes "\n" ∷ [])

-- the last line: of the row that is not answered, or of the greatest skip and its bound. A text
-- that a write fault cut off has none
abbrev pub closing_text : ℕ → ℕ → ℕ → Stop → List ℕ
closing_text row most bound stop.AtEnd =
    concat (codes "max skip " ∷ decimal most ∷ codes " bound " ∷ decimal bound ∷ codes "\n" ∷ [])
closing_text row most bound (stop.Refused why) = row_text row (refusal_word why)
closing_text row most bound stop.NoMemory = codes "no memory\n"
closing_text row most bound stop.ReadFault = codes "read fault\n"
closing_text row most bound stop.WriteFault = []

-- the whole text
abbrev pub text_of : ℕ → List Line → Stop → List ℕ
text_of bound lines why =
    lines_text lines ++ closing_text (length lines + 1) (greatest_skip lines) bound why
