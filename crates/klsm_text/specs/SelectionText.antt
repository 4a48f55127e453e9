-- The lines of `klsm knapsack`: of a selection, and of an instance that is not read.
use Rattle.std.specs.Prelude.{ℕ, zero, suc, Bool, ◌+◌, ◌/◌, ◌%◌, ◌==◌, true, false}
use Rattle.std.specs.Prelude.{List, [], ◌∷◌, ◌++◌, length, codes}
use Rattle.std.specs.List.{concat}
use Rattle.std.specs.Fmt.{decimal}
use Rattle.klsm_instance.specs.declared.errors.ReadError.{ReadError}
use Rattle.klsm_instance.specs.declared.errors.ReadError.TheVariants as read_error
use Rattle.klsm_instance.specs.declared.search.Best.{Best}
use Rattle.klsm_instance.specs.Selections.{Problem, weight_of}
use Rattle.klsm_text.specs.AnswerText.{row_text}

-- a thing's number behind a space, where it is selected
abbrev pub pick_text : ℕ → Bool → List ℕ
pick_text number true = codes " " ++ decimal number
pick_text number false = []

-- the numbers of the things selected, of so many that are counted from a number on
abbrev pub picks_text : ℕ → ℕ → ℕ → List ℕ
picks_text zero number selection = []
picks_text (suc count) number selection =
    pick_text number (selection % 2 == 1) ++ picks_text count (number + 1) (selection / 2)

abbrev pub head_of : ℕ → ℕ → List ℕ
head_of value weight =
    concat (codes "value " ∷ decimal value ∷ codes " weight " ∷ decimal weight ∷ codes " picks" ∷ [])

-- the line of a selection
abbrev pub best_text : Problem → Best → List ℕ
best_text p best =
    head_of best.value (weight_of p best.picks) ++ picks_text (length p.things) 0 best.picks
    ++ codes "\n"

-- the line of an instance that is not read
abbrev pub read_text : ReadError → List ℕ
read_text (read_error.BadRow row) = row_text row (codes "fields")
read_text read_error.TooMany = row_text 34 (codes "items")
read_text (read_error.BadNumber row) = row_text row (codes "number")
read_text (read_error.OutOfRange row) = row_text row (codes "range")
read_text read_error.ReadFault = codes "read fault\n"
read_text read_error.NoMemory = codes "no memory\n"
