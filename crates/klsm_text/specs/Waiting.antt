-- When the next row of a script may have to be waited for, and what has to have gone out by then.
use Rattle.std.specs.Prelude.{ℕ, ◌≡◌, Bool, true, not, nat_lt, []}
use Rattle.csv.specs.Reading.{reader_source}
use Rattle.klsm_text.specs.declared.output.Output.{Output}
use Rattle.klsm_text.specs.declared.script.Script.{Script}
use Rattle.klsm_text.specs.Output.{pending}

-- how many bytes of the script there are up to the end of the last row that is known to be whole
abbrev pub known_end : {R : Type 0} → Script R → ℕ
known_end script = (reader_source script.rows).whole_rows_end

-- no whole row is known to have been read ahead
abbrev pub knows_no_row : {R : Type 0} → Script R → Bool
knows_no_row script = not (nat_lt script.place (known_end script))

-- where none is, nothing is pending
abbrev pub HasSentBefore : {R : Type 0} → Script R → Output → Type 0
HasSentBefore script output = knows_no_row script ≡ true → pending output ≡ []
