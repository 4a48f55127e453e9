-- The line of the totals of a script that was run by threads.
use Rattle.std.specs.Prelude.{ℕ, List, ◌∷◌, [], codes}
use Rattle.std.specs.List.{concat}
use Rattle.std.specs.Fmt.{decimal}
use Rattle.klsm_text.specs.declared.totals.Totals.{Totals}

-- the line of a script that was run
abbrev pub totals_text : Totals → List ℕ
totals_text totals =
    concat (codes "inserted " ∷ decimal totals.inserted ∷ codes " deleted " ∷ decimal totals.deleted
    ∷ codes " left " ∷ decimal totals.left ∷ codes "\n" ∷ [])
