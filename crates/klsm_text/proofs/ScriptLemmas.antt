-- What the fields of a record are, from a look at each, how a row is judged, and which rows were read.
use Rattle.std.proofs.Common.{◌≡◌, ◌<◌, ℕ, false, List, [], ◌∷◌, length, Option, Some, Bor, refl, eqb, arith}
use Rattle.std.proofs.lemmas.Bool.Decides.{nat_tests}
use Rattle.csv.specs.Records.{field_at}
use Rattle.klsm_rows.specs.Rows.{Row, AreFirstRows}
use Rattle.klsm_rows.proofs.RowLemmas.{first_rows}
use Rattle.klsm_text.specs.declared.script.Script.{Script}
use Rattle.klsm_text.specs.Reading.{HasReadScript, left_within}
use Rattle.klsm_text.specs.Script.{request_of, request_after, row_limit}

-- the four fields that were looked at are the row
pub four : (row : Row) (a b c d : Bor (List ℕ)) → length row ≡ 4 → Some a.now ≡ field_at row 0 → Some b.now ≡ field_at row 1 → Some c.now ≡ field_at row 2 → Some d.now ≡ field_at row 3 → row ≡ a.now ∷ b.now ∷ c.now ∷ d.now ∷ []
unfolding field_at
four [] a b c d all is0 is1 is2 is3 = absurd (omega arith)
four (p ∷ []) a b c d all is0 is1 is2 is3 = absurd (omega arith)
four (p ∷ q ∷ []) a b c d all is0 is1 is2 is3 = absurd (omega arith)
four (p ∷ q ∷ r ∷ []) a b c d all is0 is1 is2 is3 = absurd (omega arith)
four (p ∷ q ∷ r ∷ s ∷ []) a b c d all is0 is1 is2 is3 = cc
four (p ∷ q ∷ r ∷ s ∷ t ∷ rest) a b c d all is0 is1 is2 is3 = absurd (omega arith)

-- below the limit a row is judged by its fields
pub judged : (threads : ℕ) (rows : List Row) (row : Row) → length rows < row_limit → request_after threads rows row ≡ request_of threads row
judged threads rows row below = let other : eqb (length rows) row_limit ≡ false = grind (arith, nat_tests) in rw other refl

-- the rows that were read are the first of the input
pub first_read : {R : Type 0} (rem : R → Option (List ℕ)) (input : Option (List ℕ)) (rows : List Row) (script : Script R) → HasReadScript rem input rows script → AreFirstRows input rows
first_read rem input rows script read = first_rows (left_within rem) input rows script.rows read
