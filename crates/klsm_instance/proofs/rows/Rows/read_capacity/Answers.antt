use Rattle.std.proofs.Common.{[], ◌∷◌}
use Rattle.csv.specs.Records.{fields_of}
use Rattle.klsm_rows.specs.Rows.{Row, HasRead}
use Rattle.klsm_rows.proofs.RowLemmas.{first_rows}
use Rattle.klsm_instance.proofs.FormatLemmas.{first_row}
use Rattle.klsm_instance.proofs.rows.Rows.read_capacity.Goals as goal

pub returns-in-Ok-true : goal.returns-in-Ok-true
returns-in-Ok-true g c input before =
    let rem = g.R.Read.remaining in
    let row : Row = fields_of c.advance.new.self.row in
    let read : HasRead rem input (row ∷ []) c.advance.new.self.reader = rw c.in-Ok-true.field-0-test at (c.in-Ok-true.ensures input [] before) in
    first_row input row (λ (r : Row). HasRead rem input (r ∷ []) c.advance.new.self.reader) c.capacity_of.result (first_rows rem input [] c.args.self.now.reader before) (first_rows rem input (row ∷ []) c.advance.new.self.reader read) read c.capacity_of.ensures.small c.capacity_of.ensures.capacity
