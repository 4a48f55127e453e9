use Rattle.std.proofs.Common.{◌≡◌, ℕ, ◌∷◌, length, Ok, Err, sym, ◌∙◌, subst, arith}
use Rattle.csv.specs.Records.{fields_of}
use Rattle.klsm_rows.specs.Rows.{Row, HasRead}
use Rattle.klsm_instance.specs.Format.{thing_of}
use Rattle.klsm_rows.proofs.RowLemmas.{first_rows}
use Rattle.klsm_instance.proofs.FormatLemmas.{give_more, good, refused_row, refuses_next}
use Rattle.klsm_instance.proofs.rows.Rows.read_thing.Goals as goal

pub returns-in-Ok : goal.returns-in-Ok
returns-in-Ok g c input rows p before give many long =
    let rem = g.R.Read.remaining in
    let row : Row = fields_of c.advance.new.self.row in
    let read : HasRead rem input (row ∷ rows) c.advance.new.self.reader = rw c.in-Ok-true.field-0-test at (c.in-Ok-true.ensures input rows before) in
    let is : thing_of (length p.things) row ≡ Ok c.in-Ok.thing = subst (λ (n : ℕ). thing_of n row ≡ Ok c.in-Ok.thing) (sym many) (sym c.thing_of.ensures.thing ∙ c.in-Ok.is) in
    (c.in-Ok.ensures.in_range, c.in-Ok.ensures.few, (row, read, give_more rows row p.capacity p.things c.in-Ok.thing give (omega arith) is))

pub returns-in-Err-thing_of : goal.returns-in-Err-thing_of
returns-in-Err-thing_of g c input rows p before give many long =
    let rem = g.R.Read.remaining in
    let row : Row = fields_of c.advance.new.self.row in
    let why = c.in-Err-thing_of.why in
    let read : HasRead rem input (row ∷ rows) c.advance.new.self.reader = rw c.in-Ok-true.field-0-test at (c.in-Ok-true.ensures input rows before) in
    let is : thing_of (length p.things) row ≡ Err why = subst (λ (n : ℕ). thing_of n row ≡ Err why) (sym many) (sym c.thing_of.ensures.thing ∙ c.in-Err-thing_of.is) in
    refused_row input rows row why (first_rows rem input rows c.args.self.now.reader before) (first_rows rem input (row ∷ rows) c.advance.new.self.reader read) (good rows p give) (refuses_next rows row p.capacity p.things why give (omega arith) is)
