use Rattle.std.proofs.Common.{◌≡◌, ◌∙◌, ℕ, Result, Err, codes, arith, sym, subst}
use Rattle.std.specs.Str.{bytes_eq}
use Rattle.csv.specs.Records.{fields_of}
use Rattle.klsm_rows.specs.Rows.{Row}
use Rattle.klsm_instance.specs.declared.errors.ReadError.{ReadError}
use Rattle.klsm_instance.specs.declared.errors.ReadError.TheVariants as read_error
use Rattle.klsm_rows.specs.Number.{number_of}
use Rattle.klsm_instance.specs.Format.{capacity_in, capacity_of}
use Rattle.klsm_instance.proofs.FormatLemmas.{not_so, so, two}
use Rattle.klsm_rows.proofs.RowLemmas.{present}
use Rattle.klsm_instance.proofs.judge.capacity_of.Goals as goal

pub returns-in_default-clause-capacity : goal.returns-in_default-clause-capacity
returns-in_default-clause-capacity c = absurd (present (fields_of c.args.row.now) 1 c.get-2.result (omega (arith, c.len.ensures, c.if-len-ne-FIELDS.false)) c.get-2.ensures.value c.in_default.is-1)

pub returns-in_default-2-clause-capacity : goal.returns-in_default-2-clause-capacity
returns-in_default-2-clause-capacity c = absurd (present (fields_of c.args.row.now) 0 c.get.result (omega (arith, c.len.ensures, c.if-len-ne-FIELDS.false)) c.get.ensures.value c.in_default.is-0)

pub returns-then-ne-clause-capacity : goal.returns-then-ne-clause-capacity
returns-then-ne-clause-capacity c =
    let w = c.in-Some-Some in
    let row = fields_of c.args.row.now in
    let is = two row w.word w.field (omega (arith, c.len.ensures, c.if-len-ne-FIELDS.false)) w.ensures.value w.ensures'.value in
    let wrong : Result ℕ ReadError = Err (read_error.BadRow 1) in
    subst (λ (fields : Row). wrong ≡ capacity_of fields) (sym is) (not_so (bytes_eq w.word.now (codes "capacity")) (capacity_in (number_of w.field.now)) wrong c.if-ne.ensures)

pub returns-clause-capacity : goal.returns-clause-capacity
returns-clause-capacity c =
    let w = c.in-Some-Some in
    let row = fields_of c.args.row.now in
    let is = two row w.word w.field (omega (arith, c.len.ensures, c.if-len-ne-FIELDS.false)) w.ensures.value w.ensures'.value in
    let wrong : Result ℕ ReadError = Err (read_error.BadRow 1) in
    subst (λ (fields : Row). c.capacity_in.result ≡ capacity_of fields) (sym is) (c.capacity_in.ensures.capacity ∙ so (bytes_eq w.word.now (codes "capacity")) (capacity_in (number_of w.field.now)) wrong c.if-ne.ensures)
