use Rattle.std.proofs.Common.{◌≡◌, ◌∙◌, ◌+◌, Result, Err, arith, sym, subst, rules}
use Rattle.csv.specs.Records.{fields_of}
use Rattle.klsm_rows.specs.Rows.{Row}
use Rattle.klsm_instance.specs.declared.thing.Thing.{Thing}
use Rattle.klsm_instance.specs.declared.errors.ReadError.{ReadError}
use Rattle.klsm_instance.specs.declared.errors.ReadError.TheVariants as read_error
use Rattle.klsm_rows.specs.Number.{number_of}
use Rattle.klsm_instance.specs.Format.{thing_in, thing_of}
use Rattle.klsm_instance.proofs.FormatLemmas.{not_equal, two}
use Rattle.klsm_rows.proofs.RowLemmas.{present}
use Rattle.klsm_instance.proofs.judge.thing_of.Goals as goal

pub returns-in_default-clause-thing : goal.returns-in_default-clause-thing
returns-in_default-clause-thing c = absurd (present (fields_of c.args.row.now) 1 c.get-2.result (omega (arith, c.len.ensures, c.if-len-ne-FIELDS.false)) c.get-2.ensures.value c.in_default.is-1)

pub returns-in_default-2-clause-thing : goal.returns-in_default-2-clause-thing
returns-in_default-2-clause-thing c = absurd (present (fields_of c.args.row.now) 0 c.get.result (omega (arith, c.len.ensures, c.if-len-ne-FIELDS.false)) c.get.ensures.value c.in_default.is-0)

pub returns-clause-thing : goal.returns-clause-thing
returns-clause-thing c =
    let w = c.in-Some-Some in
    let row = fields_of c.args.row.now in
    let is = two row w.value w.weight (omega (arith, c.len.ensures, c.if-len-ne-FIELDS.false)) w.ensures.value w.ensures'.value in
    let many : Result Thing ReadError = Err read_error.TooMany in
    subst (λ (fields : Row). c.thing_in.result ≡ thing_of c.args.before fields) (sym is) (c.thing_in.ensures.thing ∙ not_equal c.args.before 32 many (thing_in (c.args.before + 2) (number_of w.value.now) (number_of w.weight.now)) c.if-before-eq-MOST_THINGS.false)

pub returns-then-before-eq-MOST_THINGS-clause-thing : goal.returns-then-before-eq-MOST_THINGS-clause-thing
returns-then-before-eq-MOST_THINGS-clause-thing c = search rules
