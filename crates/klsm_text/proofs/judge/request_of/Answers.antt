use Rattle.std.proofs.Common.{◌≡◌, length, arith, sym, subst}
use Rattle.csv.specs.Records.{fields_of}
use Rattle.klsm_rows.specs.Rows.{Row}
use Rattle.klsm_text.specs.Script.{request_of}
use Rattle.klsm_rows.proofs.RowLemmas.{present}
use Rattle.klsm_text.proofs.ScriptLemmas.{four}
use Rattle.klsm_text.proofs.judge.request_of.Goals as goal

pub returns-in_default : goal.returns-in_default
returns-in_default c = absurd (present (fields_of c.args.row.now) 3 c.get-4.result (omega (arith, c.len.ensures, c.if-len-ne-FIELDS.false)) c.get-4.ensures.value c.in_default.is-3)

pub returns-in_default-2 : goal.returns-in_default-2
returns-in_default-2 c = absurd (present (fields_of c.args.row.now) 2 c.get-3.result (omega (arith, c.len.ensures, c.if-len-ne-FIELDS.false)) c.get-3.ensures.value c.in_default.is-2)

pub returns-in_default-3 : goal.returns-in_default-3
returns-in_default-3 c = absurd (present (fields_of c.args.row.now) 1 c.get-2.result (omega (arith, c.len.ensures, c.if-len-ne-FIELDS.false)) c.get-2.ensures.value c.in_default.is-1)

pub returns-in_default-4 : goal.returns-in_default-4
returns-in_default-4 c = absurd (present (fields_of c.args.row.now) 0 c.get.result (omega (arith, c.len.ensures, c.if-len-ne-FIELDS.false)) c.get.ensures.value c.in_default.is-0)

pub returns-clause-request : goal.returns-clause-request
returns-clause-request c =
    let w = c.in-Some-Some-Some-Some in
    let row = fields_of c.args.row.now in
    let all : length row ≡ 4 = omega (arith, c.len.ensures, c.if-len-ne-FIELDS.false) in
    let is = four row w.thread w.operation w.key w.load all w.ensures.value w.ensures'.value w.ensures''.value w.ensures'''.value in
    subst (λ (fields : Row). c.request.result ≡ request_of c.args.threads fields) (sym is) c.request.ensures.request
