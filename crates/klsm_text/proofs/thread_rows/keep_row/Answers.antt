use Rattle.std.proofs.Common.{◌∙◌, length, sym}
use Rattle.std.proofs.lemmas.List.{length-map}
use Rattle.std.proofs.lemmas.Result.{err_from_is_err_and}
use Rattle.csv.specs.Records.{fields_of}
use Rattle.klsm_text.proofs.KeepingLemmas.{row_kept, row_refused, row_stops}
use Rattle.klsm_text.proofs.thread_rows.keep_row.Goals as goal

pub returns-in_err-next_row : goal.returns-in_err-next_row
returns-in_err-next_row g c = λ threads input rows read accepted below kept.
    let p = err_from_is_err_and c.from_residual.result c.from_residual.ensures.1 in
    rw (p.1, p.2) (row_stops g.R.Read.remaining threads input rows c.next_row.new.self c.in_err-next_row.field-0.0 _ kept (c.in_err-next_row.ensures input rows read))

pub returns-in-Ok : goal.returns-in-Ok
returns-in-Ok g c = λ threads input rows read accepted below kept.
    row_kept g.R.Read.remaining threads (length c.args.lists.now) input rows c.args.script.now c.next_row.new.self (fields_of c.next_row.new.self.row) c.in-Ok.request _ _ c.keep.result
    (length-map c.args.lists.now (λ list. list.items)) read accepted below kept (c.in_ok-next_row.ensures input rows read) (sym c.request_of.ensures.request ∙ c.in-Ok.is) c.keep.ensures.kept c.keep.ensures.memory

pub returns-in-Err : goal.returns-in-Err
returns-in-Err g c = λ threads input rows read accepted below kept.
    row_refused g.R.Read.remaining threads input rows c.next_row.new.self (fields_of c.next_row.new.self.row) c.in-Err.why (length c.args.lists.now) _ _
    (length-map c.args.lists.now (λ list. list.items)) accepted kept below (c.in_ok-next_row.ensures input rows read) (sym c.request_of.ensures.request ∙ c.in-Err.is)
