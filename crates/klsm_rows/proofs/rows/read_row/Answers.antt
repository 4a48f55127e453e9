use Rattle.csv.specs.Records.{fields_of}
use Rattle.klsm_rows.proofs.RowLemmas.{read_next}
use Rattle.klsm_rows.proofs.rows.read_row.Goals as goal

pub returns-in-Ok : goal.returns-in-Ok
returns-in-Ok g c input rows before =
    let w = c.in-Ok.ensures in
    read_next g.R.Read.remaining input rows c.args.rows.now c.read_byte_record.new.self (fields_of c.read_byte_record.new.row) c.in-Ok.found before (w.reads before.trim before.ready) w.flexible (w.ready before.trim)
