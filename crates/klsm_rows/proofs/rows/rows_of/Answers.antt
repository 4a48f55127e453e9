use Rattle.std.proofs.Common.{◌∙◌, inr}
use Rattle.klsm_rows.proofs.RowLemmas.{left_first}
use Rattle.klsm_rows.proofs.rows.rows_of.Goals as goal

pub returns : goal.returns
returns g c =
    let f = c.from_reader.ensures in
    let set = c.flexible.ensures in
    let no_headers = c.has_headers.ensures in
    record {
      config = rw (set, no_headers) at f.config ∙ c.new.ensures.config;
      trim = rw (set, no_headers) at f.trim ∙ c.new.ensures.trim;
      flexible = rw set at f.flexible;
      ready = inr (inr (rw (set, no_headers) at f.has_headers, f.headers));
      left = left_first g.R.Read.remaining (g.R.Read.remaining c.args.reader) c.from_reader.result f.source f.state;
    }
