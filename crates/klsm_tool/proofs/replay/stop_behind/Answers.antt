use Rattle.csv.specs.Records.{fields_of}
use Rattle.klsm_text.proofs.KeepingLemmas.{beyond_read, none_refused}
use Rattle.klsm_tool.proofs.ReplayLemmas.{cut_stands, read_stops, too_many}
use Rattle.klsm_tool.proofs.TellingLemmas.{stops_told, stops_cut}
use Rattle.klsm_tool.proofs.replay.stop_behind.Goals as goal

pub returns-in-Err-clause-stops : goal.returns-in-Err-clause-stops
returns-in-Err-clause-stops g c threads k lists input before rows lines items most now all told =
    let failed = c.in-Err.ensures.told before lines told in
    rw failed.0 (stops_cut g.R.Read.remaining _ threads k lists input before _ rows lines c.args.script.now _ most _ now.answered now.shown now.read failed.1)

pub returns-in-Ok-clause-stops : goal.returns-in-Ok-clause-stops
returns-in-Ok-clause-stops g c threads k lists input before rows lines items most now all told =
    let h = too_many g.R.Read.remaining threads input rows c.advance.new.self (fields_of c.advance.new.self.row) all (c.in-Ok.ensures input rows now.read) in
    stops_told _ threads k lists input before _ rows lines most _ _ now.answered (record { stopped = h.0; shown = now.shown; most_is = now.most_is; other = h.1; fault = λ e. cc }) (c.in_default.ensures.told before lines told)

pub returns-in-Err-advance-clause-stops : goal.returns-in-Err-advance-clause-stops
returns-in-Err-advance-clause-stops g c threads k lists input before rows lines items most now all told =
    let h = read_stops _ threads input rows _ (c.in-Err-advance.ensures input rows now.read) in
    stops_told _ threads k lists input before _ rows lines most _ _ now.answered (record { stopped = h.0; shown = now.shown; most_is = now.most_is; other = h.1; fault = h.2 }) (c.in_default.ensures.told before lines told)

pub returns-in-Err-clause-refused : goal.returns-in-Err-clause-refused
returns-in-Err-clause-refused g c threads input rows read accepted all = cut_stands g.R.Read.remaining threads input c.args.script.now _ c.in-Err.ensures.fault

pub returns-in-Ok-clause-refused : goal.returns-in-Ok-clause-refused
returns-in-Ok-clause-refused g c threads input rows read accepted all refusal is =
    beyond_read g.R.Read.remaining threads input rows c.advance.new.self (fields_of c.advance.new.self.row) accepted all (c.in-Ok.ensures input rows read)

pub returns-in-Err-advance-clause-refused : goal.returns-in-Err-advance-clause-refused
returns-in-Err-advance-clause-refused g c threads input rows read accepted all =
    none_refused g.R.Read.remaining threads _ input rows c.advance.new.self _ (c.in-Err-advance.ensures input rows read)
