use Rattle.std.proofs.Common.{◌≡◌, ◌∙◌, ◌<◌, ◌∷◌, true, length, sym, subst, arith}
use Rattle.csv.specs.Records.{fields_of}
use Rattle.klsm_text.specs.Script.{row_limit}
use Rattle.klsm_text.specs.ThreadRows.{StandsAtRefusal, StopsReading}
use Rattle.klsm_text.specs.declared.request.Refusal.TheVariants as refusal
use Rattle.klsm_text.specs.declared.stop.Stop.TheVariants as stop
use Rattle.klsm_text.specs.Reading.{reader_failed}
use Rattle.klsm_text.proofs.KeepingLemmas.{beyond, beyond_read, ended, fault_failed, none_refused, stops_reading}
use Rattle.klsm_text.proofs.thread_rows.keep_rows.Goals.{in-Ok, in-Err-next_row}
use Rattle.klsm_text.proofs.thread_rows.keep_rows.Goals as goal

pub returns-in-Err : goal.returns-in-Err
returns-in-Err g c = λ threads input read kept.
    let k = c.loop-number.invariant threads input read kept in
    let below : length k.0 < row_limit = omega (arith, k.1, c.loop-number-test.true) in
    let stops = c.in-Err.ensures threads input k.0 k.2 k.3 below k.4 in
    let is = sym c.at.ensures.stop in
    ended g.R.Read.remaining threads _ input k.0 _ _ _ k.3 (subst (StopsReading threads input k.0) is stops.0) (λ end. stops.1 (is ∙ end)) (λ fault. stops.2 (is ∙ fault))
    (subst (StandsAtRefusal g.R.Read.remaining threads input c.keep_row.new.script) is stops.3) (omega (arith, below)) (c.at.ensures.row ∙ omega (arith, k.1))

pub loop-number-preserved : goal.loop-number-preserved
loop-number-preserved g c = λ threads input read kept.
    let k = c.loop-number.invariant threads input read kept in
    let below : length k.0 < row_limit = omega (arith, k.1, c.loop-number-test.true) in
    let next = c.in_default.ensures threads input k.0 k.2 k.3 below k.4 in
    (next.0 ∷ k.0, omega (arith, k.1), next.1, next.2, next.3)

pub returns : goal.returns
returns g c = λ threads input read kept.
    let k = c.loop-number.invariant threads input read kept in
    let all : length k.0 ≡ row_limit = omega (arith, k.1, c.loop-number-test.false) in
    let stops : StopsReading threads input k.0 c.match-next_row.stop = elim c.match-next_row.branch [
      | in-Ok w ↦ subst (StopsReading threads input k.0) (sym w.stop-is) (beyond g.R.Read.remaining threads input k.0 c.next_row.new.self (fields_of c.next_row.new.self.row) all (w.in-Ok.ensures input k.0 k.2))
      | in-Err-next_row w ↦ subst (StopsReading threads input k.0) (sym w.stop-is) (stops_reading _ threads input k.0 w.in-Err-next_row.stop (w.in-Err-next_row.ensures input k.0 k.2))
    ] in
    let fault : c.match-next_row.stop ≡ stop.ReadFault → reader_failed c.next_row.new.self ≡ true = elim c.match-next_row.branch [
      | in-Ok w ↦ (λ is. absurd (let bad : stop.Refused refusal.Rows ≡ stop.ReadFault = sym w.stop-is ∙ is in cc))
      | in-Err-next_row w ↦ (λ is. fault_failed _ input k.0 w.in-Err-next_row.stop (w.in-Err-next_row.ensures input k.0 k.2) (sym w.stop-is ∙ is))
    ] in
    let stands : StandsAtRefusal g.R.Read.remaining threads input c.next_row.new.self c.match-next_row.stop = elim c.match-next_row.branch [
      | in-Ok w ↦ (λ refusal is. beyond_read g.R.Read.remaining threads input k.0 c.next_row.new.self (fields_of c.next_row.new.self.row) k.3 all (w.in-Ok.ensures input k.0 k.2))
      | in-Err-next_row w ↦ (λ refusal is. none_refused g.R.Read.remaining threads _ input k.0 c.next_row.new.self w.in-Err-next_row.stop (w.in-Err-next_row.ensures input k.0 k.2) refusal (sym w.stop-is ∙ is))
    ] in
    let same = sym c.at-2.ensures.stop in
    ended g.R.Read.remaining threads _ input k.0 _ _ _ k.3 (subst (StopsReading threads input k.0) same stops) (λ end. k.4) (λ is. fault (same ∙ is))
    (subst (StandsAtRefusal g.R.Read.remaining threads input c.next_row.new.self) same stands) (omega (arith, all)) (c.at-2.ensures.row ∙ omega (arith, all))
