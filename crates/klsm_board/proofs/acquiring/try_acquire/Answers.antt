use Rattle.std.proofs.Common.{ℕ, ◌≤◌, refl, arith}
use Rattle.klsm_run.specs.declared.limits.TheConstants.{MOST_THREADS}
use Rattle.klsm_board.proofs.lemmas.calls.TestLemmas.{where_zero, where_not_zero}
use Rattle.klsm_board.proofs.acquiring.try_acquire.Goals as goal

pub overflow_cast-result : goal.overflow_cast-result
overflow_cast-result g c =
    let k = c.requires.has in let seat = c.requires.seat in
    let outcome = where_not_zero _ _ c.acquire_part-found.result c.if-found-eq0.false (c.acquire_part-found.ensures.outcome k.0 k.1) in
    let threads : ℕ = c.args.table.now.key.threads in
    let within : c.acquire_part-found.result ≤ threads = outcome.2 in
    let few : threads ≤ MOST_THREADS = seat.1.2 in
    omega (arith, within, few)

pub returns-then-found-eq0-clause-ok : goal.returns-then-found-eq0-clause-ok
returns-then-found-eq0-clause-ok g c hand has =
    where_zero _ _ c.acquire_part-found.result c.if-found-eq0.true (c.acquire_part-found.ensures.outcome hand has)

pub returns-else-found-eq0-clause-busy : goal.returns-else-found-eq0-clause-busy
returns-else-found-eq0-clause-busy g c =
    let k = c.requires.has in
    let outcome = where_not_zero _ _ c.acquire_part-found.result c.if-found-eq0.false (c.acquire_part-found.ensures.outcome k.0 k.1) in
    (refl, (λ hand has. (where_not_zero _ _ c.acquire_part-found.result c.if-found-eq0.false (c.acquire_part-found.ensures.outcome hand has)).0), outcome.1)

pub returns-else-found-eq0-clause-holder : goal.returns-else-found-eq0-clause-holder
returns-else-found-eq0-clause-holder g c = c.acquire_part-found.ensures.holder c.if-found-eq0.false
