use Rattle.std.proofs.Common.{refl}
use Rattle.klsm_board.proofs.lemmas.calls.RefillLemmas.{refills_none}
use Rattle.klsm_board.proofs.taking.fetch_from.Goals as goal

pub returns-then-most-eq0-clause-done : goal.returns-then-most-eq0-clause-done
returns-then-most-eq0-clause-done g c k t suits =
    let content = g.S.Holding.content in
    (refills_none c.args.most k (content c.args.own.now) (content c.args.shared.now) c.if-most-eq0.true, refl)

pub returns-then-fetch-clause-done : goal.returns-then-fetch-clause-done
returns-then-fetch-clause-done g c k t suits = let did = c.if-fetch.ensures.done k t suits in (did.0, did.1, did.2, c.front.ensures)

pub returns-else-fetch-clause-done : goal.returns-else-fetch-clause-done
returns-else-fetch-clause-done g c k t suits = c.if-fetch.ensures.done k t suits
