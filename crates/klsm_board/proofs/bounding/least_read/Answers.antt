use Rattle.std.proofs.Common.{◌≤◌, sym, ◌∙◌, arith}
use Rattle.klsm_board.proofs.lemmas.calls.ReadingLemmas.{front_with, front_without}
use Rattle.klsm_board.proofs.bounding.least_read.Goals as goal

pub returns-in-Some : goal.returns-in-Some
returns-in-Some c read found is least =
    let fits : c.in-Some.item.key ≤ 18446744073709551615 = omega arith in
    c.min.ensures ∙ front_with c.args.key read found c.in-Some.item fits is (sym c.in-Some.is ∙ least)

pub returns-in-None : goal.returns-in-None
returns-in-None c read found is least = front_without c.args.key read found is (sym c.in-None.is ∙ least)
