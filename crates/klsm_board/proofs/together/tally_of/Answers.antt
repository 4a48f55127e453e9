use Rattle.std.proofs.Common.{◌≡◌, ◌+◌, List, ℕ, length, sym, subst, arith}
use Rattle.klsm_run.specs.declared.limits.TheConstants.{MOST_THREADS}
use Rattle.klsm_board.specs.Knowing.{AreCounted}
use Rattle.klsm_board.proofs.lemmas.ending.WholeLemmas.{one_more_counted}
use Rattle.klsm_board.proofs.together.tally_of.Goals as goal

pub loop-number-preserved : goal.loop-number-preserved
loop-number-preserved g c =
    let found = c.in-Some.ensures.found in let n = c.loop-number.number in let counts = c.in-Some.counts in let tally = c.loop-number.tally in let noted = c.note.ensures in
    let inside : length tally.inserted ≡ MOST_THREADS = tally.sized.0 in let inside' : length tally.deleted ≡ MOST_THREADS = tally.sized.1 in
    subst (λ (z : List ℕ × List ℕ). AreCounted c.args.members.now (n + 1) z.0 z.1) (λ i. (sym noted.inserted i, sym noted.deleted i))
    (one_more_counted c.args.members.now n tally.inserted tally.deleted counts.inserted counts.deleted (omega (arith, inside)) (omega (arith, inside')) c.loop-number.invariant found.0 found.1 found.2)
