use Rattle.klsm_run.proofs.ShiftLemmas.{shift_up, shift_down, get_spanned}
use Rattle.klsm_run.proofs.span.Span.remove_at.Goals as goal

pub returns-then-index-self-clause-item : goal.returns-then-index-self-clause-item
returns-then-index-self-clause-item c = get_spanned _ _ _ _ _ c.requires.index c.requires.within.within

pub returns-then-index-self-clause-rest : goal.returns-then-index-self-clause-rest
returns-then-index-self-clause-rest c = rw c.copy_within.ensures.after (shift_up _ _ _ _ c.requires.index c.requires.within.within)

pub returns-else-index-self-clause-item : goal.returns-else-index-self-clause-item
returns-else-index-self-clause-item c = get_spanned _ _ _ _ _ c.requires.index c.requires.within.within

pub returns-else-index-self-clause-rest : goal.returns-else-index-self-clause-rest
returns-else-index-self-clause-rest c = rw c.copy_within-else-index-self.ensures.after (shift_down _ _ _ _ c.requires.index c.requires.within.within)
