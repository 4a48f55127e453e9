use Rattle.std.proofs.Common.{ℕ, ◌≤◌, subst}
use Rattle.klsm_run.specs.Capacity.{heap_room}
use Rattle.klsm_lsm.specs.Limit.{limit_of}
use Rattle.klsm_pile.proofs.PileLemmas.{pile_length, pile_lawful}
use Rattle.klsm_pile.proofs.pile.Pile.len.Goals as goal

pub returns-clause-len : goal.returns-clause-len
returns-clause-len g c = pile_length g.row.LEVELS _ _ _ _ _ _ _ c.self.invariant c.self.view_is

pub returns-clause-limit : goal.returns-clause-limit
returns-clause-limit g c = subst (λ (n : ℕ). n ≤ limit_of g.row.LEVELS heap_room) (pile_length g.row.LEVELS _ _ _ _ _ _ _ c.self.invariant c.self.view_is) c.self.invariant.limit

pub returns-clause-lawful : goal.returns-clause-lawful
returns-clause-lawful g c = pile_lawful g.row.LEVELS _ _ _ _ _ _ _ c.self.invariant c.self.view_is
