use Rattle.std.proofs.Common.{rules, ◌∙◌, ◌≤◌, length}
use Rattle.klsm_run.specs.Content.{IsAscending}
use Rattle.klsm_run.proofs.StoreLemmas.{fixed_in_room}
use Rattle.klsm_run.proofs.fixed_run.FixedRunRun.copy_for.Goals as goal

pub set-requires : goal.set-requires
set-requires g c =
    let up : IsAscending c.of-items.result.now = rw (c.of-items.ensures, c.as_slice.ensures.value) c.self.invariant.ascending in
    let few : length c.of-items.result.now ≤ g.row.CAP = rw (c.of-items.ensures, c.as_slice.ensures.value) (fixed_in_room c.self.invariant) in
    (search rules, (up, few))

pub returns-clause-fixed : goal.returns-clause-fixed
returns-clause-fixed g c = search rules

pub returns-clause-items : goal.returns-clause-items
returns-clause-items g c = c.set.ensures ∙ (c.of-items.ensures ∙ rw c.as_slice.ensures.value c.self.view_is)
