use Rattle.std.proofs.Common.{rules, ◌∙◌, ◌≡◌, ◌≤◌, ◌/◌, length, take, ap}
use Rattle.klsm_run.specs.Content.{IsAscending}
use Rattle.klsm_run.proofs.HalfLemmas.{ascending_take}
use Rattle.klsm_run.proofs.StoreLemmas.{fixed_in_room, first_in_room}
use Rattle.klsm_run.proofs.fixed_run.FixedRun.lower_half.Goals as goal

pub set-requires : goal.set-requires
set-requires g c =
    let up : IsAscending c.of-items.result.now = rw (c.of-items.ensures, c.as_slice.ensures.value) c.self.invariant.ascending in
    let few : length c.of-items.result.now ≤ g.row.CAP = rw (c.of-items.ensures, c.as_slice.ensures.value) (fixed_in_room c.self.invariant) in
    (search rules, (ascending_take _ _ up, first_in_room _ _ _ few))

pub returns : goal.returns
returns g c =
    let all : c.of-items.result.now ≡ c.args.self.now = c.of-items.ensures ∙ rw c.as_slice.ensures.value c.self.view_is in
    c.set.ensures ∙ ap (λ xs. take (length xs / 2) xs) all
