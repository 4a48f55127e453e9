use Rattle.std.proofs.Common.{rules, ◌∙◌, ◌≡◌, ◌≤◌, ◌/◌, length, drop, ap}
use Rattle.std.proofs.lemmas.List.{take_rest}
use Rattle.klsm_run.specs.Content.{IsAscending}
use Rattle.klsm_run.proofs.HalfLemmas.{ascending_drop}
use Rattle.klsm_run.proofs.StoreLemmas.{fixed_in_room, others_in_room}
use Rattle.klsm_run.proofs.fixed_run.FixedRun.upper_half.Goals as goal

pub set-requires : goal.set-requires
set-requires g c =
    let up : IsAscending c.of-items.result.now = rw (c.of-items.ensures, c.as_slice.ensures.value) c.self.invariant.ascending in
    let few : length c.of-items.result.now ≤ g.row.CAP = rw (c.of-items.ensures, c.as_slice.ensures.value) (fixed_in_room c.self.invariant) in
    (search rules, rw take_rest (ascending_drop _ _ up, others_in_room _ _ _ few))

pub returns : goal.returns
returns g c =
    let all : c.of-items.result.now ≡ c.args.self.now = c.of-items.ensures ∙ rw c.as_slice.ensures.value c.self.view_is in
    rw (c.set.ensures, take_rest) (ap (λ xs. drop (length xs / 2) xs) all)
