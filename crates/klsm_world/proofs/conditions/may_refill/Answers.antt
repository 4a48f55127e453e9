use Rattle.std.proofs.Common.{◌≡◌, ◌≢◌, ◌+◌, ◌∙◌, [], true, false, length, ap, eq-eqb}
use Rattle.std.proofs.lemmas.Bool.{leb-true, le-leb}
use Rattle.klsm_run.specs.Content.{IsAscending}
use Rattle.klsm_parts.specs.Events.{IsWithin}
use Rattle.klsm_world.proofs.conditions.may_refill.Goals as goal

pub returns : goal.returns
returns c =
    let own = c.args.own.now in let shared = c.args.shared.now in let moved = c.args.moved.now in
    let some : moved ≢ [] = λ empty.
    let bad : false ≡ true = c.if-is_empty.ensures ∙ eq-eqb (length moved) 0 (ap length empty) in cc in
    let up : IsAscending moved = c.is_ascending.ensures.0 c.if-not-is_ascending.false in
    let within : IsWithin moved shared = c.are_within.ensures.0 c.if-not-are_within.false in (
      λ fits. record { some = some; ascending = up; within = within; room = leb-true (length own + length moved) c.args.k fits },
      λ may. le-leb (length own + length moved) c.args.k may.room,
    )
