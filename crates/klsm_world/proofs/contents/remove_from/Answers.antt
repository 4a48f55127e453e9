use Rattle.std.proofs.Common.{◌≡◌, ◌∙◌, Some, None, subst}
use Rattle.std.specs.List.{position}
use Rattle.klsm_run.specs.ItemOrder.{is_same}
use Rattle.klsm_world.proofs.lemmas.lists.PlacingLemmas.{without_at, without_nowhere}
use Rattle.klsm_world.proofs.contents.remove_from.Goals as goal

pub returns-in-Some : goal.returns-in-Some
returns-in-Some g c =
    c.remove.ensures.items
    ∙ without_at c.args.item c.args.items.now.items c.in-Some.at (subst (λ xs. Some c.in-Some.at ≡ position (is_same c.args.item) xs) c.deref.ensures.value c.in-Some.ensures)

pub returns-in_default : goal.returns-in_default
returns-in_default g c =
    without_nowhere c.args.item c.args.items.now.items (subst (λ xs. None ≡ position (is_same c.args.item) xs) c.deref.ensures.value c.in_default.ensures)
