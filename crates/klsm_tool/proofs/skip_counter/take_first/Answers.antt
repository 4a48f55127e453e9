use Rattle.std.proofs.Common.{◌≡◌, Some, None, ap, rules, position}
use Rattle.klsm_run.specs.Content.{sorted}
use Rattle.klsm_run.specs.ItemOrder.{is_same}
use Rattle.klsm_tool.proofs.SkipCounterLemmas.{taken_first, taken_nowhere}
use Rattle.klsm_tool.proofs.skip_counter.take_first.Goals as goal

pub returns-in-Some : goal.returns-in-Some
returns-in-Some c =
    let items = c.args.items.now.items in
    let found : position (λ other. is_same c.args.item other) items ≡ Some c.in-Some.at = search rules in
    taken_first c.args.item c.in-Some.at c.swap_remove.result items c.swap_remove.new.self.items found c.swap_remove.ensures.value c.swap_remove.ensures.items

pub returns-in_default : goal.returns-in_default
returns-in_default c =
    let items = c.args.items.now.items in
    let none : position (λ other. is_same c.args.item other) items ≡ None = search rules in
    ap sorted (taken_nowhere c.args.item items none)
