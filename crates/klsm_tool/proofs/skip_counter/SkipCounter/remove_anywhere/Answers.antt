use Rattle.std.proofs.Common.{sym, rules, ◌∙◌, ◌≡◌, subst}
use Rattle.klsm_run.specs.Content.{skipped}
use Rattle.klsm_tool.proofs.SkipCounterLemmas.{left_apart, left_by_set, skipped_by_both}
use Rattle.klsm_tool.proofs.skip_counter.SkipCounter.remove_anywhere.Goals as goal

pub returns-then-not-remove-clause-skip : goal.returns-then-not-remove-clause-skip
returns-then-not-remove-clause-skip c =
    let item = c.args.item in let apart = c.args.self.now.apart.items in
    let rest = subst (λ xs. c.count_smaller.result ≡ skipped xs item) c.deref.ensures.value c.count_smaller.ensures.skipped in
    skipped_by_both item c.args.self.now.ascending.keys apart c.smaller_in.result c.count_smaller.result c.smaller_in.ensures.skipped rest

pub returns-else-not-remove-clause-skip : goal.returns-else-not-remove-clause-skip
returns-else-not-remove-clause-skip c =
    let item = c.args.item in let apart = c.args.self.now.apart.items in
    let rest = subst (λ xs. c.count_smaller.result ≡ skipped xs item) c.deref.ensures.value c.count_smaller.ensures.skipped in
    skipped_by_both item c.args.self.now.ascending.keys apart c.smaller_in.result c.count_smaller.result c.smaller_in.ensures.skipped rest

pub returns-then-not-remove-clause-content : goal.returns-then-not-remove-clause-content
returns-then-not-remove-clause-content c =
    left_apart c.args.item c.args.self.now.ascending.keys c.remove.new.self.keys c.args.self.now.apart.items c.take_first.new.items.items
    (sym c.remove.ensures.test ∙ search rules) (search rules) c.take_first.ensures

pub returns-else-not-remove-clause-content : goal.returns-else-not-remove-clause-content
returns-else-not-remove-clause-content c =
    left_by_set c.args.item c.args.self.now.ascending.keys c.remove.new.self.keys c.args.self.now.apart.items
    (sym c.remove.ensures.test ∙ search rules) c.remove.ensures.keys
