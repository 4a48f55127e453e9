use Rattle.std.proofs.Common.{◌≡◌, length, sym, ◌∙◌, arith}
use Rattle.std.proofs.lemmas.Bool.Decides.{nat_tests}
use Rattle.std.proofs.lemmas.List.{nil_from_length}
use Rattle.klsm_tool.proofs.SkipCounterLemmas.{least_skips_none, least_taken}
use Rattle.klsm_tool.proofs.skip_counter.SkipCounter.takes_least.Goals as goal

pub returns-clause-skip : goal.returns-clause-skip
returns-clause-skip c taken =
    let apart = c.args.self.now.apart.items in
    let is = sym c.is_empty.ensures ∙ c.if-not-is_empty.false in
    let none : length apart ≡ 0 = grind (arith, nat_tests) in
    least_skips_none c.args.item c.args.self.now.ascending.keys apart (c.takes_first.ensures.least taken) (nil_from_length apart none)

pub returns-clause-taken : goal.returns-clause-taken
returns-clause-taken c taken = least_taken c.args.item c.args.self.now.ascending.keys c.takes_first.new.items.keys c.args.self.now.apart.items (c.takes_first.ensures.taken taken)
