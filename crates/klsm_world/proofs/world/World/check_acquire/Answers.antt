use Rattle.std.proofs.Common.{◌≡◌, ◌+◌, arith, rules, sym, ◌∙◌}
use Rattle.klsm_world.proofs.world.World.check_acquire.Goals as goal

pub returns-in-Some-clause-refused : goal.returns-in-Some-clause-refused
returns-in-Some-clause-refused g c =
    let held : c.word.result ≡ c.in-Some.by + 1 = omega (arith, c.in-Some.ensures) in
    (c.requires, sym c.word.ensures ∙ held)

pub returns-in-None-clause-legal : goal.returns-in-None-clause-legal
returns-in-None-clause-legal g c =
    let free : c.word.result ≡ 0 = omega (arith, c.in-None.ensures) in
    record { thread = search (rules, c.requires); part = search (rules, c.requires); free = sym c.word.ensures ∙ free }
