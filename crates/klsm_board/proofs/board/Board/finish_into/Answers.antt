use Rattle.std.proofs.Common.{rules, ap, subst, refl, ◌∙◌, List, length, arith}
use Rattle.std.specs.List.{flat_map}
use Rattle.klsm_schedules.specs.OwnSteps.{inserted, deleted}
use Rattle.klsm_board.specs.declared.board.Member.{Member}
use Rattle.klsm_board.specs.Finishing.{AreAll, IsLeastAbsent, lists_of}
use Rattle.klsm_board.proofs.board.Board.finish_into.Goals as goal

pub close-requires : goal.close-requires
close-requires g c =
    let board = c.args.self in let threads = board.sizes.threads in let outcome = c.in-Ok.ensures.ok in let same = c.as_slice.ensures.value in
    let all = subst (λ (z : List (Member g.row.CAP g.row.LEVELS)). AreAll z threads) same outcome.0 in
    let insertions = outcome.1 ∙ ap (λ (z : List (Member g.row.CAP g.row.LEVELS)). length (flat_map inserted (lists_of threads z))) same in
    let deletions = outcome.2 ∙ ap (λ (z : List (Member g.row.CAP g.row.LEVELS)). length (flat_map deleted (lists_of threads z))) same in
    let room = c.requires.room in
    (search rules, (search rules, (c.requires.of, (all, (insertions, (deletions, (c.requires.empty, omega (arith, room, insertions, deletions))))))))

pub returns-in-Ok-clause-ok : goal.returns-in-Ok-clause-ok
returns-in-Ok-clause-ok g c =
    let all = subst (λ (z : List (Member g.row.CAP g.row.LEVELS)). AreAll z c.args.self.sizes.threads) c.as_slice.ensures.value c.in-Ok.ensures.ok.0 in
    let outcome = c.close.ensures in
    (all, outcome.at_end, outcome.inserted, outcome.deleted, outcome.left)

pub returns-in-Err-clause-missing : goal.returns-in-Err-clause-missing
returns-in-Err-clause-missing g c =
    (c.in-Err.number, refl, subst (λ (z : List (Member g.row.CAP g.row.LEVELS)). IsLeastAbsent z c.args.self.sizes.threads c.in-Err.number) c.as_slice.ensures.value c.in-Err.ensures.missing)
