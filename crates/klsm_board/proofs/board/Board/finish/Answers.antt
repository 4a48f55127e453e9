use Rattle.std.proofs.Common.{rules, ap, subst, ◌∙◌, ℕ, List, length, arith}
use Rattle.std.specs.List.{flat_map}
use Rattle.klsm_schedules.specs.OwnSteps.{inserted, deleted}
use Rattle.klsm_board.specs.declared.board.Member.{Member}
use Rattle.klsm_board.specs.declared.errors.FinishError.{FinishError}
use Rattle.klsm_board.specs.declared.errors.FinishError.TheVariants.{Missing, NoMemory}
use Rattle.klsm_board.specs.Finishing.{AreAll, IsLeastAbsent, lists_of}
use Rattle.klsm_board.proofs.lemmas.ending.EndLemmas.{least_is_one}
use Rattle.klsm_board.proofs.board.Board.finish.Goals as goal

abbrev number_in : FinishError → ℕ
number_in (Missing number) = number
number_in NoMemory = 0

pub returns-in-Err-clause-missing : goal.returns-in-Err-clause-missing
returns-in-Err-clause-missing g c = λ number.
    let members = c.args.members.items in let threads = c.args.self.sizes.threads in let least = subst (λ (z : List (Member g.row.CAP g.row.LEVELS)). IsLeastAbsent z threads c.in-Err.number) c.as_slice.ensures.value c.in-Err.ensures.missing in
    (λ same. subst (IsLeastAbsent members threads) (ap number_in same) least, λ other. ap Missing (least_is_one members threads c.in-Err.number number least other))

pub returns-in_default-clause-missing : goal.returns-in_default-clause-missing
returns-in_default-clause-missing g c = λ number.
    let all = subst (λ (z : List (Member g.row.CAP g.row.LEVELS)). AreAll z c.args.self.sizes.threads) c.as_slice.ensures.value c.in-Ok.ensures.ok.0 in
    (λ same. cc, λ least. absurd (least.1 (all number least.0)))

pub returns-clause-missing : goal.returns-clause-missing
returns-clause-missing g c = λ number.
    let all = subst (λ (z : List (Member g.row.CAP g.row.LEVELS)). AreAll z c.args.self.sizes.threads) c.as_slice.ensures.value c.in-Ok.ensures.ok.0 in
    (λ never. absurd never, λ least. least.1 (all number least.0))

pub close-requires : goal.close-requires
close-requires g c =
    let board = c.args.self in let threads = board.sizes.threads in let outcome = c.in-Ok.ensures.ok in let same = c.as_slice.ensures.value in
    let all = subst (λ (z : List (Member g.row.CAP g.row.LEVELS)). AreAll z threads) same outcome.0 in
    let insertions = outcome.1 ∙ ap (λ (z : List (Member g.row.CAP g.row.LEVELS)). length (flat_map inserted (lists_of threads z))) same in
    let deletions = outcome.2 ∙ ap (λ (z : List (Member g.row.CAP g.row.LEVELS)). length (flat_map deleted (lists_of threads z))) same in
    let count = c.saturating_sub-count.ensures in let made = c.in-Ok-with_capacity.ensures in let room = made.capacity in
    (search rules, (search rules, (c.requires, (all, (insertions, (deletions, (made.items, omega (arith, count, room))))))))

pub returns-clause-ok : goal.returns-clause-ok
returns-clause-ok g c =
    let all = subst (λ (z : List (Member g.row.CAP g.row.LEVELS)). AreAll z c.args.self.sizes.threads) c.as_slice.ensures.value c.in-Ok.ensures.ok.0 in
    let outcome = c.close.ensures in
    (all, outcome.at_end, outcome.inserted, outcome.deleted, outcome.left)
