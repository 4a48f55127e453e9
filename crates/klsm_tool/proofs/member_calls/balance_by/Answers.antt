use Rattle.std.proofs.Common.{[], ℕ, Option, Some, refl, sym, ap, subst, ◌∙◌, append-nil, arith}
use Rattle.klsm_board.specs.declared.sizes.Sizes.{Sizes}
use Rattle.klsm_board.specs.declared.balancing.TheConstants.{MOST_BALANCED}
use Rattle.klsm_board.specs.Balancing.{after_turn, victim_now}
use Rattle.klsm_board.specs.Stealing.{Balances}
use Rattle.klsm_board.specs.Together.{all_lists, steps_for}
use Rattle.klsm_tool.specs.Courses.{BalancesWith}
use Rattle.klsm_tool.proofs.AllLemmas.{all_go, goes_nowhere}
use Rattle.klsm_tool.proofs.ShownLemmas.{balanced_in_one_hand_shows}
use Rattle.klsm_tool.proofs.member_calls.balance_by.Goals as goal

pub returns-in_default-clause-goes : goal.returns-in_default-clause-goes
returns-in_default-clause-goes c = goes_nowhere c.args.thread (all_lists c.args.all.now)

pub returns-in_default-clause-balances : goal.returns-in_default-clause-balances
returns-in_default-clause-balances c =
    let m = c.args.board.now.sizes in let t = c.args.thread in let es = steps_for c.args.all.now t in
    subst (λ (v : Option ℕ). BalancesWith m t v es es) (c.in_default.ensures.victim ∙ ap (victim_now c.args.balancing.now t) c.threads.ensures.threads) refl

pub returns-in_default-clause-turn : goal.returns-in_default-clause-turn
returns-in_default-clause-turn c = c.in_default.ensures.turn ∙ ap (after_turn c.args.balancing.now) c.threads.ensures.threads

pub returns-clause-goes : goal.returns-clause-goes
returns-clause-goes c =
    let all = c.args.all.now in let after = c.balance-moved.new.self in let t = c.args.thread in let told = c.balance-moved.ensures in
    let threads = ap (λ (z : Sizes). z.threads) c.requires.of.1 in
    let quiet = balanced_in_one_hand_shows all.acting.sizes t (Some c.in-Some.victim) (steps_for all t) (steps_for after t) (c.balance-moved.result, told.ok) in
    all_go all after t told.same (omega (arith, c.requires.thread, threads)) [] (quiet ∙ sym (append-nil _)) told.left (omega (arith, told.counts))

pub returns-clause-balances : goal.returns-clause-balances
returns-clause-balances c =
    let m = c.args.board.now.sizes in let t = c.args.thread in let es = steps_for c.args.all.now t in let es' = steps_for c.balance-moved.new.self t in let moves = c.balance-moved.result in
    subst (λ (v : Option ℕ). BalancesWith m t v es es') (c.in-Some.ensures.victim ∙ ap (victim_now c.args.balancing.now t) c.threads.ensures.threads)
    (moves, subst (λ (z : Sizes). Balances z t MOST_BALANCED c.in-Some.victim es es' moves) c.requires.of.1 c.balance-moved.ensures.ok)

pub returns-clause-turn : goal.returns-clause-turn
returns-clause-turn c = c.in-Some.ensures.turn ∙ ap (after_turn c.args.balancing.now) c.threads.ensures.threads
