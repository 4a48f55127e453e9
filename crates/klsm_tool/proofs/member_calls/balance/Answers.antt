use Rattle.std.proofs.Common.{◌≡◌, ◌∙◌, ℕ, Bool, List, Option, Some, Result, Ok, Err, inl, inr, refl, sym, ap, subst}
use Rattle.std.specs.Prelude.{IfOk, IfErr}
use Rattle.klsm_schedules.specs.declared.step.Entry.{Entry}
use Rattle.klsm_board.specs.declared.balancing.TheConstants.{MOST_BALANCED}
use Rattle.klsm_board.specs.declared.errors.Busy.{Busy}
use Rattle.klsm_board.specs.declared.sizes.Sizes.{Sizes}
use Rattle.klsm_board.specs.Balancing.{HasBalanced, after_turn, victim_now}
use Rattle.klsm_board.specs.Boards.{own_steps}
use Rattle.klsm_board.specs.Inserting.{MissesOwn}
use Rattle.klsm_board.specs.Stealing.{Balances}
use Rattle.klsm_tool.proofs.member_calls.balance.Goals as goal

-- whatever a balance answers
balanced : (m : Sizes) (t victim : ℕ) (es es' : List Entry) (result : Result Bool Busy) → IfOk result (Balances m t MOST_BALANCED victim es es') → IfErr result (MissesOwn t es es') → HasBalanced m t (Some victim) es es'
balanced m t victim es es' (Ok moves) ok err = inl (moves, ok)
balanced m t victim es es' (Err busy) ok err = inr (busy, err)

pub returns-in_default-clause-balances : goal.returns-in_default-clause-balances
returns-in_default-clause-balances g c =
    let me = c.args.member.now in let b = c.args.balancing.now in let threads = c.threads.ensures.threads ∙ sym (ap (λ (z : Sizes). z.threads) c.requires.of.1) in
    let same : victim_now b c.number.result c.threads.result ≡ victim_now b me.number me.sizes.threads = λ i. victim_now b (c.number.ensures.number i) (threads i) in
    subst (λ (v : Option ℕ). HasBalanced me.sizes me.number v (own_steps me) (own_steps me)) (c.in_default.ensures.victim ∙ same) refl

pub returns-in_default-clause-turn : goal.returns-in_default-clause-turn
returns-in_default-clause-turn g c =
    let threads = c.threads.ensures.threads ∙ sym (ap (λ (z : Sizes). z.threads) c.requires.of.1) in
    c.in_default.ensures.turn ∙ ap (after_turn c.args.balancing.now) threads

pub returns-clause-balances : goal.returns-clause-balances
returns-clause-balances g c =
    let me = c.args.member.now in let b = c.args.balancing.now in let threads = c.threads.ensures.threads ∙ sym (ap (λ (z : Sizes). z.threads) c.requires.of.1) in
    let same : victim_now b c.number.result c.threads.result ≡ victim_now b me.number me.sizes.threads = λ i. victim_now b (c.number.ensures.number i) (threads i) in
    let after = c.try_balance-moved.new.self in let told = c.try_balance-moved.ensures in
    subst (λ (v : Option ℕ). HasBalanced me.sizes me.number v (own_steps me) (own_steps after)) (c.in-Some.ensures.victim ∙ same)
    (balanced me.sizes me.number c.in-Some.victim (own_steps me) (own_steps after) c.try_balance-moved.result told.ok told.busy)

pub returns-clause-turn : goal.returns-clause-turn
returns-clause-turn g c =
    let threads = c.threads.ensures.threads ∙ sym (ap (λ (z : Sizes). z.threads) c.requires.of.1) in
    c.in-Some.ensures.turn ∙ ap (after_turn c.args.balancing.now) threads
