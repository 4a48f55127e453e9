use Rattle.std.proofs.Common.{◌≡◌, ◌<◌, ◌≤◌, ◌⊎◌, ◌↔◌, inl, inr, ℕ, List, Result, Ok, Err, IfOk, IfErr, refl, ap, subst, arith}
use Rattle.std.specs.Prelude.{IsErrAnd}
use Rattle.klsm_run.specs.declared.limits.TheConstants.{MOST_THREADS, PROGRAM_K, PROGRAM_LEVELS}
use Rattle.klsm_instance.specs.declared.search.Best.{Best}
use Rattle.klsm_schedules.specs.declared.step.Entry.{Entry}
use Rattle.klsm_knapsack.specs.declared.options.SearchOptions.{SearchOptions}
use Rattle.klsm_knapsack.specs.Searches.{HasSearched}
use Rattle.klsm_knapsack.specs.declared.errors.UnsolvedError.{UnsolvedError}
use Rattle.klsm_knapsack.specs.declared.errors.UnsolvedError.TheVariants.{BadThreads, BadK, BadRefill, NoMemory}
use Rattle.klsm_tool.proofs.knapsack.solve_heard.Goals as goal

-- where all options are in range it is memory that is wanted
only_memory : (threads k refill : ℕ) (r : Result Best UnsolvedError) → (IsErrAnd r (λ why. why ≡ BadThreads) ↔ ((threads ≡ 0) ⊎ (MOST_THREADS < threads))) → (IsErrAnd r (λ why. why ≡ BadK) ↔ ((1 ≤ threads) × (threads ≤ MOST_THREADS) × (PROGRAM_K < k)))
    → (IsErrAnd r (λ why. why ≡ BadRefill) ↔ ((1 ≤ threads) × (threads ≤ MOST_THREADS) × (k ≤ PROGRAM_K) × (k < refill))) → refill ≤ k → 1 ≤ threads → threads ≤ MOST_THREADS → k ≤ PROGRAM_K → IfErr r (λ why. why ≡ NoMemory)
only_memory threads k refill (Ok best) bad_threads bad_k bad_refill within some few small = tt
only_memory threads k refill (Err BadThreads) bad_threads bad_k bad_refill within some few small = outside (bad_threads.0 refl)
  where
    outside : (threads ≡ 0) ⊎ (MOST_THREADS < threads) → BadThreads ≡ NoMemory
    outside (inl none) = absurd (omega (arith, none, some))
    outside (inr many) = absurd (omega (arith, many, few))
only_memory threads k refill (Err BadK) bad_threads bad_k bad_refill within some few small = let bad = bad_k.0 refl in absurd (omega (arith, bad.2, small))
only_memory threads k refill (Err BadRefill) bad_threads bad_k bad_refill within some few small = let bad = bad_refill.0 refl in absurd (omega (arith, bad.3, within))
only_memory threads k refill (Err NoMemory) bad_threads bad_k bad_refill within some few small = refl

pub returns-clause-memory : goal.returns-clause-memory
returns-clause-memory g c = λ some few small.
    let told = c.solve_to_the_end-answer.ensures in let options = c.new-options.ensures in
    let threads = ap (λ o. o.threads) options in let k = ap (λ o. o.k) options in let refill = ap (λ o. o.refill) options in
    only_memory c.new-options.result.threads c.new-options.result.k c.new-options.result.refill c.solve_to_the_end-answer.result told.bad_threads told.bad_k told.bad_refill
    (omega (arith, k, refill)) (omega (arith, threads, some)) (omega (arith, threads, few)) (omega (arith, k, small))

pub returns-clause-ran : goal.returns-clause-ran
returns-clause-ran g c =
    subst (λ (options : SearchOptions). IfOk c.solve_to_the_end-answer.result (λ best. (lists : List (List Entry)) × HasSearched PROGRAM_LEVELS options lists)) c.new-options.ensures c.solve_to_the_end-answer.ensures.ran
