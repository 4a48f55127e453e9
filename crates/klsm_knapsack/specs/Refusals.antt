-- Why a search ends without an answer.
use Rattle.std.specs.Prelude.{ℕ, ◌≡◌, ◌<◌, ◌≤◌, ◌⊎◌}
use Rattle.klsm_run.specs.declared.limits.TheConstants.{MOST_THREADS, PROGRAM_K, PROGRAM_THREADS}
use Rattle.klsm_board.specs.Members.{sizes_of}
use Rattle.klsm_knapsack.specs.declared.errors.Refusal.{Refusal}
use Rattle.klsm_knapsack.specs.declared.errors.Refusal.TheVariants as refusal
use Rattle.klsm_knapsack.specs.declared.errors.SearchError.{SearchError}
use Rattle.klsm_knapsack.specs.declared.errors.SolveError.{SolveError}
use Rattle.klsm_knapsack.specs.declared.errors.SolveError.TheVariants as solve_error
use Rattle.klsm_knapsack.specs.declared.errors.SearchError.TheVariants.{BadThreads, BadK, BadRefill, Full, NoMemory}
use Rattle.klsm_knapsack.specs.Ends.{IsLeastRefusal}

abbrev pub error_of : Refusal → SearchError
error_of refusal.Full = Full
error_of refusal.NoMemory = NoMemory

-- A search whose deletions move so many nodes is refused for this reason. Memory may also be wanted by what
-- the caller makes for all.
abbrev pub RefusesSearch : ℕ → ℕ → ℕ → ℕ → SearchError → Type 0
RefusesSearch levels threads k refill BadThreads = (threads ≡ 0) ⊎ (MOST_THREADS < threads)
RefusesSearch levels threads k refill BadK = (1 ≤ threads) × (threads ≤ MOST_THREADS) × (PROGRAM_K < k)
RefusesSearch levels threads k refill BadRefill =
    (1 ≤ threads) × (threads ≤ MOST_THREADS) × (k ≤ PROGRAM_K) × (k < refill)
RefusesSearch levels threads k refill Full = IsLeastRefusal levels (sizes_of threads k) refusal.Full
RefusesSearch levels threads k refill NoMemory = (1 ≤ threads) × (threads ≤ MOST_THREADS) × (k ≤ PROGRAM_K)

-- the same of a search by at most 16 workers, whose error has no refill
abbrev pub RefusesSolve : ℕ → ℕ → ℕ → SolveError → Type 0
RefusesSolve levels threads k solve_error.BadThreads = (threads ≡ 0) ⊎ (PROGRAM_THREADS < threads)
RefusesSolve levels threads k solve_error.BadK = (1 ≤ threads) × (threads ≤ PROGRAM_THREADS) × (PROGRAM_K < k)
RefusesSolve levels threads k solve_error.Full = IsLeastRefusal levels (sizes_of threads k) refusal.Full
RefusesSolve levels threads k solve_error.NoMemory = (1 ≤ threads) × (threads ≤ PROGRAM_THREADS) × (k ≤ PROGRAM_K)
