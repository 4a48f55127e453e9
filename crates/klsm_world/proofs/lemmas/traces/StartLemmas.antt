-- What a new world is refused for, and the run that begins with it.
use Rattle.std.proofs.Common.{◌≡◌, ◌≢◌, ◌⊎◌, ◌↔◌, ℕ, ◌<◌, ◌≤◌, List, Result, Ok, Err, refl, sym, ◌∙◌, subst, inl, inr, arith}
use Rattle.std.specs.Result.{IfErr, IsErrAnd}
use Rattle.std.proofs.lemmas.Bool.{cases_lt}
use Rattle.klsm_world.specs.declared.world.TheConstants.{WORLD_K, WORLD_THREADS}
use Rattle.klsm_world.specs.declared.errors.StepError.{StepError}
use Rattle.klsm_world.specs.declared.errors.WorldError.{WorldError}
use Rattle.klsm_world.specs.declared.errors.WorldError.TheVariants.{BadThreads, BadK, NoMemory, At}
use Rattle.klsm_schedules.specs.declared.step.Step.{Step}
use Rattle.klsm_world.specs.WorldView.{AreLimits}
use Rattle.klsm_world.specs.Traces.{RefusesRun}
use Rattle.klsm_schedules.specs.Worlds.{Limits}

abbrev pub AreBadThreads : Limits → Type 0
AreBadThreads limits = (limits.threads ≡ 0) ⊎ (WORLD_THREADS < limits.threads)

abbrev pub IsBadK : Limits → Type 0
IsBadK limits = (1 ≤ limits.threads) × (limits.threads ≤ WORLD_THREADS) × (WORLD_K < limits.k)

pub some_thread : (limits : Limits) → (limits.threads ≡ 0 → ⊥) → 1 ≤ limits.threads
some_thread limits some = elim (cases_lt limits.threads 1) [ inl none ↦ absurd (some (omega (arith, none))) | inr one ↦ one ]

pub are_threads : (limits : Limits) → (limits.threads ≡ 0 → ⊥) → limits.threads ≤ WORLD_THREADS → AreBadThreads limits → ⊥
are_threads limits some most (inl none) = absurd (some none)
are_threads limits some most (inr many) = omega (arith, most, many)

pub is_k : (limits : Limits) → limits.k ≤ WORLD_K → IsBadK limits → ⊥
is_k limits most bad = omega (arith, most, bad.2)

pub are_limits : (limits : Limits) → (AreBadThreads limits → ⊥) → (IsBadK limits → ⊥) → AreLimits limits
are_limits limits threads k =
    let some = some_thread limits (λ none. threads (inl none)) in
    let most : limits.threads ≤ WORLD_THREADS = elim (cases_lt WORLD_THREADS limits.threads) [ inl many ↦ absurd (threads (inr many)) | inr few ↦ few ] in
    record {
      some_threads = some;
      at_most = most;
      k_in_range = elim (cases_lt WORLD_K limits.k) [ inl many ↦ absurd (k (some, most, many)) | inr few ↦ few ];
    }

-- the causes differ
pub k_is_not_threads : BadK ≢ BadThreads
k_is_not_threads same = cc

pub memory_is_not_threads : NoMemory ≢ BadThreads
memory_is_not_threads same = cc

pub memory_is_not_k : NoMemory ≢ BadK
memory_is_not_k same = cc

-- what is refused for want of memory is refused for nothing else
pub only_memory : {T Bad : Type 0} (result : Result T WorldError) (why other : WorldError) → NoMemory ≢ other → IsErrAnd result (λ error. error ≡ why)
    → why ≡ NoMemory → (Bad → ⊥) → IsErrAnd result (λ error. error ≡ other) ↔ Bad
only_memory (Ok done) why other differs refused lacks fine = (λ is. absurd refused, λ bad. absurd (fine bad))
only_memory (Err error) why other differs refused lacks fine = (λ is. absurd (differs (sym (refused ∙ lacks) ∙ is)), λ bad. absurd (fine bad))

pub run_lacks_memory : {T : Type 0} (limits : Limits) (steps : List Step) (result : Result T WorldError) (why : WorldError)
    → IsErrAnd result (λ error. error ≡ why) → why ≡ NoMemory → AreLimits limits → IfErr result (RefusesRun limits steps)
run_lacks_memory limits steps (Ok done) why refused lacks are = absurd refused
run_lacks_memory limits steps (Err error) why refused lacks are = subst (RefusesRun limits steps) (sym (refused ∙ lacks)) are

start_refused : (limits : Limits) (steps : List Step) (why : WorldError) → (why ≡ BadThreads) ↔ AreBadThreads limits → (why ≡ BadK) ↔ IsBadK limits
    → ((at : ℕ) (error : StepError) → why ≢ At at error) → RefusesRun limits steps why
start_refused limits steps BadThreads threads k no_step = threads.0 refl
start_refused limits steps BadK threads k no_step = k.0 refl
start_refused limits steps NoMemory threads k no_step =
    are_limits limits (λ bad. let same : NoMemory ≡ BadThreads = threads.1 bad in cc) (λ bad. let same : NoMemory ≡ BadK = k.1 bad in cc)
start_refused limits steps (At at error) threads k no_step = absurd (no_step at error refl)

-- a run is refused as its first world is
pub run_not_started : {T : Type 0} (limits : Limits) (steps : List Step) (result : Result T WorldError) (why : WorldError) → IsErrAnd result (λ error. error ≡ why)
    → (why ≡ BadThreads) ↔ AreBadThreads limits → (why ≡ BadK) ↔ IsBadK limits → ((at : ℕ) (error : StepError) → why ≢ At at error)
    → IfErr result (RefusesRun limits steps)
run_not_started limits steps (Ok done) why refused threads k no_step = absurd refused
run_not_started limits steps (Err error) why refused threads k no_step = subst (RefusesRun limits steps) (sym refused) (start_refused limits steps why threads k no_step)
