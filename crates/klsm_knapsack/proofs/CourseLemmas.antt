-- How the calls of a member go on, one after another.
use Rattle.std.proofs.Common.{◌≡◌, ◌<◌, ℕ, zero, suc, List, [], ◌∷◌, length, get_or, set, All, sym, subst, arith}
use Rattle.klsm_schedules.specs.declared.step.Entry.{Entry}
use Rattle.klsm_board.specs.declared.sizes.Sizes.{Sizes}
use Rattle.klsm_board.specs.Boards.{own_steps}
use Rattle.klsm_parts.specs.Generators.{generator_of}
use Rattle.klsm_knapsack.specs.declared.search_state.Worker.{Worker}
use Rattle.klsm_knapsack.specs.Courses.{CallsOfWorker, IsOnCourse}
use Rattle.klsm_knapsack.specs.Workers.{GoesByItsSeed, GoesByItsSeedTo, HasNotBegun, IsSameWorker, KeepsCourse, KeepsCourseTo}

module _ {P : Type 0} (Calls : P → P → List Entry → List Entry → Type 0) (first : P) where
  -- a list without steps, and one call more
  pub no_calls : (picker : P) (es : List Entry) → picker ≡ first → es ≡ [] → IsOnCourse Calls first picker es
  no_calls picker es is none = record { calls = 0; made = (is, none) }

  pub one_call : (picker picker' : P) (es es' : List Entry) → IsOnCourse Calls first picker es → Calls picker picker' es es' → IsOnCourse Calls first picker' es'
  one_call picker picker' es es' on did = record { calls = suc on.calls; made = (picker, es, on.made, did) }

module _ {LEVELS : ℕ} where
  -- calls, and then further ones
  pub course_both : (before mid after : Worker LEVELS) → IsSameWorker before mid → KeepsCourse before mid → KeepsCourse mid after → KeepsCourse before after
  course_both before mid after same one two first on =
      subst (λ (z : Sizes × ℕ). IsOnCourse (CallsOfWorker LEVELS z.0 z.1) first after.picker (own_steps after.member)) (λ i. (same.member.1 i, same.member.0 i))
      (two first (subst (λ (z : Sizes × ℕ). IsOnCourse (CallsOfWorker LEVELS z.0 z.1) first mid.picker (own_steps mid.member)) (λ i. (sym same.member.1 i, sym same.member.0 i)) (one first on)))

  -- a worker that has not begun, and one that goes on
  new_goes : (w : Worker LEVELS) → HasNotBegun w → w.picker ≡ generator_of w.member.number → GoesByItsSeed w
  new_goes w new picker = no_calls (CallsOfWorker LEVELS w.member.sizes w.member.number) (generator_of w.member.number) w.picker (own_steps w.member) picker new.steps

  pub goes_on : (before after : Worker LEVELS) (es : List Entry) → IsSameWorker before after → KeepsCourseTo before after.picker es → GoesByItsSeed before → GoesByItsSeedTo after es
  goes_on before after es same keeps on =
      subst (λ (z : Sizes × ℕ). IsOnCourse (CallsOfWorker LEVELS z.0 z.1) (generator_of z.1) after.picker es) (λ i. (sym same.member.1 i, sym same.member.0 i)) (keeps (generator_of before.member.number) on)

  -- the first worker has begun
  pub begun_go : (crew : List (Worker LEVELS)) (d after : Worker LEVELS) → All HasNotBegun crew → All (λ (w : Worker LEVELS). w.picker ≡ generator_of w.member.number) crew → IsSameWorker (get_or crew 0 d) after → KeepsCourse (get_or crew 0 d) after → All GoesByItsSeed (set crew 0 after)
  begun_go [] d after new pickers same keeps = λ k e lt. absurd (omega (arith, lt))
  begun_go (w ∷ crew) d after new pickers same keeps = by_place
    where
      by_place : (k : ℕ) (e : Worker LEVELS) → k < length (after ∷ crew) → GoesByItsSeed (get_or (after ∷ crew) k e)
      by_place zero e lt = goes_on w after (own_steps after.member) same keeps (new_goes w (new 0 e lt) (pickers 0 e lt))
      by_place (suc k) e lt = new_goes (get_or crew k e) (new (suc k) e lt) (pickers (suc k) e lt)
