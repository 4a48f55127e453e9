-- How a worker ran, by what its work and then the sharing of its items tell.
use Rattle.std.proofs.Common.{◌≡◌, ℕ, List, Option, None, Result, Ok, Err, IfOk, IfErr, IfSome, MatchOption, inl, inr, sym, ◌∙◌, subst}
use Rattle.std.specs.Result.{result_err}
use Rattle.std.proofs.lemmas.Option.{none-some}
use Rattle.klsm_schedules.specs.declared.step.Entry.{Entry}
use Rattle.klsm_board.specs.declared.errors.ShareError.{ShareError}
use Rattle.klsm_board.specs.declared.sizes.Sizes.{Sizes}
use Rattle.klsm_board.specs.Boards.{IsSame, own_steps}
use Rattle.klsm_board.specs.Sharing.{RefusesShareWaiting, SharesWaiting}
use Rattle.klsm_knapsack.specs.declared.search_state.NoRoom.{NoRoom}
use Rattle.klsm_knapsack.specs.declared.search_state.NoRoom.TheVariants.{Refuses, SearchesAlone}
use Rattle.klsm_knapsack.specs.declared.search_state.Worker.{Worker}
use Rattle.klsm_knapsack.specs.declared.errors.Refusal.{Refusal}
use Rattle.klsm_knapsack.specs.declared.errors.Refusal.TheVariants.{NoMemory}
use Rattle.klsm_instance.specs.Selections.{Problem}
use Rattle.klsm_knapsack.specs.Work.{Work, HasWorked}
use Rattle.klsm_knapsack.specs.Ends.{EndsAnswered, EndsRefused, SharesOrKeeps}
use Rattle.klsm_knapsack.specs.Answers.{IsIdle}
use Rattle.klsm_knapsack.specs.Workers.{HasRun, InsertsNodes, IsAtWork, IsSameWorker, KeepsCourse, KeepsCourseTo, work_by}

-- however a sharing was answered
pub shares_or_keeps : (levels t : ℕ) (es es' : List Entry) (answer : Result ℕ ShareError) → IfOk answer (SharesWaiting levels t es es') → IfErr answer (RefusesShareWaiting levels t es es') → SharesOrKeeps levels t es es'
shares_or_keeps levels t es es' (Ok count) shared refused = inl (count, shared)
shares_or_keeps levels t es es' (Err why) shared refused = inr (why, refused)

-- what holds of work that met no refusal, where there is none
unrefused : {A : Type 0} (r : Result Unit Refusal) (o : Option Refusal) → o ≡ result_err r → o ≡ None → IfOk r (λ _. A) → A
unrefused (Ok done) o is none told = told
unrefused (Err why) o is none told = absurd (none-some why (sym none ∙ is))

memory_alone : (r : Result Unit Refusal) → IfErr r (λ why. why ≡ NoMemory) → IfSome (result_err r) (λ why. why ≡ NoMemory)
memory_alone (Ok done) memory = tt
memory_alone (Err why) memory = memory

module _ {LEVELS : ℕ} where
  stopped : (m : NoRoom) (p : Problem) (w : Worker LEVELS) (r : Result Unit Refusal) → IfOk r (λ _. IsAtWork m p w) → IfErr r (λ why. EndsRefused LEVELS w.member.sizes.k w.member.number (own_steps w.member) why)
      → MatchOption (result_err r) (m ≡ Refuses → EndsAnswered w.member.number (own_steps w.member)) (EndsRefused LEVELS w.member.sizes.k w.member.number (own_steps w.member))
  stopped m p w (Ok done) at_work refused = at_work.answered
  stopped m p w (Err why) at_work refused = refused

  has_worked : (m : NoRoom) (p : Problem) (w : Worker LEVELS) (r : Result Unit Refusal) → IfOk r (λ _. IsAtWork m p w) → IfOk r (λ _. HasWorked p (work_by w))
  has_worked m p w (Ok done) at_work = at_work.worked
  has_worked m p w (Err why) at_work = tt

  pub has_run : (m : NoRoom) (p : Problem) (idle : ℕ) (before mid after : Worker LEVELS) (r : Result Unit Refusal) → KeepsCourse before mid → IfOk r (λ _. IsAtWork m p mid)
      → IfOk r (λ _. InsertsNodes p (work_by before).inserted (work_by mid).inserted) → IfOk r (λ _. IsIdle idle mid.member.sizes.quota (own_steps before.member) (own_steps mid.member))
      → IfErr r (λ why. EndsRefused LEVELS mid.member.sizes.k mid.member.number (own_steps mid.member) why) → (m ≡ SearchesAlone → IfErr r (λ why. why ≡ NoMemory))
      → IsSameWorker before after → IsSame mid.member after.member → after.refused ≡ result_err r → after.picker ≡ mid.picker → work_by after ≡ work_by mid
      → SharesOrKeeps LEVELS mid.member.number (own_steps mid.member) (own_steps after.member) → HasRun m p idle before after
  has_run m p idle before mid after r course at_work inserts idles refused memory same alike refused_is picker_is work_is shares = record {
    stopped = own_steps mid.member;
    same = same;
    stops =
        subst (λ (z : Sizes × ℕ × Option Refusal). MatchOption z.2 (m ≡ Refuses → EndsAnswered z.1 (own_steps mid.member)) (EndsRefused LEVELS z.0.k z.1 (own_steps mid.member))) (λ i. (sym alike.1 i, sym alike.0 i, sym refused_is i))
        (stopped m p mid r at_work refused);
    room = λ alone. subst (λ (o : Option Refusal). IfSome o (λ why. why ≡ NoMemory)) (sym refused_is) (memory_alone r (memory alone));
    course = λ first on. subst (λ z. KeepsCourseTo before z (own_steps mid.member)) (sym picker_is) course first on;
    worked = λ none. subst (λ (w : Work). HasWorked p w) (sym work_is) (unrefused r after.refused refused_is none (has_worked m p mid r at_work));
    inserts = λ none. subst (λ (w : Work). InsertsNodes p (work_by before).inserted w.inserted) (sym work_is) (unrefused r after.refused refused_is none inserts);
    idles = λ none. subst (λ (z : Sizes). IsIdle idle z.quota (own_steps before.member) (own_steps mid.member)) (sym alike.1) (unrefused r after.refused refused_is none idles);
    shares = subst (λ t. SharesOrKeeps LEVELS t (own_steps mid.member) (own_steps after.member)) (sym alike.0) shares;
  }
