-- How the calls of a thread go on, one after another.
use Rattle.std.proofs.Common.{◌≡◌, ◌≢◌, ◌<◌, ◌∙◌, ℕ, List, [], ◌∷◌, length, length-set, slice_index_or, slice_set, inl, inr, refl, ap, sym, subst, arith}
use Rattle.std.proofs.lemmas.List.{get_or-set_same, get_or-set_other}
use mathlib.Core.Logic.{dite}
use native.Mathlib.Decide.{ℕ_discrete}
use Rattle.klsm_run.specs.declared.limits.TheConstants.{PROGRAM_LEVELS, PROGRAM_K}
use Rattle.klsm_schedules.specs.declared.step.Entry.{Entry}
use Rattle.klsm_board.specs.declared.all_members.AllMembers.{AllMembers}
use Rattle.klsm_board.specs.declared.sizes.Sizes.{Sizes}
use Rattle.klsm_board.specs.Together.{all_lists, sizes_of_all}
use Rattle.klsm_text.specs.declared.answer.Answer.{Answer}
use Rattle.klsm_words.specs.declared.settings.ScriptSettings.{ScriptSettings}
use Rattle.klsm_knapsack.specs.Courses.{IsOnCourse}
use Rattle.klsm_knapsack.proofs.CourseLemmas.{no_calls, one_call}
use Rattle.klsm_tool.specs.declared.picking.ThreadPicker.{ThreadPicker}
use Rattle.klsm_tool.specs.Courses.{AreOnCourse, CallsInOneHand, DeletesInOneHand, GoInOneHand, InsertsOrLacksMemory}
use Rattle.klsm_tool.specs.Crews.{Goes, HaveNoSteps, board_sizes, steps_in}
use Rattle.klsm_tool.specs.Picking.{ArePickers, picker_of}
use Rattle.klsm_tool.proofs.AllLemmas.{steps_of_all}

module _ (m : Sizes) (first : ℕ → ThreadPicker) where
  -- of all threads one made a call
  after_call : (lists lists' : List (List Entry)) (pickers pickers' : List ThreadPicker) (t : ℕ) → length pickers' ≡ length pickers → ((u : ℕ) (d : ThreadPicker) → u ≢ t → slice_index_or pickers' u d ≡ slice_index_or pickers u d)
      → ((u : ℕ) → u ≢ t → steps_in lists' u ≡ steps_in lists u) → ((d : ThreadPicker) → CallsInOneHand m t (slice_index_or pickers t d) (slice_index_or pickers' t d) (steps_in lists t) (steps_in lists' t))
      → AreOnCourse m first lists pickers → AreOnCourse m first lists' pickers'
  after_call lists lists' pickers pickers' t many others stay did on u d below =
      let before : u < length pickers = omega (arith, below, many) in
      dite (ℕ_discrete u t)
      (λ here. subst (λ (i : ℕ). IsOnCourse (CallsInOneHand m i) (first i) (slice_index_or pickers' i d) (steps_in lists' i)) (sym here)
      (one_call (CallsInOneHand m t) (first t) (slice_index_or pickers t d) (slice_index_or pickers' t d) (steps_in lists t) (steps_in lists' t) (on t d (subst (λ (i : ℕ). i < length pickers) here before)) (did d)))
      (λ other. subst (λ (p : ThreadPicker). IsOnCourse (CallsInOneHand m u) (first u) p (steps_in lists' u)) (sym (others u d other))
      (subst (λ (es : List Entry). IsOnCourse (CallsInOneHand m u) (first u) (slice_index_or pickers u d) es) (sym (stay u other)) (on u d before)))

  pub all_after_deletion : (lists lists' : List (List Entry)) (pickers : List ThreadPicker) (t : ℕ) (picker' : ThreadPicker) (answer : Answer) → t < length pickers → Goes t lists lists' (answer ∷ [])
      → ((d : ThreadPicker) → DeletesInOneHand m t (slice_index_or pickers t d) picker' (steps_in lists t) (steps_in lists' t) answer) → AreOnCourse m first lists pickers → AreOnCourse m first lists' (slice_set pickers t picker')
  all_after_deletion lists lists' pickers t picker' answer within goes did on =
      let many : length (slice_set pickers t picker') ≡ length pickers = omega (arith, length-set pickers t picker') in
      after_call lists lists' pickers (slice_set pickers t picker') t many (λ u d other. get_or-set_other pickers t u picker' d other) goes.else
      (λ d. inr (answer, subst (λ (p : ThreadPicker). DeletesInOneHand m t (slice_index_or pickers t d) p (steps_in lists t) (steps_in lists' t) answer) (sym (get_or-set_same pickers t picker' d within)) (did d))) on

  pub all_after_insertion : (lists lists' : List (List Entry)) (pickers : List ThreadPicker) (t : ℕ) (answers : List Answer) → Goes t lists lists' answers → InsertsOrLacksMemory m t (steps_in lists t) (steps_in lists' t)
      → AreOnCourse m first lists pickers → AreOnCourse m first lists' pickers
  all_after_insertion lists lists' pickers t answers goes did on = after_call lists lists' pickers pickers t refl (λ u d other. refl) goes.else (λ d. inl (did, refl)) on

  -- none did
  pub all_still : (lists lists' : List (List Entry)) (pickers : List ThreadPicker) (t : ℕ) (answers : List Answer) → Goes t lists lists' answers → steps_in lists' t ≡ steps_in lists t → AreOnCourse m first lists pickers → AreOnCourse m first lists' pickers
  all_still lists lists' pickers t answers goes same on u d below =
      let still : steps_in lists' u ≡ steps_in lists u = dite (ℕ_discrete u t) (λ here. subst (λ (i : ℕ). steps_in lists' i ≡ steps_in lists i) (sym here) same) (λ other. goes.else u other) in
      subst (λ (es : List Entry). IsOnCourse (CallsInOneHand m u) (first u) (slice_index_or pickers u d) es) (sym still) (on u d below)

-- where no step was made, the pickers are where they begin
pub fresh_on_course : (settings : ScriptSettings) (m : Sizes) (all : AllMembers PROGRAM_K PROGRAM_LEVELS) (pickers : List ThreadPicker) → HaveNoSteps all → settings.threads ≡ (sizes_of_all all).threads → ArePickers settings pickers → AreOnCourse m (picker_of settings) (all_lists all) pickers
fresh_on_course settings m all pickers fresh same are t d below =
    let within : t < settings.threads = omega (arith, below, are.many) in
    let inside : t < (sizes_of_all all).threads = omega (arith, within, same) in
    no_calls (CallsInOneHand m t) (picker_of settings t) (slice_index_or pickers t d) (steps_in (all_lists all) t) (are.each t d within) (steps_of_all all t inside ∙ fresh t inside)

-- lists without steps go as any settings choose
pub none_go : (settings : ScriptSettings) (lists : List (List Entry)) → ((t : ℕ) → t < settings.threads → steps_in lists t ≡ []) → GoInOneHand settings lists
none_go settings lists none t below = (picker_of settings t, no_calls (CallsInOneHand (board_sizes settings) t) (picker_of settings t) (picker_of settings t) (steps_in lists t) refl (none t below))

-- lists on their course go as these settings choose
pub all_go_on : (settings : ScriptSettings) (m : Sizes) (lists : List (List Entry)) (pickers : List ThreadPicker) → m ≡ board_sizes settings → length pickers ≡ m.threads → AreOnCourse m (picker_of settings) lists pickers → GoInOneHand settings lists
all_go_on settings m lists pickers sizes many on t below =
    let first = picker_of settings t in
    let threads : m.threads ≡ settings.threads = ap (λ (z : Sizes). z.threads) sizes in
    let inside : t < length pickers = omega (arith, below, many, threads) in
    (slice_index_or pickers t first, subst (λ (z : Sizes). IsOnCourse (CallsInOneHand z t) first (slice_index_or pickers t first) (steps_in lists t)) sizes (on t first inside))
