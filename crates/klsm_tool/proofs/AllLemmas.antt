-- One of all members goes on, and the others stay as they are.
use Rattle.std.proofs.Common.{◌≡◌, ⊎_elim, ℕ, zero, suc, ◌+◌, ◌*◌, ◌-◌, ◌<◌, ◌≤◌, max, List, [], ◌∷◌, ◌++◌, length, append-nil, mul-le-mul_right, Some, refl, sym, ap, subst, ◌∙◌, arith}
use Rattle.std.specs.List.{flat_map}
use Rattle.std.proofs.Math.Logic.{∥∥₁_map}
use Rattle.std.proofs.lemmas.Bool.{cases_lt}
use Rattle.std.proofs.lemmas.Grind.{flat_map-append}
use Rattle.klsm_run.specs.declared.item.Item.{Item}
use Rattle.klsm_run.specs.declared.limits.TheConstants.{PROGRAM_LEVELS, PROGRAM_K}
use Rattle.klsm_run.specs.Capacity.{heap_room}
use Rattle.klsm_run.specs.Content.{skipped}
use Rattle.klsm_parts.specs.Limit.{limit_of}
use Rattle.klsm_schedules.specs.declared.step.Event.{Event}
use Rattle.klsm_schedules.specs.declared.step.Event.TheVariants as event
use Rattle.klsm_schedules.specs.declared.step.Entry.{Entry}
use Rattle.klsm_schedules.specs.OwnSteps.{deleted, deleted_by, inserted}
use Rattle.klsm_schedules.specs.Account.{account}
use Rattle.klsm_schedules.proofs.lemmas.theorems.AccountLemmas.{one_of_all}
use Rattle.klsm_board.specs.declared.all_members.AllMembers.{AllMembers}
use Rattle.klsm_board.specs.declared.rule.Own.{Own}
use Rattle.klsm_board.specs.declared.sizes.Sizes.{Sizes}
use Rattle.klsm_board.specs.Effects.{PassesFew}
use Rattle.klsm_board.specs.Finishing.{AreListsAtEnd}
use Rattle.klsm_board.specs.Together.{ActsFor, PassesFewLeft, all_lists, sizes_of_all, steps_for}
use Rattle.klsm_board.specs.Turning.{lists_known, steps_known}
use Rattle.klsm_board.proofs.lemmas.ending.WholeLemmas.{all_at_end, known_at, so_many_known}
use Rattle.klsm_board.proofs.lemmas.table.KeepLemmas.{list_at}
use Rattle.klsm_text.specs.declared.answer.Answer.{Answer}
use Rattle.klsm_text.specs.Script.{row_limit}
use Rattle.klsm_tool.specs.Crews.{Goes, HaveNoSteps, content_by, steps_in}
use Rattle.klsm_tool.specs.Shown.{AreShown, IsFew, shown_in}

-- a thread's list among those of all
steps_are : (n : ℕ) (os : List Own) (u : ℕ) → u < n → steps_in (lists_known n os) u ≡ steps_known os u
steps_are n os u below = list_at (lists_known n os) u (steps_known os u) (known_at n os u below)

pub steps_of_all : (all : AllMembers PROGRAM_K PROGRAM_LEVELS) (t : ℕ) → t < (sizes_of_all all).threads → steps_in (all_lists all) t ≡ steps_for all t
steps_of_all all t below = steps_are (sizes_of_all all).threads all.acting.seat.me.0.lists t below

-- and none behind them
beyond : (xs : List (List Entry)) (u : ℕ) → length xs ≤ u → steps_in xs u ≡ []
beyond [] u past = refl
beyond (x ∷ xs) zero past = absurd (omega (arith, past))
beyond (x ∷ xs) (suc u) past = beyond xs u (omega (arith, past))

module _ (all after : AllMembers PROGRAM_K PROGRAM_LEVELS) (t : ℕ) (acts : ActsFor t all after) (thread : t < (sizes_of_all all).threads) where
  abbrev many : ℕ
  many = (sizes_of_all all).threads

  lists_after : all_lists after ≡ lists_known many after.acting.seat.me.0.lists
  lists_after = ap (λ (z : Sizes). lists_known z.threads after.acting.seat.me.0.lists) acts.sizes

  -- the lists go on by what the thread's shows more
  pub all_go : (answers : List Answer) → shown_in (steps_for after t) ≡ shown_in (steps_for all t) ++ answers → (account (all_lists after)).left ≡ content_by (account (all_lists all)).left answers
      → (account (all_lists after)).inserted ≤ (account (all_lists all)).inserted + length answers → Goes t (all_lists all) (all_lists after) answers
  all_go answers shows left counts = record {
    here = ap (λ z. shown_in (steps_in z t)) lists_after
        ∙ (ap shown_in (steps_are many after.acting.seat.me.0.lists t thread) ∙ (shows ∙ ap (λ z. shown_in z ++ answers) (sym (steps_are many all.acting.seat.me.0.lists t thread))));
    else = λ u other. ap (λ z. steps_in z u) lists_after ∙ ⊎_elim
        (λ (below : u < many). steps_are many after.acting.seat.me.0.lists u below ∙ (acts.others u other ∙ sym (steps_are many all.acting.seat.me.0.lists u below)))
        (λ (past : many ≤ u). let a = so_many_known many after.acting.seat.me.0.lists in let b = so_many_known many all.acting.seat.me.0.lists in
        beyond (lists_known many after.acting.seat.me.0.lists) u (omega (arith, a, past)) ∙ sym (beyond (lists_known many all.acting.seat.me.0.lists) u (omega (arith, b, past))))
        (cases_lt u many);
    left_is = left;
    inserted_are = counts;
  }

-- where no step is made nothing is shown
pub goes_nowhere : (t : ℕ) (a : List (List Entry)) → Goes t a a []
goes_nowhere t a = record {
  here = sym (append-nil (shown_in (steps_in a t)));
  else = λ u other. refl;
  left_is = refl;
  inserted_are = omega arith;
}

-- steps that show nothing may come first
pub goes_then : (t : ℕ) (a b c : List (List Entry)) (answers : List Answer) → Goes t a b [] → Goes t b c answers → Goes t a c answers
goes_then t a b c answers first later = record {
  here = later.here ∙ ap (λ z. z ++ answers) (first.here ∙ append-nil (shown_in (steps_in a t)));
  else = λ u other. later.else u other ∙ first.else u other;
  left_is = later.left_is ∙ ap (λ z. content_by z answers) first.left_is;
  inserted_are = omega (arith, later.inserted_are, first.inserted_are);
}

-- no thread inserted more than all did
pub few_of_one : (all : AllMembers PROGRAM_K PROGRAM_LEVELS) (t : ℕ) → t < (sizes_of_all all).threads → length (inserted (steps_for all t)) ≤ (account (all_lists all)).inserted
few_of_one all t below =
    let lists = all_lists all in let same = ap (λ es. length (inserted es)) (steps_are (sizes_of_all all).threads all.acting.seat.me.0.lists t below) in
    let few = one_of_all inserted lists t (let n = so_many_known (sizes_of_all all).threads all.acting.seat.me.0.lists in omega (arith, n, below)) in
    omega (arith, few, same)

-- the first of a list
abbrev first_or : Item → List Item → Item
first_or d [] = d
first_or d (x ∷ xs) = x

-- an item that is answered skips few
pub few_answered : (m : Sizes) (lists : List (List Entry)) (es' : List Entry) (x : Item) → PassesFewLeft m lists es' (Some x) → IsFew m.threads m.k (skipped (account lists).left x)
few_answered m lists es' x passes = by_event passes.event passes.answers passes.few
  where
    by_event : (e : Event) → deleted_by e ≡ x ∷ [] → PassesFew m e (account lists).left → IsFew m.threads m.k (skipped (account lists).left x)
    by_event (event.Put y) is few = absurd few
    by_event (event.Flush y moved) is few = absurd few
    by_event (event.Take y) is few = subst (λ z. IsFew m.threads m.k (skipped (account lists).left z)) (ap (first_or y) is) few
    by_event (event.Early y front) is few =
        let n : ℕ = (m.threads - 1) * m.k in let n' : ℕ = m.threads * m.k in
        let less : m.threads - 1 ≤ m.threads = omega arith in
        let most : n ≤ n' = mul-le-mul_right m.k less in
        let s : ℕ = skipped (account lists).left y in let few' : s ≤ n = few.0 in
        subst (λ z. IsFew m.threads m.k (skipped (account lists).left z)) (ap (first_or y) is) (let goal : s ≤ n' = omega (arith, few', most) in goal, few.1)
    by_event event.Nothing is few = absurd (let bad : [] ≡ x ∷ [] = is in cc)
    by_event (event.Spy victim moved) is few = absurd few
    by_event (event.Steal victim moved) is few = absurd few
    by_event (event.Refill moved) is few = absurd few
    by_event (event.Share moved) is few = absurd few

-- and none where nothing is
pub few_none : (threads k : ℕ) → IsFew threads k 0
few_none threads k = (omega arith, λ one. refl)

-- the shared part has room for more items than a script has rows
pub has_room : (insertions k : ℕ) → insertions ≤ row_limit → k ≤ PROGRAM_K → limit_of PROGRAM_LEVELS heap_room < insertions + max 1 k → ⊥
has_room insertions k few small full =
    let limit : limit_of PROGRAM_LEVELS heap_room ≡ 1048576 = refl in
    let most : ℕ = max 1 k in let most_small : most ≤ PROGRAM_K = omega (arith, small) in
    let full' : limit_of PROGRAM_LEVELS heap_room < insertions + most = full in
    omega (arith, limit, few, most_small, full')

-- at all times their lists are those of one schedule
pub rule_of_all : (all : AllMembers PROGRAM_K PROGRAM_LEVELS) → ∥ AreListsAtEnd (sizes_of_all all) (all_lists all) ∥₁
rule_of_all all =
    let me = all.acting in let whole = all.whole in let rests = me.rests in
    ∥∥₁_map rests.reached (λ r. all_at_end me.sizes me.number me.seat.me.0 r whole.has)

-- where no step was made nothing is shown, inserted or deleted
nothing_in : (f : List Entry → List Item) → f [] ≡ [] → (n : ℕ) (os : List Own) → ((t : ℕ) → t < n → steps_known os t ≡ []) → flat_map f (lists_known n os) ≡ []
nothing_in f none zero os each = refl
nothing_in f none (suc n) os each =
    flat_map-append f (lists_known n os) (steps_known os n ∷ []) ∙ λ i. nothing_in f none n os (λ t below. each t (omega (arith, below))) i ++ ((ap f (each n (omega arith)) ∙ none) i ++ [])

module _ (all : AllMembers PROGRAM_K PROGRAM_LEVELS) (fresh : HaveNoSteps all) where
  pub fresh_inserts_none : (account (all_lists all)).inserted ≡ 0
  fresh_inserts_none = ap length (nothing_in inserted refl (sizes_of_all all).threads all.acting.seat.me.0.lists fresh)

  pub fresh_leaves_none : (account (all_lists all)).left ≡ []
  fresh_leaves_none = λ i. Rattle.klsm_parts.specs.Events.minus (Rattle.klsm_run.specs.Content.sorted (nothing_in inserted refl (sizes_of_all all).threads all.acting.seat.me.0.lists fresh i)) (nothing_in deleted refl (sizes_of_all all).threads all.acting.seat.me.0.lists fresh i)

  pub fresh_shows_none : (threads : ℕ) → threads ≡ (sizes_of_all all).threads → AreShown threads (all_lists all) []
  fresh_shows_none threads same t below =
      let inside : t < (sizes_of_all all).threads = omega (arith, same, below) in
      sym (ap shown_in (steps_are (sizes_of_all all).threads all.acting.seat.me.0.lists t inside ∙ fresh t inside))
