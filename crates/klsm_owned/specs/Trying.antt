-- What the calls of a member that never block tell, in its own words.
use Rattle.std.specs.Prelude.{◌≡◌, ◌↔◌, ℕ, List, [], ◌∷◌, ◌++◌, length, Result, Option, IfOk, IfErr, IsErrAnd, OnOk}
use Rattle.std.specs.Option.{option_to_list}
use Rattle.klsm_run.specs.declared.item.Item.{Item}
use Rattle.klsm_run.specs.declared.item.Stamp.{Stamp}
use Rattle.klsm_run.specs.declared.limits.TheConstants.{MOST_LEVELS}
use Rattle.klsm_schedules.specs.OwnSteps.{inserted}
use Rattle.klsm_board.specs.declared.bounding.Bound.{Bound}
use Rattle.klsm_board.specs.declared.errors.Busy.{Busy}
use Rattle.klsm_board.specs.declared.errors.TryInsertError.{TryInsertError}
use Rattle.klsm_board.specs.declared.errors.TryInsertError.TheVariants.{Spent}
use Rattle.klsm_board.specs.declared.errors.TryShareError.{TryShareError}
use Rattle.klsm_board.specs.declared.sizes.Sizes.{Sizes}
use Rattle.klsm_schedules.specs.declared.step.Entry.{Entry}
use Rattle.klsm_schedules.specs.declared.step.Entry.TheVariants.{Looked}
use Rattle.klsm_board.specs.declared.balancing.Balancing.{Balancing}
use Rattle.klsm_board.specs.Balancing.{HasBalanced, after_deletion, after_turn, victim_now}
use Rattle.klsm_board.specs.Boards.{Adds, known_of_others, own_steps}
use Rattle.klsm_board.specs.Rule.{own, view}
use Rattle.klsm_board.specs.Steps.{HasFront}
use Rattle.klsm_board.specs.Inserting.{Inserts, MissesOwn, RefusesInsert, stamp_of, stamped}
use Rattle.klsm_board.specs.Deleting.{AnswersDeletion, MissesDeletion, moving_at_most}
use Rattle.klsm_board.specs.Bounding.{Bounds, MissesSome, SeesAllLive}
use Rattle.klsm_board.specs.Resting.{Rests}
use Rattle.klsm_board.specs.Sharing.{RefusesShare, Shares}
use Rattle.klsm_owned.specs.declared.owned.OwnedMember.{OwnedMember}
use Rattle.klsm_parts.specs.Choices.{may_choose}
use Rattle.klsm_owned.specs.Owned.{balancing_of, choice_of, member_of}

-- An insertion: its item is the member's next, and a refusal has its cause. The picker stays.
pub record TriesInsert (before after : OwnedMember) (key load : ℕ) (result : Result Stamp TryInsertError) : Type 0 where
  pub stamp : IfOk result (λ stamp.
      stamp ≡ stamp_of (member_of before).number (length (inserted (own_steps (member_of before)))))
  pub ok : IfOk result (λ stamp. Inserts MOST_LEVELS (member_of before).sizes.k (member_of before).number
      (own_steps (member_of before)) (own_steps (member_of after)) (stamped key stamp load))
  pub adds : IfOk result (λ stamp.
      Adds (member_of before) (member_of after) (stamped key stamp load ∷ []) [])
  pub refused : IfErr result (λ why. Adds (member_of before) (member_of after) [] []
      × RefusesInsert (length (inserted (own_steps (member_of before))) ≡ (member_of before).sizes.quota) MOST_LEVELS
      (member_of before).sizes.k (member_of before).number
      (own_steps (member_of before)) (own_steps (member_of after)) why)
  pub spent : IsErrAnd result (λ why. why ≡ Spent)
      ↔ (length (inserted (own_steps (member_of before))) ≡ (member_of before).sizes.quota)
  pub choice : choice_of after ≡ choice_of before
  pub balancing : balancing_of after ≡ balancing_of before

-- what comes before a deletion: a balance with the member whose turn it is, where it is time
abbrev pub HasBalancedFirst : OwnedMember → List Entry → Type 0
HasBalancedFirst before es = HasBalanced (member_of before).sizes (member_of before).number
    (victim_now (balancing_of before) (member_of before).number (member_of before).sizes.threads)
    (own_steps (member_of before)) es

-- and then it is the next one's turn
abbrev pub next_turn : OwnedMember → Balancing
next_turn before = after_turn (balancing_of before) (member_of before).sizes.threads

-- a balance where it is time
pub record BalancesFirst (before after : OwnedMember) : Type 0 where
  pub first : HasBalancedFirst before (own_steps (member_of after))
  pub adds : Adds (member_of before) (member_of after) [] []
  pub choice : choice_of after ≡ choice_of before
  pub balancing : balancing_of after ≡ next_turn before

-- A deletion on a board of these sizes, and before it a balance where it is time: what it took skips at most T·k items,
-- and where there was nothing at most (T-1)·k live. The picker is asked, and picks, as it may. Deletions that were
-- answered count.
pub record TriesDeletion (sizes : Sizes) (before after : OwnedMember) (result : Result (Option Item) Busy) : Type 0 where
  pub balanced : List Entry
  pub first : HasBalancedFirst before balanced
  pub ok : IfOk result (λ answer. AnswersDeletion may_choose (choice_of before) (choice_of after)
      sizes (member_of before).number
      balanced (own_steps (member_of after)) answer)
  pub counted : IfOk result (λ answer. balancing_of after ≡ after_deletion (next_turn before))
  pub adds : IfOk result (λ answer.
      Adds (member_of before) (member_of after) [] (option_to_list answer))
  pub busy : IfErr result (λ busy. Adds (member_of before) (member_of after) [] []
      × (choice_of after ≡ choice_of before)
      × (balancing_of after ≡ next_turn before)
      × MissesDeletion (member_of before).number balanced (own_steps (member_of after)) busy)

-- a deletion as the board was made for, and one by which no items move to the own part
abbrev pub TriesDelete : OwnedMember → OwnedMember → Result (Option Item) Busy → Type 0
TriesDelete before after result = TriesDeletion (member_of before).sizes before after result

abbrev pub TriesDeleteAlone : OwnedMember → OwnedMember → Result (Option Item) Busy → Type 0
TriesDeleteAlone before after result = TriesDeletion (moving_at_most 0 (member_of before).sizes) before after result

-- A sharing of all items of the own part: all of them moved to the shared part, or none, and a refusal has its cause.
-- The picker stays.
pub record TriesShare (before after : OwnedMember) (result : Result ℕ TryShareError) : Type 0 where
  pub ok : IfOk result (Shares MOST_LEVELS (member_of before).number
      (own_steps (member_of before)) (own_steps (member_of after)))
  pub adds : Adds (member_of before) (member_of after) [] []
  pub refused : IfErr result (RefusesShare MOST_LEVELS (member_of before).number
      (own_steps (member_of before)) (own_steps (member_of after)))
  pub choice : choice_of after ≡ choice_of before
  pub balancing : balancing_of after ≡ balancing_of before

-- A bound: all parts were in hand at one moment, and it is that of the items that lived then and of the keys in work; or
-- a lock was not free. The picker stays.
pub record TriesBound (before after : OwnedMember) (result : Result Bound Busy) : Type 0 where
  pub ok : IfOk result (Bounds (member_of before).sizes.threads
      (own_steps (member_of before)) (own_steps (member_of after)))
  pub live : IfOk result (SeesAllLive (member_of before).sizes (member_of before).number
      (known_of_others (member_of before)) (own_steps (member_of before)) (own_steps (member_of after)))
  pub adds : Adds (member_of before) (member_of after) [] []
  pub busy : IfErr result (MissesSome (member_of before).sizes.threads
      (own_steps (member_of before)) (own_steps (member_of after)))
  pub choice : choice_of after ≡ choice_of before
  pub balancing : balancing_of after ≡ balancing_of before

-- A rest: with the own part in hand the member's mark was set to the greatest number, so that it works at no item; or its
-- lock was not free, and the mark stays. The picker stays.
pub record TriesRest (before after : OwnedMember) (result : Result Unit Busy) : Type 0 where
  pub ok : OnOk result (Rests (member_of before).number
      (own_steps (member_of before)) (own_steps (member_of after)))
  pub adds : Adds (member_of before) (member_of after) [] []
  pub busy : IfErr result (MissesOwn (member_of before).number
      (own_steps (member_of before)) (own_steps (member_of after)))
  pub choice : choice_of after ≡ choice_of before
  pub balancing : balancing_of after ≡ balancing_of before

-- A look at the front, which the member's list notes: the front of a world of the lists that the member knew.
pub record LooksAtFront (before after : OwnedMember) (front : ℕ) : Type 0 where
  pub steps : own_steps (member_of after) ≡ own_steps (member_of before) ++ Looked front ∷ []
  pub adds : Adds (member_of before) (member_of after) [] []
  pub sees : HasFront (member_of before).sizes (member_of before).number
      (view (own (member_of before).number (own_steps (member_of before))
      ∷ known_of_others (member_of before))) front
  pub choice : choice_of after ≡ choice_of before
  pub balancing : balancing_of after ≡ balancing_of before
