-- What a seat knows that has the lists of several threads.
use Rattle.std.specs.Prelude.{◌≡◌, ◌≢◌, ℕ, ◌<◌, ◌≤◌, List, [], length, slice_index_or}
use Rattle.klsm_schedules.specs.declared.step.Entry.{Entry}
use Rattle.klsm_schedules.specs.OwnSteps.{hand_of, inserted, deleted}
use Rattle.klsm_board.specs.declared.sizes.Sizes.{Sizes}
use Rattle.klsm_board.specs.declared.rule.Own.{Own}
use Rattle.klsm_board.specs.declared.board.Member.{Member}
use Rattle.klsm_board.specs.Finishing.{AreAll, steps_among}
use Rattle.klsm_board.specs.Turning.{steps_known, HasList}
use Rattle.klsm_board.specs.Members.{most_deletions}
use Rattle.klsm_board.specs.Seats.{IsMarked}

-- a thread's list between two of its calls: it holds no part, and has so many insertions and deletions
pub record IsAtRest (m : Sizes) (t : ℕ) (es : List Entry) (insertions deletions : ℕ) : Type 0 where
  pub hand_is : hand_of t es ≡ []
  pub marked : IsMarked es
  pub insertions_are : length (inserted es) ≡ insertions
  pub deletions_are : length (deleted es) ≡ deletions
  pub within : insertions ≤ m.quota
  pub few : deletions ≤ most_deletions

-- There is a list for each thread, and each but that of the thread whose turn it is rests, with these
-- counts.
pub record IsWhole (m : Sizes) (turn : ℕ) (lists : List Own) (insertions deletions : List ℕ) : Type 0 where
  pub has : (t : ℕ) → t < m.threads → HasList lists t
  pub rests : (t : ℕ) → t < m.threads → t ≢ turn
      → IsAtRest m t (steps_known lists t) (slice_index_or insertions t 0)
      (slice_index_or deletions t 0)

module _ {CAP LEVELS : ℕ} where
  -- each number below n has a member, and these are the counts of its insertions and deletions
  pub record AreCounted (members : List (Member CAP LEVELS)) (n : ℕ) (insertions deletions : List ℕ) : Type 0 where
    pub all : AreAll members n
    pub insertions_are : (t : ℕ) → t < n
        → length (inserted (steps_among members t)) ≡ slice_index_or insertions t 0
    pub deletions_are : (t : ℕ) → t < n
        → length (deleted (steps_among members t)) ≡ slice_index_or deletions t 0
