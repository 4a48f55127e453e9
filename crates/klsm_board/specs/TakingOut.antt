-- What a deletion does to the own part and the shared one while it has both, and what it tells of the front.
use Rattle.std.specs.Prelude.{◌≡◌, ◌≢◌, ℕ, List, [], Option, MatchOption}
use Rattle.atomic_table.specs.Table.{Me}
use Rattle.klsm_run.specs.declared.item.Item.{Item}
use Rattle.klsm_parts.specs.Events.{MayRefill, own_after_take, shared_after_take, shared_after_refill, front_of}
use Rattle.klsm_parts.specs.Refilling.{refill_of}
use Rattle.klsm_board.specs.declared.sizes.Sizes.{Sizes}
use Rattle.klsm_board.specs.declared.rule.View.{View}
use Rattle.klsm_board.specs.declared.taking.Fronts.{Fronts}
use Rattle.klsm_board.specs.Seats.{Carries, both_in_hand, last_arriving}

-- the least shared items are on their way to the own part, `most` at most, and the front is that of what is left; or none are
abbrev pub FetchesTo : ℕ → ℕ → List Item → List Item → Option ℕ → List Item → List Item → Type 0
FetchesTo most k own shared front shared' arriving = MatchOption front
    ((refill_of most k own shared ≡ []) × (shared' ≡ shared))
    (λ front. MayRefill k own shared (refill_of most k own shared)
    × (arriving ≡ refill_of most k own shared)
    × (shared' ≡ shared_after_refill shared (refill_of most k own shared))
    × (front ≡ front_of shared'))

-- the item x was taken out, and where it was a shared one, items are on their way to the own part
abbrev pub TakesTo : ℕ → ℕ → List Item → List Item → Item → Option Fronts → List Item → List Item → Type 0
TakesTo most k own shared x fronts shared' arriving = MatchOption fronts
    ((shared_after_take own shared x ≡ shared) × (shared' ≡ shared_after_take own shared x))
    (λ fronts. (shared_after_take own shared x ≢ shared) × (fronts.taken ≡ front_of (shared_after_take own shared x))
    × FetchesTo most k (own_after_take own x) (shared_after_take own shared x) fronts.refilled shared' arriving)

-- the seat carries an own part of this content, and what such a fetching left of the shared one
abbrev pub FetchesInHand : {S : Type 0} → (S → List Item) → (ℕ → ℕ → S → Type 0) → (S → List Item) → Sizes → ℕ → ℕ → List Item → List Item → Option ℕ → Me S View → Type 0
FetchesInHand content suits arriving m t most own shared front me = (shared' : List Item)
    × Carries content suits m t (both_in_hand t own shared') me
    × FetchesTo most m.k own shared front shared' (last_arriving arriving me.1)

-- In the hand of thread t are an own part and a shared one of these contents. The seat carries the own part as it is there, and
-- the shared one without the items that are on their way to it, which may move.
pub record HasFetched {S : Type 0} (content : S → List Item) (suits : ℕ → ℕ → S → Type 0) (arriving : S → List Item) (m : Sizes) (t : ℕ) (own shared : List Item) (me : Me S View) : Type 0 where
  pub may : MayRefill m.k own shared (last_arriving arriving me.1)
  pub carries : Carries content suits m t (both_in_hand t own (shared_after_refill shared (last_arriving arriving me.1))) me
