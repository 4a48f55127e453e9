-- A sharing of all own items, from what its two acquires found.
use Rattle.std.proofs.Common.{◌≡◌, ℕ, ◌<◌, ◌≤◌, ◌↔◌, List, [], ◌∷◌, ◌++◌, length, sym, ap, ◌∙◌, subst, arith, refl, inl, inr, Option, IfSome, Result, Ok, Err, IfOk, IfErr}
use Rattle.atomic_table.specs.Table.{Me}
use Rattle.klsm_run.specs.declared.item.Item.{Item}
use Rattle.klsm_parts.specs.declared.LsmError.{LsmError}
use Rattle.klsm_parts.specs.Sharing.{MayShare}
use Rattle.klsm_schedules.specs.declared.step.Event.{Event}
use Rattle.klsm_schedules.specs.declared.step.Event.TheVariants.{Share}
use Rattle.klsm_schedules.specs.declared.step.Entry.{Entry}
use Rattle.klsm_schedules.specs.declared.step.Entry.TheVariants.{Acquired, Committed, Released}
use Rattle.klsm_schedules.specs.OwnSteps.{Hand, own_part, shared_part}
use Rattle.klsm_board.specs.declared.sizes.Sizes.{Sizes}
use Rattle.klsm_board.specs.declared.rule.View.{View}
use Rattle.klsm_board.specs.declared.errors.Busy.{Busy}
use Rattle.klsm_board.specs.declared.errors.TryShareError.{TryShareError}
use Rattle.klsm_board.specs.declared.errors.TryShareError.TheVariants as try_share
use Rattle.klsm_board.specs.Boards.{Gains}
use Rattle.klsm_board.specs.Steps.{mine}
use Rattle.klsm_board.specs.Seats.{Has, Stands, own_in_hand, both_in_hand}
use Rattle.klsm_board.specs.Entries.{own_acquired, both_acquired, both_released}
use Rattle.klsm_board.specs.Sharing.{Shares, SharesNone, SharesAll, KeepsAll, LacksRoomFor, HasRoomFor, FindsSome, RefusesShare}
use Rattle.klsm_board.proofs.lemmas.seats.StandLemmas.{stands}
use Rattle.klsm_board.proofs.lemmas.calls.EventLemmas.{same_events}
use Rattle.klsm_board.proofs.lemmas.calls.AddLemmas.{goes_on, inserts, deletes, own_quiet, both_quiet}
use Rattle.klsm_board.proofs.lemmas.calls.AddedLemmas.{quiet_gains}
use Rattle.klsm_board.proofs.lemmas.calls.MissLemmas.{misses_quiet}

-- what is not above a limit is within it
pub not_above : (limit n : ℕ) → (limit < n → ⊥) → n ≤ limit
not_above limit n above = omega (arith, above)

-- one refusal is not the other
abbrev IsFull : LsmError → Type 0
IsFull LsmError.Full = Unit {0}
IsFull LsmError.NoMemory = ⊥

-- where memory was refused there is room
pub room_if_memory : (limit n : ℕ) (why : LsmError) → (why ≡ LsmError.Full) ↔ (limit < n) → why ≡ LsmError.NoMemory → n ≤ limit
room_if_memory limit n why full is = not_above limit n (λ less. subst IsFull (sym (full.1 less) ∙ is) tt)

-- a refusal for a lock names it
pub same_share_busy : (a b : Busy) → try_share.Busy a ≡ try_share.Busy b → a ≡ b
same_share_busy a b is = cc

-- a part that was counted as empty is empty
none_if_counted : (own : List Item) (count : ℕ) → count ≡ 0 → count ≡ length own → own ≡ []
none_if_counted [] count none counted = refl
none_if_counted (x ∷ own) count none counted = absurd (omega (arith, none, counted))

-- then the own part is released
pub none_shared : (t : ℕ) (own : List Item) (es counted_es es' : List Entry) (count : ℕ) → count ≡ 0 → count ≡ length own
    → counted_es ≡ own_acquired t own es → es' ≡ counted_es ++ Released (own_part t) ∷ [] → SharesNone t es es' 0
none_shared t own es counted_es es' count none counted acquired_is steps = record {
  none = refl;
  steps = steps ∙ (ap (λ z. z ++ Released (own_part t) ∷ []) acquired_is ∙ ap (λ c. own_acquired t c es ++ Released (own_part t) ∷ []) (none_if_counted own count none counted));
}

module _ {S : Type 0} (content : S → List Item) (suits : ℕ → ℕ → S → Type 0) (m : Sizes) (t : ℕ) where
  -- the seat has both parts, of which the own one has so many items, and a copy, if any, is of these
  pub record Both (count : ℕ) (copy : Option (List Item)) (es : List Entry) (me : Me S View) : Type 0 where
    pub own : List Item
    pub shared : List Item
    pub has : Has content suits m t (both_in_hand t own shared) me
    pub some : 0 < count
    pub counted : count ≡ length own
    pub copied : IfSome copy (λ run. run ≡ own)
    pub list : mine me.0 ≡ both_acquired t own shared es

  -- by one try each: what came of the first, how many items the own part has, the copy of them, what came of the second
  pub both_now : (count : ℕ) (copy : Option (List Item)) (me own_acquired_me kept prepared both : Me S View) → (count ≡ 0 → ⊥) → Stands content suits m t [] me
      → ((hand : Hand) → Stands content suits m t hand me → (found : List Item) × Has content suits m t ((own_part t, found) ∷ hand) own_acquired_me × (mine own_acquired_me.0 ≡ mine me.0 ++ Acquired (own_part t) found ∷ []))
      → ((own : List Item) → Has content suits m t (own_in_hand t own) own_acquired_me → (count ≡ length own) × Has content suits m t (own_in_hand t own) kept × (mine kept.0 ≡ mine own_acquired_me.0))
      → ((own : List Item) → Has content suits m t (own_in_hand t own) kept → IfSome copy (λ run. run ≡ own) × Has content suits m t (own_in_hand t own) prepared × (mine prepared.0 ≡ mine kept.0))
      → ((hand : Hand) → Stands content suits m t hand prepared → (found : List Item) × Has content suits m t ((shared_part, found) ∷ hand) both × (mine both.0 ≡ mine prepared.0 ++ Acquired shared_part found ∷ []))
      → Both count copy (mine me.0) both
  both_now count copy me own_acquired_me kept prepared both some at_rest first counted copied second =
      let own = first [] at_rest in
      let found = counted own.0 own.1 in
      let still = copied own.0 found.1 in
      let shared = second (own_in_hand t own.0) (stands still.1) in
      record {
        own = own.0;
        shared = shared.0;
        has = shared.1;
        some = omega (arith, some);
        counted = found.0;
        copied = still.0;
        list = shared.2 ∙ ap (λ z. z ++ Acquired shared_part shared.0 ∷ []) (still.2 ∙ (found.2 ∙ own.2));
      }

  module _ (count : ℕ) (copy : Option (List Item)) (es es' : List Entry) (me : Me S View) (k : Both count copy es me) where
    -- what is to be shared
    pub has_some : (own : List Item) × (shared : List Item) × Has content suits m t (both_in_hand t own shared) me × (0 < length own) × IfSome copy (λ run. run ≡ own)
    has_some = (k.own, k.shared, k.has, omega (arith, k.some, k.counted), k.copied)

    -- then all items moved
    pub all_shared : (levels : ℕ) → MayShare k.own k.own × HasRoomFor levels k.own k.shared × (es' ≡ mine me.0 ++ Committed (Share k.own) ∷ both_released t)
        → SharesAll levels t es es' count
    all_shared levels did = record {
      own = k.own;
      shared = k.shared;
      some = k.some;
      counted = k.counted;
      may = did.0;
      within = did.1;
      steps = did.2 ∙ ap (λ z. z ++ Committed (Share k.own) ∷ both_released t) k.list;
    }

    -- or both parts were released
    pub all_kept : (Found : List Item → List Item → Type 0) → Found k.own k.shared → es' ≡ mine me.0 ++ both_released t → KeepsAll t es es' Found
    all_kept Found found steps = record {
      own = k.own;
      shared = k.shared;
      some = omega (arith, k.some, k.counted);
      found = found;
      steps = steps ∙ ap (λ z. z ++ both_released t) k.list;
    }

-- a sharing inserts and deletes nothing
pub shares_gain : (levels t : ℕ) (es es' : List Entry) (count : ℕ) → Shares levels t es es' count → Gains es es' [] []
shares_gain levels t es es' count (inl none) =
    quiet_gains es es' (same_events (own_acquired t [] es) (Released (own_part t) ∷ []) es' none.steps refl ∙ own_quiet t [] es)
shares_gain levels t es es' count (inr all) =
    let before = both_acquired t all.own all.shared es in
    let e = goes_on es before (Committed (Share all.own) ∷ both_released t) es' (both_quiet t all.own all.shared es) all.steps in
    let added : List Event = Share all.own ∷ [] in
    record {
      inserted_are = inserts es es' added e;
      deleted_are = deletes es es' added e;
    }

keeps_gain : (t : ℕ) (es es' : List Entry) (Found : List Item → List Item → Type 0) → KeepsAll t es es' Found → Gains es es' [] []
keeps_gain t es es' Found up =
    quiet_gains es es' (same_events (both_acquired t up.own up.shared es) (both_released t) es' up.steps refl ∙ both_quiet t up.own up.shared es)

-- nor does one that is refused
refused_share_gains : (levels t : ℕ) (es es' : List Entry) (why : TryShareError) → RefusesShare levels t es es' why → Gains es es' [] []
refused_share_gains levels t es es' (try_share.Busy busy) missed = quiet_gains es es' (misses_quiet t FindsSome es es' busy missed)
refused_share_gains levels t es es' try_share.Full kept = keeps_gain t es es' (LacksRoomFor levels) kept
refused_share_gains levels t es es' try_share.NoMemory kept = keeps_gain t es es' (HasRoomFor levels) kept

-- so no answer does
pub answered_gains : (levels t : ℕ) (es es' : List Entry) (answer : Result ℕ TryShareError) → IfOk answer (Shares levels t es es') → IfErr answer (RefusesShare levels t es es') → Gains es es' [] []
answered_gains levels t es es' (Ok count) ok err = shares_gain levels t es es' count ok
answered_gains levels t es es' (Err why) ok err = refused_share_gains levels t es es' why err
