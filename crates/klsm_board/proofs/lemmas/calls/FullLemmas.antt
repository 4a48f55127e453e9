-- An insertion that found its own part full, and acquired the shared one too.
use Rattle.std.proofs.Common.{◌≡◌, ℕ, ◌+◌, ◌≤◌, List, [], ◌∷◌, ◌++◌, length, ap, ◌∙◌}
use Rattle.atomic_table.specs.Table.{Me}
use Rattle.klsm_run.specs.declared.item.Item.{Item}
use Rattle.klsm_run.specs.Capacity.{heap_room}
use Rattle.klsm_parts.specs.Limit.{limit_of}
use Rattle.klsm_parts.specs.Events.{MayFlush}
use Rattle.klsm_schedules.specs.declared.step.Event.TheVariants.{Flush}
use Rattle.klsm_schedules.specs.declared.step.Entry.{Entry}
use Rattle.klsm_schedules.specs.declared.step.Entry.TheVariants.{Acquired, Committed}
use Rattle.klsm_schedules.specs.OwnSteps.{Hand, own_part, shared_part}
use Rattle.klsm_board.specs.Effects.{committed_in}
use Rattle.klsm_board.specs.declared.sizes.Sizes.{Sizes}
use Rattle.klsm_board.specs.declared.rule.View.{View}
use Rattle.klsm_board.specs.Steps.{mine}
use Rattle.klsm_board.specs.Seats.{Has, Stands, own_in_hand, both_in_hand}
use Rattle.klsm_board.specs.Entries.{both_acquired, both_released}
use Rattle.klsm_board.specs.Inserting.{Flushes, GivesUp}
use Rattle.klsm_board.proofs.lemmas.seats.StandLemmas.{stands}
use Rattle.klsm_board.proofs.lemmas.calls.AddLemmas.{both_quiet}

module _ {S : Type 0} (content : S → List Item) (suits : ℕ → ℕ → S → Type 0) (m : Sizes) (t : ℕ) where
  -- the seat has both parts
  pub record Full (es : List Entry) (me : Me S View) : Type 0 where
    pub own : List Item
    pub shared : List Item
    pub has : Has content suits m t (both_in_hand t own shared) me
    pub full : length own ≡ m.k
    pub list : mine me.0 ≡ both_acquired t own shared es

  -- by one try each: what came of the first, what was found of the own part, what came of the second
  pub full_now : (me own_acquired_me kept both : Me S View) → Stands content suits m t [] me
      → ((hand : Hand) → Stands content suits m t hand me → (found : List Item) × Has content suits m t ((own_part t, found) ∷ hand) own_acquired_me × (mine own_acquired_me.0 ≡ mine me.0 ++ Acquired (own_part t) found ∷ []))
      → ((own : List Item) → Has content suits m t (own_in_hand t own) own_acquired_me → (length own ≡ m.k) × Has content suits m t (own_in_hand t own) kept × (mine kept.0 ≡ mine own_acquired_me.0))
      → ((hand : Hand) → Stands content suits m t hand kept → (found : List Item) × Has content suits m t ((shared_part, found) ∷ hand) both × (mine both.0 ≡ mine kept.0 ++ Acquired shared_part found ∷ []))
      → Full (mine me.0) both
  full_now me own_acquired_me kept both at_rest first full second =
      let own = first [] at_rest in
      let found = full own.0 own.1 in
      let shared = second (own_in_hand t own.0) (stands found.1) in
      record {
        own = own.0;
        shared = shared.0;
        has = shared.1;
        full = found.0;
        list = shared.2 ∙ ap (λ z. z ++ Acquired shared_part shared.0 ∷ []) (found.2 ∙ own.2);
      }

  module _ (es es' : List Entry) (me : Me S View) (k : Full es me) where
    -- nothing has happened yet
    pub full_is_quiet : committed_in (mine me.0) ≡ committed_in es
    full_is_quiet = ap committed_in k.list ∙ both_quiet t k.own k.shared es

    -- then items moved
    pub flushed : (levels : ℕ) (x : Item) → ((moved : List Item) × MayFlush m.k k.own x moved × (length k.shared + length moved ≤ limit_of levels heap_room) × (es' ≡ mine me.0 ++ Committed (Flush x moved) ∷ both_released t))
        → Flushes levels m.k t es es' x
    flushed levels x did = record {
      own = k.own;
      shared = k.shared;
      moved = did.0;
      full = k.full;
      may = did.1;
      within = did.2;
      steps = did.3 ∙ ap (λ z. z ++ Committed (Flush x did.0) ∷ both_released t) k.list;
    }

    -- or both parts were released
    pub gave_up : (Found : List Item → Type 0) → Found k.shared → es' ≡ mine me.0 ++ both_released t → GivesUp m.k t es es' Found
    gave_up Found found steps = record {
      own = k.own;
      shared = k.shared;
      full = k.full;
      found = found;
      steps = steps ∙ ap (λ z. z ++ both_released t) k.list;
    }
