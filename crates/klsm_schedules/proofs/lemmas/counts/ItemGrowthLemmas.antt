-- The items of a list's events, where the list gains an entry.
use Rattle.std.proofs.Common.{◌≡◌, List, [], ◌∷◌, ◌++◌, ap, ◌∙◌}
use Rattle.std.specs.List.{flat_map}
use Rattle.std.proofs.lemmas.List.{append-nil}
use Rattle.std.proofs.lemmas.Grind.{flat_map-append}
use Rattle.klsm_run.specs.declared.item.Item.{Item}
use Rattle.klsm_schedules.specs.declared.step.Event.{Event}
use Rattle.klsm_schedules.specs.declared.step.Entry.{Entry}
use Rattle.klsm_schedules.specs.OwnSteps.{event_at}

-- one element more adds what it gives
pub flat_map_more : {A B : Type 0} (f : A → List B) (xs : List A) (x : A) → flat_map f (xs ++ x ∷ []) ≡ flat_map f xs ++ f x
flat_map_more f xs x = flat_map-append f xs (x ∷ []) ∙ ap (λ ys. flat_map f xs ++ ys) (append-nil (f x))

-- the items of a list's events, with one entry more
pub items_grow : (items_by : Event → List Item) (own : List Entry) (entry : Entry)
    → flat_map items_by (flat_map event_at (own ++ entry ∷ [])) ≡ flat_map items_by (flat_map event_at own) ++ flat_map items_by (event_at entry)
items_grow items_by own entry =
    ap (flat_map items_by) (flat_map_more event_at own entry) ∙ flat_map-append items_by (flat_map event_at own) (event_at entry)
