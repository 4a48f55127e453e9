-- When a steal moves items, by the least items of the two parts, and what a balancing adds.
use Rattle.std.proofs.Common.{◌≡◌, ℕ, Bool, true, false, List, [], ◌∷◌, ◌++◌, refl, sym, ap, ◌∙◌, subst, Option, Some, MatchBool, ◌⊎◌, if◌then◌else◌, inl, inr, append_assoc, Result, Ok, Err, IfOk, IfErr}
use Rattle.atomic_table.specs.Table.{Me}
use Rattle.std.specs.List.{slice_get}
use Rattle.klsm_run.specs.declared.item.Item.{Item}
use Rattle.klsm_parts.specs.Stealing.{MaySteal, own_after_steal, victim_after_steal, steal_of}
use Rattle.klsm_schedules.specs.declared.step.Event.TheVariants.{Steal}
use Rattle.klsm_schedules.specs.declared.step.Entry.{Entry}
use Rattle.klsm_schedules.specs.declared.step.Entry.TheVariants.{Acquired, Committed, Released, Missed}
use Rattle.klsm_schedules.specs.OwnSteps.{own_part}
use Rattle.klsm_board.specs.declared.sizes.Sizes.{Sizes}
use Rattle.klsm_board.specs.declared.rule.View.{View}
use Rattle.klsm_board.specs.declared.errors.Busy.{Busy}
use Rattle.klsm_board.specs.Boards.{Gains}
use Rattle.klsm_board.specs.Effects.{committed_in}
use Rattle.klsm_board.specs.Entries.{own_looked}
use Rattle.klsm_board.specs.Inserting.{MissesOwn}
use Rattle.klsm_board.specs.Steps.{mine}
use Rattle.klsm_board.specs.Seats.{Has, own_in_hand}
use Rattle.klsm_board.specs.Stealing.{gains_by, stolen, Steals, StealsNone, TriesVictim, Balances}
use Rattle.klsm_board.proofs.lemmas.calls.EventLemmas.{same_events}
use Rattle.klsm_board.proofs.lemmas.calls.AddLemmas.{goes_on, inserts, deletes, look_quiet}
use Rattle.klsm_board.proofs.lemmas.calls.AddedLemmas.{quiet_gains}

-- where the victim's least item gains nothing, none moves
pub as_not_gained : (front most k : ℕ) (own victim : List Item) (least_own theirs : Option Item) → least_own ≡ slice_get own 0 → theirs ≡ slice_get victim 0 → gains_by front least_own theirs ≡ false → stolen front most k own victim ≡ []
as_not_gained front most k own victim least_own theirs least_is theirs_is fails =
    ap (λ b. if b then steal_of most k own victim else []) ((λ i. gains_by front (sym least_is i) (sym theirs_is i)) ∙ fails)

-- and else the least ones
gained : (front most k : ℕ) (own victim : List Item) (least_own theirs : Option Item) → least_own ≡ slice_get own 0 → theirs ≡ slice_get victim 0 → gains_by front least_own theirs ≡ true → stolen front most k own victim ≡ steal_of most k own victim
gained front most k own victim least_own theirs least_is theirs_is does =
    ap (λ b. if b then steal_of most k own victim else []) ((λ i. gains_by front (sym least_is i) (sym theirs_is i)) ∙ does)

-- then what the slots tell of these is told of what moves
pub as_gained : {S : Type 0} (content : S → List Item) (front most k : ℕ) (own victim own' victim' : S) (answer : Bool) (least_own theirs : Option Item) → least_own ≡ slice_get (content own) 0 → theirs ≡ slice_get (content victim) 0 → gains_by front least_own theirs ≡ true
    → MatchBool answer
    (MaySteal k (content own) (content victim) (steal_of most k (content own) (content victim)) × (content own' ≡ own_after_steal (content own) (steal_of most k (content own) (content victim)))
    × (content victim' ≡ victim_after_steal (content victim) (steal_of most k (content own) (content victim))))
    ((steal_of most k (content own) (content victim) ≡ []) × (content own' ≡ content own) × (content victim' ≡ content victim))
    → MatchBool answer
    (MaySteal k (content own) (content victim) (stolen front most k (content own) (content victim)) × (content own' ≡ own_after_steal (content own) (stolen front most k (content own) (content victim)))
    × (content victim' ≡ victim_after_steal (content victim) (stolen front most k (content own) (content victim))))
    ((stolen front most k (content own) (content victim) ≡ []) × (content own' ≡ content own) × (content victim' ≡ content victim))
as_gained content front most k own victim own' victim' answer least_own theirs least_is theirs_is does told =
    subst (λ (moved : List Item). MatchBool answer (MaySteal k (content own) (content victim) moved × (content own' ≡ own_after_steal (content own) moved) × (content victim' ≡ victim_after_steal (content victim) moved))
    ((moved ≡ []) × (content own' ≡ content own) × (content victim' ≡ content victim)))
    (sym (gained front most k (content own) (content victim) least_own theirs least_is theirs_is does)) told

-- what the seat has then, whichever way it went
pub record Tried {S : Type 0} (content : S → List Item) (suits : ℕ → ℕ → S → Type 0) (m : Sizes) (t front most victim : ℕ) (own : List Item) (es : List Entry) (me : Me S View) (moves : Bool) : Type 0 where
  pub own_after : List Item
  pub has : Has content suits m t (own_in_hand t own_after) me
  pub tries : TriesVictim front most m.k victim own es (mine me.0) moves

pub tried_either : {S : Type 0} (content : S → List Item) (suits : ℕ → ℕ → S → Type 0) (m : Sizes) (t front most victim : ℕ) (own : List Item) (es : List Entry) (me : Me S View) (moves : Bool)
    → MatchBool moves
    ((moved : List Item) × Has content suits m t (own_in_hand t (own_after_steal own moved)) me × Steals front most m.k victim own es (mine me.0) moved)
    (Has content suits m t (own_in_hand t own) me × ((added : List Entry) × StealsNone front most m.k victim own added × (mine me.0 ≡ es ++ added)))
    → Tried content suits m t front most victim own es me moves
tried_either content suits m t front most victim own es me true did = record { own_after = own_after_steal own did.0; has = did.1; tries = (did.0, did.2) }
tried_either content suits m t front most victim own es me false none = record { own_after = own; has = none.0; tries = none.1 }

-- a balancing commits a steal, or nothing
pub balances_events : (m : Sizes) (t most victim : ℕ) (es es' : List Entry) (moves : Bool) → Balances m t most victim es es' moves
    → (committed_in es' ≡ committed_in es) ⊎ ((moved : List Item) × (committed_in es' ≡ committed_in es ++ Steal victim moved ∷ []))
balances_events m t most victim es es' true did =
    let looked = own_looked t did.own (Some did.front) es in
    let moved : List Item = did.tries.0 in let found = did.tries.1.found in
    let more : List Entry = Acquired (own_part victim) found ∷ Committed (Steal victim moved) ∷ Released (own_part victim) ∷ [] in
    let steps : es' ≡ looked ++ (more ++ Released (own_part t) ∷ []) = did.steps ∙ (ap (λ z. z ++ Released (own_part t) ∷ []) did.tries.1.steps ∙ append_assoc looked more (Released (own_part t) ∷ [])) in
    inr (moved, goes_on es looked (more ++ Released (own_part t) ∷ []) es' (look_quiet t did.own (Some did.front) es) steps)
balances_events m t most victim es es' false did =
    let looked = own_looked t did.own (Some did.front) es in
    let added : List Entry = did.tries.0 in
    let steps : es' ≡ looked ++ (added ++ Released (own_part t) ∷ []) = did.steps ∙ (ap (λ z. z ++ Released (own_part t) ∷ []) did.tries.2 ∙ append_assoc looked added (Released (own_part t) ∷ [])) in
    inl (same_events looked (added ++ Released (own_part t) ∷ []) es' steps (quiet did.front did.own added did.tries.1) ∙ look_quiet t did.own (Some did.front) es)
  where
    quiet : (front : ℕ) (own : List Item) (added : List Entry) → StealsNone front most m.k victim own added → committed_in (added ++ Released (own_part t) ∷ []) ≡ []
    quiet front own added (inl missed) = ap (λ z. committed_in (z ++ Released (own_part t) ∷ [])) missed.1
    quiet front own added (inr none) = ap (λ z. committed_in (z ++ Released (own_part t) ∷ [])) none.2

-- so it inserts and deletes nothing
balances_gain : (m : Sizes) (t most victim : ℕ) (es es' : List Entry) (moves : Bool) → Balances m t most victim es es' moves → Gains es es' [] []
balances_gain m t most victim es es' moves did = by_events (balances_events m t most victim es es' moves did)
  where
    by_events : (committed_in es' ≡ committed_in es) ⊎ ((moved : List Item) × (committed_in es' ≡ committed_in es ++ Steal victim moved ∷ [])) → Gains es es' [] []
    by_events (inl none) = quiet_gains es es' none
    by_events (inr (moved, one)) = record { inserted_are = inserts es es' (Steal victim moved ∷ []) one; deleted_are = deletes es es' (Steal victim moved ∷ []) one }

-- whatever it answers
pub balance_gains : (m : Sizes) (t most victim : ℕ) (es es' : List Entry) (answer : Result Bool Busy) → IfOk answer (Balances m t most victim es es') → IfErr answer (MissesOwn t es es') → Gains es es' [] []
balance_gains m t most victim es es' (Ok moves) ok err = balances_gain m t most victim es es' moves ok
balance_gains m t most victim es es' (Err busy) ok err = quiet_gains es es' (same_events es (Missed (own_part t) busy.by ∷ []) es' err.steps refl)
