-- The members in the slots of a queue.
use Rattle.std.proofs.Common.{◌≡◌, ◌||◌, ℕ, zero, suc, ◌<◌, ◌≤◌, ◌-◌, ◌++◌, Bool, false, List, [], ◌∷◌, length, map, slice_index_or, nat_lt, refl, sym, ap, subst, ◌∙◌, arith}
use Rattle.std.specs.Prelude.{All, take, drop, replicate}
use Rattle.std.proofs.lemmas.Bool.{lt-ltb, true≢false}
use Rattle.std.proofs.lemmas.List.{drop-replicate, length-map}
use Rattle.std.proofs.lemmas.List.Elements.{All-nil, All-cons}
use mathlib.Core.Option.{some-ne-none}
use Rattle.klsm_owned.specs.declared.owned.OwnedMember.{OwnedMember}
use Rattle.klsm_owned.specs.Owned.{AreAllOfTheirBoard, member_of, members_of}
use Rattle.klsm_c.specs.declared.slot.Slot.{Slot}
use Rattle.klsm_c.specs.Slots.{AreClosed, alone, held_in, one_after_another, owned_in, some_open}
use Rattle.klsm_c.proofs.ListLemmas.{all_copied, index_copied, index_mapped}

abbrev pub none : List OwnedMember
none = []

abbrev pub blank : Slot → List OwnedMember
blank slot = none

abbrev pub held : Slot → List OwnedMember
held slot = slot.handle.held

-- no members are all those of a board
pub none_are_whole : AreAllOfTheirBoard []
none_are_whole = λ i a there board of. absurd (some-ne-none a (sym there))

joined_none : (n : ℕ) → one_after_another (replicate n none) ≡ []
joined_none zero = refl
joined_none (suc n) = joined_none n

-- slots that have nothing are closed
closed_of : (slots old : List Slot) → held_in slots ≡ map blank old → AreClosed slots
closed_of slots old is = each slots (subst (All (λ xs. xs ≡ [])) (sym is) (blanks old))
  where
    blanks : (old : List Slot) → All (λ xs. xs ≡ []) (map blank old)
    blanks [] = All-nil (λ xs. xs ≡ [])
    blanks (s ∷ ss) = All-cons (λ xs. xs ≡ []) none (map blank ss) refl (blanks ss)

    each : (slots : List Slot) → All (λ xs. xs ≡ []) (held_in slots) → All (λ slot. held slot ≡ []) slots
    each [] all = All-nil (λ slot. held slot ≡ [])
    each (s ∷ ss) all = All-cons (λ slot. held slot ≡ []) s ss (all 0 none (omega arith)) (each ss (λ k d h. all (suc k) d (omega (arith, h))))

pub all_closed : (slots old : List Slot) (i : ℕ) → held_in slots ≡ take i (map blank old) ++ drop i (held_in old) → length old ≤ i → AreClosed slots
all_closed slots old i is end =
    closed_of slots old (is ∙ all_copied (map blank old) (held_in old) i (omega (arith, length-map old blank, end)) (omega (arith, length-map old held, end)))

-- and closed slots have no members
pub closed_own_none : (slots : List Slot) → AreClosed slots → owned_in slots ≡ []
closed_own_none [] closed = refl
closed_own_none (s ∷ ss) closed = ap (λ xs. xs ++ owned_in ss) (closed 0 s (omega arith)) ∙ closed_own_none ss (λ k d h. closed (suc k) d (omega (arith, h)))

pub closed_are_whole : (slots : List Slot) → AreClosed slots → AreAllOfTheirBoard (members_of (owned_in slots))
closed_are_whole slots closed = subst (λ xs. AreAllOfTheirBoard (members_of xs)) (sym (closed_own_none slots closed)) none_are_whole

no_members : (xs : List OwnedMember) (more : Bool) → (nat_lt 0 (length xs) || more) ≡ false → (xs ≡ []) × (more ≡ false)
no_members [] more is = (refl, is)
no_members (x ∷ xs) more is = absurd (true≢false (sym (ap (λ b. b || more) (lt-ltb 0 (length (x ∷ xs)) (omega arith))) ∙ is))

-- where no slot is open, none has a member
pub none_open : (slots : List Slot) → some_open slots ≡ false → held_in slots ≡ replicate (length slots) none
none_open [] closed = refl
none_open (s ∷ ss) closed = let h = no_members (held s) (some_open ss) closed in
    ap (λ xs. xs ∷ held_in ss) h.0 ∙ ap (λ xss. none ∷ xss) (none_open ss h.1)

-- the slots of the members, and then closed ones
joined_front : (xs : List OwnedMember) (n : ℕ) → one_after_another (map alone xs ++ replicate n none) ≡ xs
joined_front [] n = joined_none n
joined_front (x ∷ xs) n = ap (λ ys. x ∷ ys) (joined_front xs n)

pub filled_own : (slots old : List Slot) (xs : List OwnedMember) (t : ℕ) → some_open old ≡ false → held_in slots ≡ map alone xs ++ drop t (held_in old) → owned_in slots ≡ xs
filled_own slots old xs t closed is =
    ap one_after_another (is ∙ ap (λ xss. map alone xs ++ xss) (ap (drop t) (none_open old closed) ∙ drop-replicate t (length old) none)) ∙ joined_front xs (length old - t)

pub filled_front : (slots old : List Slot) (xs : List OwnedMember) (t : ℕ) → some_open old ≡ false → held_in slots ≡ map alone xs ++ drop t (held_in old)
    → held_in slots ≡ map alone (owned_in slots) ++ replicate (length old - t) none
filled_front slots old xs t closed is =
    is ∙ (ap (λ xss. map alone xs ++ xss) (ap (drop t) (none_open old closed) ∙ drop-replicate t (length old) none)
    ∙ ap (λ ys. map alone ys ++ replicate (length old - t) none) (sym (filled_own slots old xs t closed is)))

-- a slot that was not yet come to has what it had
pub still_held : (now old : List Slot) (i : ℕ) (d : Slot) → held_in now ≡ take i (map blank old) ++ drop i (held_in old) → length now ≡ length old → i < length old
    → held (slice_index_or now i d) ≡ held (slice_index_or old i d)
still_held now old i d e same h =
    sym (index_mapped held now i d none (omega (arith, same, h))).1
    ∙ (ap (λ xs. slice_index_or xs i none) e
    ∙ (index_copied (map blank old) (held_in old) i none (index_mapped blank old i d none h).0 (index_mapped held old i d none h).0
    ∙ (index_mapped held old i d none h).1))

-- what a slot had, where each has what it had
pub same_held : (now old : List Slot) (i : ℕ) (d : Slot) → held_in now ≡ held_in old → length now ≡ length old → i < length old
    → held (slice_index_or now i d) ≡ held (slice_index_or old i d)
same_held now old i d e same h =
    sym (index_mapped held now i d none (omega (arith, same, h))).1
    ∙ (ap (λ xs. slice_index_or xs i none) e ∙ (index_mapped held old i d none h).1)

one_open : (xs : List OwnedMember) (ss : List Slot) → xs ++ owned_in ss ≡ [] → (owned_in ss ≡ [] → some_open ss ≡ false) → (nat_lt 0 (length xs) || some_open ss) ≡ false
one_open [] ss is more = more is
one_open (x ∷ xs) ss is more = let no : length (x ∷ (xs ++ owned_in ss)) ≡ 0 = ap length is in absurd (omega (arith, no))

-- where there is no member, no slot is open
pub none_open_of : (slots : List Slot) → owned_in slots ≡ [] → some_open slots ≡ false
none_open_of [] is = refl
none_open_of (s ∷ ss) is = one_open (held s) ss is (none_open_of ss)

pub no_owned : (xs : List OwnedMember) → members_of xs ≡ [] → xs ≡ []
no_owned [] is = refl
no_owned (x ∷ xs) is = let no : length (member_of x ∷ members_of xs) ≡ 0 = ap length is in absurd (omega (arith, no))
