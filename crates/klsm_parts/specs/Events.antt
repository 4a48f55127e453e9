-- Events: what takes effect on the contents of parts at one step, each with the condition under which it may and what it leaves.
-- A content is given by its ascending list, `own` for the acting member's own part, `shared` for the shared one and `victim`
-- for another member's own part; what an event leaves is ascending again.
use Rattle.std.specs.Prelude.{ℕ, ◌≡◌, ◌≢◌, ◌+◌, ◌<◌, ◌≤◌, ◌==◌, ◌⊎◌, false, if◌then◌else◌, List, [], ◌∷◌, ◌++◌, length, slice_get, Option, Some, None}
use Rattle.std.specs.List.{AllByRecursion, Contains, count_by}
use Rattle.klsm_run.specs.declared.item.Item.{Item}
use Rattle.klsm_run.specs.ItemOrder.{is_same, is_smaller}
use Rattle.klsm_run.specs.Content.{sorted, without, IsAscending}
use Rattle.klsm_parts.specs.Least.{least, IsLeast}

-- how often an item is in a content
abbrev pub times : Item → List Item → ℕ
times x c = count_by (is_same x) c

-- no item is in a content oftener than in another
abbrev pub IsWithin : List Item → List Item → Type 0
IsWithin moved c = (x : Item) → times x moved ≤ times x c

-- a content with the items of another
abbrev pub plus : List Item → List Item → List Item
plus c joining = sorted (joining ++ c)

-- a content without the items of another
abbrev pub minus : List Item → List Item → List Item
minus c [] = c
minus c (x ∷ leaving) = minus (without x c) leaving

-- Put x: it goes into the own part, which has room
abbrev pub MayPut : ℕ → List Item → Type 0
MayPut k own = length own < k

-- Flush x: it goes into the own part, and items move from there to the shared part, so that at most k stay
pub record MayFlush (k : ℕ) (own : List Item) (x : Item) (moved : List Item) : Type 0 where
  pub ascending : IsAscending moved
  pub within : IsWithin moved (x ∷ own)
  pub few_stay : length (minus (plus own (x ∷ [])) moved) ≤ k

-- in reach of a deletion: where the shared part is empty the least own item, else the lesser of a candidate and the least own item
abbrev pub IsInReach : ℕ → List Item → List Item → Item → Type 0
IsInReach k own shared x =
    ((shared ≡ []) × IsLeast x own)
    ⊎ ((candidate : Item) × Contains (least (k + 1) shared) candidate × IsLeast x (candidate ∷ own))

-- a deletion of x skips none of an owner's items: none that the owner inserted is smaller
abbrev pub SkipsNoneOf : ℕ → List Item → Item → Type 0
SkipsNoneOf owner c x = AllByRecursion (λ y. y.stamp.owner ≡ owner → is_smaller y x ≡ false) c

-- Take x: it is in reach, and skips no item of the two parts that the acting member itself inserted
pub record MayTake (k owner : ℕ) (own shared : List Item) (x : Item) : Type 0 where
  pub in_reach : IsInReach k own shared x
  pub own_order : SkipsNoneOf owner (own ++ shared) x

-- the key of an item, and the greatest number where there is none
abbrev pub key_or_greatest : Option Item → ℕ
key_or_greatest None = 18446744073709551615
key_or_greatest (Some x) = x.key

-- the front of a content: the key of its least item
abbrev pub front_of : List Item → ℕ
front_of c = key_or_greatest (slice_get (sorted c) 0)

-- Early x, by a front: the least own item, whose key is below the front
pub record MayTakeEarly (own : List Item) (x : Item) (front : ℕ) : Type 0 where
  pub least : IsLeast x own
  pub below : x.key < front

-- Nothing: both parts are empty, and stay so
pub record MayFindNothing (own shared : List Item) : Type 0 where
  pub own_empty : own ≡ []
  pub shared_empty : shared ≡ []

-- Spy: items move from a victim's part to the own one, which is empty
pub record MaySpy (own victim moved : List Item) : Type 0 where
  pub own_empty : own ≡ []
  pub some : moved ≢ []
  pub ascending : IsAscending moved
  pub within : IsWithin moved victim

-- Refill: items move from the shared part to the own one, which has room for them
pub record MayRefill (k : ℕ) (own shared moved : List Item) : Type 0 where
  pub some : moved ≢ []
  pub ascending : IsAscending moved
  pub within : IsWithin moved shared
  pub room : length own + length moved ≤ k

-- what a Put leaves in the own part
abbrev pub own_after_put : List Item → Item → List Item
own_after_put own x = plus own (x ∷ [])

-- what a Flush leaves in the own part and in the shared one
abbrev pub own_after_flush : List Item → Item → List Item → List Item
own_after_flush own x moved = minus (plus own (x ∷ [])) moved

abbrev pub shared_after_flush : List Item → List Item → List Item
shared_after_flush shared moved = plus shared moved

-- what a Take leaves in the own part and in the shared one: the item leaves the part that has it
abbrev pub own_after_take : List Item → Item → List Item
own_after_take own x = without x own

abbrev pub shared_after_take : List Item → List Item → Item → List Item
shared_after_take own shared x = if times x own == 0 then without x shared else shared

-- what an Early leaves in the own part
abbrev pub own_after_early : List Item → Item → List Item
own_after_early own x = without x own

-- what a Spy leaves in the own part and in the victim's
abbrev pub own_after_spy : List Item → List Item
own_after_spy moved = moved

abbrev pub victim_after_spy : List Item → List Item → List Item
victim_after_spy victim moved = minus victim moved

-- what a Refill leaves in the own part and in the shared one
abbrev pub own_after_refill : List Item → List Item → List Item
own_after_refill own moved = plus own moved

abbrev pub shared_after_refill : List Item → List Item → List Item
shared_after_refill shared moved = minus shared moved
