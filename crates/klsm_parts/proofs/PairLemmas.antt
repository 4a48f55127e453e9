-- Two parts that share no item, and whose items bear the first n stamps of owner 0: after each change of a queue for one thread.
use Rattle.std.proofs.Common.{◌≡◌, ◌≢◌, ℕ, ◌+◌, List, [], ◌∷◌, sym, ap, ◌∙◌, arith, inl, inr, Option, Some, None, MatchOption}
use Rattle.std.specs.List.{All, AllByRecursion, Contains}
use Rattle.std.proofs.lemmas.List.Elements.{All-from_recursion, recursion_from_All}
use Rattle.klsm_run.specs.declared.item.Item.{Item}
use Rattle.klsm_run.specs.Content.{ShareNone}
use Rattle.klsm_run.proofs.AllLemmas.{all_weaker, all_front, all_back}
use Rattle.klsm_run.proofs.SortedLemmas.{IsNew}
use Rattle.klsm_run.proofs.ApartLemmas.{AreApart, apart_if_sharing_none}
use Rattle.klsm_run.proofs.ContentLemmas.{absent_if_new, sharing_none_if_apart}
use Rattle.klsm_lsm.specs.Lsm.{content, IsLsm}
use Rattle.klsm_lsm.specs.Adding.{add}
use Rattle.klsm_lsm.proofs.JoinLemmas.{sharing_none_flipped}
use Rattle.klsm_lsm.proofs.AddLemmas.{all_add}
use Rattle.klsm_lsm.proofs.CutLemmas.{all_cut}
use Rattle.klsm_parts.specs.Parts.{PartState}
use Rattle.klsm_parts.specs.Flushing.{moved, kept}
use Rattle.klsm_parts.specs.Queues.{IsNumbered}
use Rattle.klsm_parts.specs.Taking.{IsCutFrom, Leaves}

-- two parts of one k with no item in common, whose items bear the first n stamps of owner 0
pub record ArePair (n : ℕ) (own shared : PartState) : Type 0 where
  pub same_k : own.k ≡ shared.k
  pub apart : ShareNone (content own.blocks) (content shared.blocks)
  pub own_stamped : All (IsNumbered n) (content own.blocks)
  pub shared_stamped : All (IsNumbered n) (content shared.blocks)

-- an item of the next number is new
new_number : (n : ℕ) (x : Item) (c : List Item) → x.stamp.number ≡ n → AllByRecursion (IsNumbered n) c → IsNew x c
new_number n x c is below = all_weaker (IsNumbered n) (λ y. y ≢ x) (λ y low same. omega (arith, ap (λ (z : Item). z.stamp.number) same, is, low.number)) c below

pub absent_number : (n : ℕ) (x : Item) (c : List Item) → x.stamp.number ≡ n → All (IsNumbered n) c → Contains c x → ⊥
absent_number n x c is below = absent_if_new x c (new_number n x c is (recursion_from_All (IsNumbered n) c below))

-- a stamp of the first n is one of the first n + 1
more : (n : ℕ) (c : List Item) → AllByRecursion (IsNumbered n) c → AllByRecursion (IsNumbered (n + 1)) c
more n c below = all_weaker (IsNumbered n) (IsNumbered (n + 1)) (λ y low. record { owner = low.owner; number = omega (arith, low.number) }) c below

-- items that are new to blocks and to a run are new to the blocks with it
apart_from_both : (c : List Item) (bs : List (List Item)) (run : List Item) → AreApart c (content bs) → AreApart c run → AreApart c (content (add bs run))
apart_from_both [] bs run h k = tt
apart_from_both (y ∷ ys) bs run h k = (all_add (λ z. z ≢ y) bs run h.0 k.0, apart_from_both ys bs run h.1 k.1)

-- a part with other blocks
abbrev pub with_blocks : PartState → List (List Item) → PartState
with_blocks part blocks = record { k = part.k; blocks = blocks }

-- after a put of the item of the next number
pub pair_put : (n next : ℕ) (own shared own_after : PartState) (x : Item) → x.stamp.owner ≡ 0 → x.stamp.number ≡ n → next ≡ n + 1 → own_after ≡ with_blocks own (add own.blocks (x ∷ [])) → ArePair n own shared → ArePair next own_after shared
pair_put n next own shared own_after x owner is after own_is pair =
    let own_below = recursion_from_All (IsNumbered n) (content own.blocks) pair.own_stamped in
    let shared_below = recursion_from_All (IsNumbered n) (content shared.blocks) pair.shared_stamped in
    rw (after, own_is) record {
      same_k = pair.same_k;
      apart = sharing_none_if_apart (content (add own.blocks (x ∷ []))) (content shared.blocks) (all_add (λ y. IsNew y (content shared.blocks)) own.blocks (x ∷ []) (apart_if_sharing_none (content own.blocks) (content shared.blocks) pair.apart) (new_number n x (content shared.blocks) is shared_below, tt));
      own_stamped = All-from_recursion (IsNumbered (n + 1)) (content (add own.blocks (x ∷ []))) (all_add (IsNumbered (n + 1)) own.blocks (x ∷ []) (more n (content own.blocks) own_below) (record { owner = owner; number = omega (arith, is) }, tt));
      shared_stamped = All-from_recursion (IsNumbered (n + 1)) (content shared.blocks) (more n (content shared.blocks) shared_below);
    }

-- the blocks after a flush of it
record AreFlushed (n : ℕ) (own shared : List (List Item)) : Type 0 where
  apart : ShareNone (content own) (content shared)
  own_stamped : AllByRecursion (IsNumbered n) (content own)
  shared_stamped : AllByRecursion (IsNumbered n) (content shared)

flushed : (n : ℕ) (own shared : List (List Item)) (x : Item) → x.stamp.owner ≡ 0 → x.stamp.number ≡ n → IsLsm own → AreApart (content own) (content shared) → AllByRecursion (IsNumbered n) (content own) → AllByRecursion (IsNumbered n) (content shared) → AreFlushed (n + 1) (kept own x) (add shared (moved own x))
flushed n [] shared x owner is lsm apart own_below shared_below = record {
  apart = sharing_none_if_apart [] (content (add shared (x ∷ []))) tt;
  own_stamped = tt;
  shared_stamped = all_add (IsNumbered (n + 1)) shared (x ∷ []) (more n (content shared) shared_below) (record { owner = owner; number = omega (arith, is) }, tt);
}
flushed n (b ∷ bs) shared x owner is lsm apart own_below shared_below =
    let front_below = all_front (IsNumbered n) b (content bs) own_below in
    let back_below = all_back (IsNumbered n) b (content bs) own_below in
    let from_shared : AreApart (content bs) (content shared) = all_back (λ y. IsNew y (content shared)) b (content bs) apart in
    let from_largest : AreApart (content bs) b = apart_if_sharing_none (content bs) b (sharing_none_flipped b (content bs) lsm.2) in
    let new = all_add (λ z. z ≢ x) shared b (new_number n x (content shared) is shared_below) (new_number n x b is front_below) in
    record {
      apart = sharing_none_if_apart (content (add bs (x ∷ []))) (content (add shared b)) (all_add (λ y. IsNew y (content (add shared b))) bs (x ∷ []) (apart_from_both (content bs) shared b from_shared from_largest) (new, tt));
      own_stamped = all_add (IsNumbered (n + 1)) bs (x ∷ []) (more n (content bs) back_below) (record { owner = owner; number = omega (arith, is) }, tt);
      shared_stamped = all_add (IsNumbered (n + 1)) shared b (more n (content shared) shared_below) (more n b front_below);
    }

pub pair_flushed : (n next : ℕ) (own shared own_after shared_after : PartState) (x : Item) → x.stamp.owner ≡ 0 → x.stamp.number ≡ n → next ≡ n + 1 → IsLsm own.blocks → own_after ≡ with_blocks own (kept own.blocks x) → shared_after ≡ with_blocks shared (add shared.blocks (moved own.blocks x)) → ArePair n own shared → ArePair next own_after shared_after
pair_flushed n next own shared own_after shared_after x owner is after lsm own_is shared_is pair =
    let blocks = flushed n own.blocks shared.blocks x owner is lsm (apart_if_sharing_none (content own.blocks) (content shared.blocks) pair.apart) (recursion_from_All (IsNumbered n) (content own.blocks) pair.own_stamped) (recursion_from_All (IsNumbered n) (content shared.blocks) pair.shared_stamped) in
    rw (after, own_is, shared_is) record {
      same_k = pair.same_k;
      apart = blocks.apart;
      own_stamped = All-from_recursion (IsNumbered (n + 1)) (content (kept own.blocks x)) blocks.own_stamped;
      shared_stamped = All-from_recursion (IsNumbered (n + 1)) (content (add shared.blocks (moved own.blocks x))) blocks.shared_stamped;
    }

-- parts that did not change
abbrev pub AreSame : PartState → PartState → PartState → PartState → Type 0
AreSame own own_after shared shared_after = (own_after ≡ own) × (shared_after ≡ shared)

pub pair_same : (n : ℕ) (own own_after shared shared_after : PartState) → AreSame own own_after shared shared_after → ArePair n own shared → ArePair n own_after shared_after
pair_same n own own_after shared shared_after (own_is, shared_is) pair = rw (own_is, shared_is) pair

-- what is true of each item is true of each that is left
all_left : (P : Item → Type 0) (x : Item) (old new : List (List Item)) → IsCutFrom x old new → AllByRecursion P (content old) → AllByRecursion P (content new)
all_left P x old new left all = rw (left.3) (all_cut P old left.0 left.1 all)

-- after an item left one of the parts
pair_left : (n : ℕ) (x : Item) (own own_after shared shared_after : PartState) → Leaves x own own_after shared shared_after → ArePair n own shared → ArePair n own_after shared_after
pair_left n x own own_after shared shared_after leaves pair =
    let apart = apart_if_sharing_none (content own.blocks) (content shared.blocks) pair.apart in
    let flipped = apart_if_sharing_none (content shared.blocks) (content own.blocks) (sharing_none_flipped (content own.blocks) (content shared.blocks) pair.apart) in
    let k = leaves.0 ∙ (pair.same_k ∙ sym leaves.1) in
    elim leaves.2 [
      | inl own_left ↦ record {
        same_k = k;
        apart = rw own_left.1 (sharing_none_if_apart (content own_after.blocks) (content shared.blocks) (all_left (λ y. IsNew y (content shared.blocks)) x own.blocks own_after.blocks own_left.0 apart));
        own_stamped = All-from_recursion (IsNumbered n) (content own_after.blocks) (all_left (IsNumbered n) x own.blocks own_after.blocks own_left.0 (recursion_from_All (IsNumbered n) (content own.blocks) pair.own_stamped));
        shared_stamped = rw own_left.1 pair.shared_stamped;
      }
      | inr shared_left ↦ record {
        same_k = k;
        apart = rw shared_left.1 (sharing_none_flipped (content shared_after.blocks) (content own.blocks) (sharing_none_if_apart (content shared_after.blocks) (content own.blocks) (all_left (λ y. IsNew y (content own.blocks)) x shared.blocks shared_after.blocks shared_left.0 flipped)));
        own_stamped = rw shared_left.1 pair.own_stamped;
        shared_stamped = All-from_recursion (IsNumbered n) (content shared_after.blocks) (all_left (IsNumbered n) x shared.blocks shared_after.blocks shared_left.0 (recursion_from_All (IsNumbered n) (content shared.blocks) pair.shared_stamped));
      }
    ]

-- after a take
pub pair_taken : (answer : Option Item) (n : ℕ) (own own_after shared shared_after : PartState) → MatchOption answer (AreSame own own_after shared shared_after) (λ x. Leaves x own own_after shared shared_after) → ArePair n own shared → ArePair n own_after shared_after
pair_taken None n own own_after shared shared_after left pair = pair_same n own own_after shared shared_after left pair
pair_taken (Some x) n own own_after shared shared_after left pair = pair_left n x own own_after shared shared_after left pair
