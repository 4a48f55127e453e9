-- The items of a queue for one thread, before and after an insertion or a deletion.
use Rattle.std.proofs.Common.{◌≡◌, ℕ, ◌+◌, ◌-◌, ◌<◌, ◌≤◌, ◌^◌, ◌↔◌, Bool, true, false, not, List, [], ◌∷◌, ◌++◌, length, Option, Some, None, MatchOption, IfSome, refl, sym, ap, ◌∙◌, arith, inl, inr, append_assoc, if◌then◌else◌}
use Rattle.std.specs.List.{All, slice_get}
use Rattle.std.proofs.lemmas.List.{length-append}
use Rattle.std.proofs.lemmas.List.Elements.{All-from_recursion, recursion_from_All}
use Rattle.klsm_run.specs.declared.item.Item.{Item}
use Rattle.klsm_run.specs.ItemOrder.{is_smaller}
use Rattle.klsm_run.specs.Content.{placed, sorted, IsAscending, ShareNone}
use Rattle.klsm_run.proofs.AllLemmas.{all_append}
use Rattle.klsm_run.proofs.SortedLemmas.{all_sorted, length_sorted}
use Rattle.klsm_run.proofs.ContainsLemmas.{contains_unsorted}
use Rattle.klsm_run.proofs.ApartLemmas.{apart_if_sharing_none, ascending_sorted}
use Rattle.klsm_run.proofs.ContentLemmas.{sorted_middle, sorted_swap, sorted_same_behind, sorted_sorted, sorted_itself}
use Rattle.klsm_run.proofs.LesserLemmas.{lesser, first_append}
use Rattle.klsm_run.proofs.IndexLemmas.{taken_at}
use Rattle.klsm_run.proofs.RankLemmas.{none_below_least, empty_if_no_least}
use Rattle.klsm_run.proofs.LeastLemmas.{placed_least}
use Rattle.klsm_run.specs.Capacity.{IsCapacity, heap_room}
use Rattle.klsm_lsm.specs.Lsm.{content, IsLsm}
use Rattle.klsm_lsm.specs.Limit.{IsLevelCount, limit_of}
use Rattle.klsm_lsm.specs.Adding.{add}
use Rattle.klsm_lsm.proofs.ContentLemmas.{ascending_content}
use Rattle.klsm_lsm.proofs.AddLemmas.{sorted_add}
use Rattle.klsm_lsm.proofs.CutLemmas.{sorted_cut}
use Rattle.klsm_parts.specs.Parts.{PartState, items_in, least_in, candidates_of}
use Rattle.klsm_parts.specs.Flushing.{moved, kept}
use Rattle.klsm_parts.specs.Taking.{picks, lesser_of, IsCutFrom, Leaves}
use Rattle.klsm_parts.specs.Queues.{QueueState, IsNumbered, IsQueue, Joins, HaveNoPlace, IsFull}
use Rattle.klsm_parts.proofs.TakeLemmas.{IsTested}
use Rattle.klsm_parts.proofs.PairLemmas.{ArePair, pair_put, pair_flushed, pair_taken}

-- the items of two parts together
abbrev pub both : PartState → PartState → List Item
both own shared = sorted (items_in own ++ items_in shared)

abbrev pub queue_of : PartState → PartState → ℕ → QueueState
queue_of own shared n = record { own = own; shared = shared; inserted = n }

-- the parts of a queue, apart from its ranges
pair_of : (capacity levels n : ℕ) (own shared : PartState) → IsQueue capacity levels (queue_of own shared n) → ArePair n own shared
pair_of capacity levels n own shared queue = record {
  same_k = queue.same_k;
  apart = queue.apart;
  own_stamped = queue.own_numbered;
  shared_stamped = queue.shared_numbered;
}

queue_if_pair : (capacity levels n next : ℕ) (own own_after shared shared_after : PartState) → own_after.k ≡ own.k → ArePair next own_after shared_after
    → IsQueue capacity levels (queue_of own shared n) → IsQueue capacity levels (queue_of own_after shared_after next)
queue_if_pair capacity levels n next own own_after shared shared_after k pair queue = record {
  same_k = pair.same_k;
  apart = pair.apart;
  own_numbered = pair.own_stamped;
  shared_numbered = pair.shared_stamped;
  k_in_range = rw k queue.k_in_range;
  capacity_in_range = queue.capacity_in_range;
  levels_in_range = queue.levels_in_range;
}

-- each part may be sorted first
both_unsorted : (a b : List Item) → sorted (sorted a ++ sorted b) ≡ sorted (a ++ b)
both_unsorted a b = sorted_sorted a (sorted b) ∙ sorted_same_behind a (sorted b) b (sorted_itself b)

-- lists of one content have one content in front of the same list
same_in_front : (a b c : List Item) → sorted a ≡ sorted b → sorted (a ++ c) ≡ sorted (b ++ c)
same_in_front a b c same = sorted_swap a c ∙ (sorted_same_behind c a b same ∙ sorted_swap c b)

-- with an item more, part by part and together
one_more : (x : Item) (a b a' b' : List Item) → sorted (a' ++ b') ≡ sorted (x ∷ (a ++ b)) → sorted (sorted a' ++ sorted b') ≡ sorted (x ∷ sorted (sorted a ++ sorted b))
one_more x a b a' b' same =
    both_unsorted a' b' ∙ (same ∙ ap (placed x) (sym (sorted_itself (sorted a ++ sorted b) ∙ both_unsorted a b)))

-- after a put
put_joins : (own shared : List (List Item)) (x : Item) → sorted (content (add own (x ∷ [])) ++ content shared) ≡ sorted (x ∷ (content own ++ content shared))
put_joins own shared x =
    same_in_front (content (add own (x ∷ []))) (x ∷ content own) (content shared) (sorted_add own (x ∷ []) ∙ sorted_swap (content own) (x ∷ []))

-- after a flush
flush_joins : (own shared : List (List Item)) (x : Item) → sorted (content (kept own x) ++ content (add shared (moved own x))) ≡ sorted (x ∷ (content own ++ content shared))
flush_joins [] shared x = sorted_add shared (x ∷ []) ∙ sorted_swap (content shared) (x ∷ [])
flush_joins (b ∷ bs) shared x =
    put_joins bs (add shared b) x
    ∙ ap (placed x) (
    sorted_same_behind (content bs) (content (add shared b)) (content shared ++ b) (sorted_add shared b)
    ∙ (ap sorted (sym (append_assoc (content bs) (content shared) b))
    ∙ (sorted_swap (content bs ++ content shared) b
    ∙ ap sorted (sym (append_assoc b (content bs) (content shared)))))
    )

-- an item that joins two parts is one more of their items
pub joined_items : (x : Item) (own own_after shared shared_after : PartState) → Joins x own own_after shared shared_after → both own_after shared_after ≡ sorted (x ∷ both own shared)
joined_items x own own_after shared shared_after (inl put) =
    rw (put.1, put.2) (one_more x (content own.blocks) (content shared.blocks) (content (add own.blocks (x ∷ []))) (content shared.blocks) (put_joins own.blocks shared.blocks x))
joined_items x own own_after shared shared_after (inr flushed) =
    rw (flushed.1, flushed.2) (one_more x (content own.blocks) (content shared.blocks) (content (kept own.blocks x)) (content (add shared.blocks (moved own.blocks x))) (flush_joins own.blocks shared.blocks x))

pub count_joined : (x : Item) (own own_after shared shared_after : PartState) → Joins x own own_after shared shared_after → length (both own_after shared_after) ≡ length (both own shared) + 1
count_joined x own own_after shared shared_after joins =
    omega (arith, ap length (joined_items x own own_after shared shared_after joins), length_sorted (x ∷ both own shared))

-- an item that was cut out, and the rest
cut_and_rest : (x : Item) (bs rest : List (List Item)) → IsCutFrom x bs rest → sorted (content bs) ≡ sorted (x ∷ content rest)
cut_and_rest x bs rest taken = sym (ap (λ cs. sorted (x ∷ content cs)) taken.3 ∙ sorted_cut bs taken.0 taken.1 x taken.2)

-- an item that leaves one of two parts was one more of their items
pub left_items : (x : Item) (own own_after shared shared_after : PartState) → Leaves x own own_after shared shared_after → both own shared ≡ sorted (x ∷ both own_after shared_after)
left_items x own own_after shared shared_after leaves = elim leaves.2 [
  | inl own_left ↦ rw own_left.1 (one_more x (content own_after.blocks) (content shared.blocks) (content own.blocks) (content shared.blocks) (same_in_front (content own.blocks) (x ∷ content own_after.blocks) (content shared.blocks) (cut_and_rest x own.blocks own_after.blocks own_left.0)))
  | inr shared_left ↦ rw shared_left.1 (one_more x (content own.blocks) (content shared_after.blocks) (content own.blocks) (content shared.blocks) (sorted_same_behind (content own.blocks) (content shared.blocks) (x ∷ content shared_after.blocks) (cut_and_rest x shared.blocks shared_after.blocks shared_left.0) ∙ sorted_middle x (content own.blocks) (content shared_after.blocks)))
]

-- what a deletion leaves of two parts
abbrev pub IsLeft : Option Item → PartState → PartState → PartState → PartState → Type 0
IsLeft answer own own_after shared shared_after =
    MatchOption answer ((own_after ≡ own) × (shared_after ≡ shared)) (λ x. Leaves x own own_after shared shared_after)

-- what it leaves of the queue where it is the least item, and that k stays
pub items_after : (answer : Option Item) (n : ℕ) (own own_after shared shared_after : PartState) → answer ≡ slice_get (both own shared) 0 → IsLeft answer own own_after shared shared_after
    → MatchOption answer ((both own shared ≡ []) × (queue_of own_after shared_after n ≡ queue_of own shared n)) (λ x. both own shared ≡ x ∷ both own_after shared_after)
items_after None n own own_after shared shared_after least left = (ap sorted (empty_if_no_least (items_in own ++ items_in shared) (sym least)), rw (left.0, left.1) refl)
items_after (Some x) n own own_after shared shared_after least left =
    let rest = both own_after shared_after in
    let is : both own shared ≡ sorted (x ∷ rest) = left_items x own own_after shared shared_after left in
    let first : slice_get (sorted (x ∷ rest)) 0 ≡ Some x = ap (λ c. slice_get c 0) (sym is) ∙ sym least in
    is ∙ (ap (placed x) (sorted_itself (items_in own_after ++ items_in shared_after)) ∙ placed_least x rest (none_below_least x (x ∷ rest) first).1)

pub item_left : (answer : Option Item) (own own_after shared shared_after : PartState) → IsLeft answer own own_after shared shared_after → IfSome answer (λ x. Leaves x own own_after shared shared_after)
item_left None own own_after shared shared_after left = tt
item_left (Some x) own own_after shared shared_after left = left

pub k_left : (answer : Option Item) (own own_after shared shared_after : PartState) → IsLeft answer own own_after shared shared_after → own_after.k ≡ own.k
k_left None own own_after shared shared_after left = ap (λ (p : PartState). p.k) left.0
k_left (Some x) own own_after shared shared_after left = left.0

pub k_joined : (x : Item) (own own_after shared shared_after : PartState) → Joins x own own_after shared shared_after → own_after.k ≡ own.k
k_joined x own own_after shared shared_after (inl put) = ap (λ (p : PartState). p.k) put.1
k_joined x own own_after shared shared_after (inr flushed) = ap (λ (p : PartState). p.k) flushed.1

-- while numbers are left a queue is full exactly where its parts have no place
pub full_by_place : (levels : ℕ) (x : Item) (queue : QueueState) (P : Type 0) → P ↔ HaveNoPlace levels x queue.own queue.shared → queue.inserted + 1 < 2 ^ 64 → P ↔ IsFull levels x queue
full_by_place levels x queue P place left = (λ p. inr (place.0 p), λ full. elim full [ inl used ↦ absurd (omega (arith, used, left)) | inr none ↦ place.1 none ])

-- a queue stays one where an item joins its parts, and where one leaves them
pub queue_joined : (capacity levels n next : ℕ) (own own_after shared shared_after : PartState) (x : Item) → x.stamp.owner ≡ 0 → x.stamp.number ≡ n → next ≡ n + 1 → IsLsm own.blocks → Joins x own own_after shared shared_after
    → IsQueue capacity levels (queue_of own shared n) → IsQueue capacity levels (queue_of own_after shared_after next)
queue_joined capacity levels n next own own_after shared shared_after x owner is after lsm (inl put) queue =
    let pair : ArePair next own_after shared_after = rw put.2 (pair_put n next own shared own_after x owner is after put.1 (pair_of capacity levels n own shared queue)) in
    queue_if_pair capacity levels n next own own_after shared shared_after (ap (λ (p : PartState). p.k) put.1) pair queue
queue_joined capacity levels n next own own_after shared shared_after x owner is after lsm (inr flushed) queue =
    let pair = pair_flushed n next own shared own_after shared_after x owner is after lsm flushed.1 flushed.2 (pair_of capacity levels n own shared queue) in
    queue_if_pair capacity levels n next own own_after shared shared_after (ap (λ (p : PartState). p.k) flushed.1) pair queue

pub queue_left : (capacity levels n : ℕ) (answer : Option Item) (own own_after shared shared_after : PartState) → IsLeft answer own own_after shared shared_after
    → IsQueue capacity levels (queue_of own shared n) → IsQueue capacity levels (queue_of own_after shared_after n)
queue_left capacity levels n answer own own_after shared shared_after left queue =
    let pair = pair_taken answer n own own_after shared shared_after left (pair_of capacity levels n own shared queue) in
    queue_if_pair capacity levels n n own own_after shared shared_after (k_left answer own own_after shared shared_after left) pair queue

-- the queue of no item
pub queue_of_none : (capacity levels k : ℕ) → k ≤ capacity → IsCapacity capacity → IsLevelCount levels → IsQueue capacity levels (queue_of (record { k = k; blocks = [] }) (record { k = k; blocks = [] }) 0)
queue_of_none capacity levels k few capacity_in levels_in = record {
  same_k = refl;
  apart = λ x in_own in_shared. absurd (omega (arith, in_own.1));
  own_numbered = All-from_recursion (IsNumbered 0) [] tt;
  shared_numbered = All-from_recursion (IsNumbered 0) [] tt;
  k_in_range = few;
  capacity_in_range = capacity_in;
  levels_in_range = levels_in;
}

-- the number of items
pub length_both : (own shared : PartState) → length (both own shared) ≡ length (content own.blocks) + length (content shared.blocks)
length_both own shared =
    omega (
      arith,
      length_sorted (items_in own ++ items_in shared),
      length-append (items_in own) (items_in shared),
      length_sorted (content own.blocks),
      length_sorted (content shared.blocks),
    )

-- the least item is the lesser of the least ones of both parts
pub least_both : (own shared : PartState) → slice_get (both own shared) 0 ≡ lesser (least_in shared) (least_in own)
least_both own shared =
    ap (λ c. slice_get c 0) (sorted_swap (items_in own) (items_in shared))
    ∙ (first_append (items_in shared) (items_in own)
    ∙ (ap (λ c. lesser (slice_get c 0) (slice_get (sorted (items_in own)) 0)) (sorted_itself (content shared.blocks))
    ∙ ap (λ c. lesser (least_in shared) (slice_get c 0)) (sorted_itself (content own.blocks))))

-- so it is the lesser of the first candidate and the least own item
pub least_of_first : (own shared : PartState) (candidate : Item) → slice_get (candidates_of shared) 0 ≡ Some candidate → slice_get (both own shared) 0 ≡ Some (lesser_of candidate (least_in own))
least_of_first own shared candidate first =
    let is : least_in shared ≡ Some candidate = (taken_at (shared.k + 1) (items_in shared) 0 candidate first).1 in
    least_both own shared ∙ (ap (λ o. lesser o (least_in own)) is ∙ with_own (least_in own))
  where
    with_own : (o : Option Item) → lesser (Some candidate) o ≡ Some (lesser_of candidate o)
    with_own None = refl
    with_own (Some x) = refl

-- where there is no shared item it is the least own one
pub least_is_own : (o p : Option Item) → p ≡ None → o ≡ lesser p o
least_is_own o p none = rw none refl

-- where the least own item is smaller, it goes
pub own_is_lesser : (o p : Option Item) (y : Item) → p ≡ Some y → IsTested o y true → o ≡ lesser p o
own_is_lesser None p y is tested = cc
own_is_lesser (Some x) p y is tested = rw (is, sym tested) refl

pub shared_is_lesser : (o p : Option Item) (y : Item) → p ≡ Some y → IsTested o y false → Some y ≡ lesser p o
shared_is_lesser None p y is tested = rw is refl
shared_is_lesser (Some x) p y is tested = rw (is, sym tested) refl

-- where the picker is not asked, the least own item is the least of all
pub unasked_is_least : (o p : Option Item) → picks o p ≡ false → o ≡ lesser p o
unasked_is_least o None unasked = refl
unasked_is_least None (Some y) unasked = cc
unasked_is_least (Some x) (Some y) unasked = by_test (is_smaller x y) unasked
  where
    by_test : (b : Bool) → not b ≡ false → Some x ≡ Some (if b then x else y)
    by_test true unasked = refl
    by_test false bad = cc

-- while there are fewer items than the shared part can hold, and numbers are left, a queue is not full
pub not_full : (levels : ℕ) (x : Item) (queue : QueueState) → length (both queue.own queue.shared) < limit_of levels heap_room → queue.inserted < 2 ^ 64 - 1 → IsFull levels x queue → ⊥
not_full levels x queue few left (inl used) = omega (arith, left, used)
not_full levels x queue few left (inr none) = by_blocks queue.own.blocks none.1 (omega (arith, few, length_both queue.own queue.shared))
  where
    by_blocks : (bs : List (List Item)) → limit_of levels heap_room < length (content queue.shared.blocks) + length (moved bs x) → length (content bs) + length (content queue.shared.blocks) < limit_of levels heap_room → ⊥
    by_blocks [] none few = omega (arith, none, few)
    by_blocks (b ∷ bs) none few = omega (arith, none, few, length-append b (content bs))

-- the items of two parts that share none are there once each
pub ascending_both : (own shared : PartState) → IsLsm own.blocks → IsLsm shared.blocks → ShareNone (content own.blocks) (content shared.blocks) → IsAscending (both own shared)
ascending_both own shared own_lsm shared_lsm apart =
    let a = content own.blocks in
    let b = content shared.blocks in
    let sorted_apart : ShareNone (sorted a) (sorted b) = λ x in_own in_shared. apart x (contains_unsorted x a in_own) (contains_unsorted x b in_shared) in
    ascending_sorted (sorted a) (sorted b) (ascending_content own.blocks own_lsm) (ascending_content shared.blocks shared_lsm) (apart_if_sharing_none (sorted a) (sorted b) sorted_apart)

-- what is true of the items of each part is true of those of both
pub all_of_both : (P : Item → Type 0) (own shared : PartState) → All P (content own.blocks) → All P (content shared.blocks) → All P (both own shared)
all_of_both P own shared of_own of_shared =
    let a = content own.blocks in
    let b = content shared.blocks in
    let each = all_append P (sorted a) (sorted b) (all_sorted P a (recursion_from_All P a of_own)) (all_sorted P b (recursion_from_All P b of_shared)) in
    All-from_recursion P (both own shared) (all_sorted P (sorted a ++ sorted b) each)

-- the item that goes is the least one, where the picker answers the first candidate
pub least_goes : (own shared : PartState) (answer : Option Item) → (picks (least_in own) (least_in shared) ≡ false → answer ≡ least_in own)
    → (picks (least_in own) (least_in shared) ≡ true → (candidate : Item) × (slice_get (candidates_of shared) 0 ≡ Some candidate) × (answer ≡ Some (lesser_of candidate (least_in own))))
    → answer ≡ slice_get (both own shared) 0
least_goes own shared answer unasked asked = by_test (picks (least_in own) (least_in shared)) refl
  where
    by_test : (b : Bool) → picks (least_in own) (least_in shared) ≡ b → answer ≡ slice_get (both own shared) 0
    by_test true is = let chosen = asked is in chosen.2 ∙ sym (least_of_first own shared chosen.0 chosen.1)
    by_test false is = unasked is ∙ (unasked_is_least (least_in own) (least_in shared) is ∙ sym (least_both own shared))
