-- The least items of a shared part on their way to an own one.
use Rattle.std.proofs.Common.{◌≡◌, ◌≢◌, ℕ, ◌+◌, ◌-◌, ◌/◌, min, ◌<◌, ◌≤◌, cond, zero, suc, List, [], ◌∷◌, ◌++◌, length, take, drop, refl, sym, ap, ◌∙◌, subst, arith}
use Rattle.std.specs.List.{AllByRecursion, count_by}
use Rattle.std.proofs.lemmas.List.{drop-drop, drop-take, length-drop, length-take, take-append-drop}
use Rattle.std.proofs.lemmas.Slice.{take-put_mid}
use borrow.Rule.Slice.PartMut.{put_mid, same_len_mid}
use Rattle.std.proofs.lemmas.List.Sums.{sum_by-append}
use Rattle.klsm_run.specs.declared.item.Item.{Item}
use Rattle.klsm_run.specs.ItemOrder.{IsSmaller, is_same}
use Rattle.klsm_run.specs.Content.{sorted, IsAscending}
use Rattle.klsm_run.proofs.AllLemmas.{all_weaker}
use Rattle.klsm_run.proofs.ApartLemmas.{AreApart}
use Rattle.klsm_run.proofs.ContentLemmas.{sorted_itself}
use Rattle.klsm_run.proofs.HalfLemmas.{ascending_take, ascending_drop}
use Rattle.klsm_run.proofs.OrderLemmas.{not_smaller_than_itself}
use Rattle.klsm_run.proofs.SortedLemmas.{length_sorted, sorted_ascending}
use Rattle.klsm_parts.specs.Events.{MayRefill, plus, own_after_refill, shared_after_refill}
use Rattle.klsm_parts.specs.Refilling.{refill_count}
use Rattle.klsm_parts.proofs.EventLemmas.{minus_moved}

-- how many may move, reckoned from the sizes
pub counted : (most k : ℕ) (own shared : List Item) (limit held size first n : ℕ) → limit ≡ k → held ≡ length own → size ≡ length shared
    → first ≡ min most ((limit - held) - (limit - held) / 2) → n ≡ min first size → n ≡ refill_count most k own shared
counted most k own shared limit held size first n limited holds sized halved is = omega (arith, limited, holds, sized, halved, is)

-- so many items are there, and have room in the own part
pub record HaveRoom (k n : ℕ) (own shared : List Item) : Type 0 where
  pub within : n ≤ length shared
  pub room : length own + n ≤ k

pub have_room : (most k n : ℕ) (own shared : List Item) → n ≡ refill_count most k own shared → length own ≤ k → HaveRoom k n own shared
have_room most k n own shared is few = record {
  within = omega (arith, is);
  room = omega (arith, is, few);
}

-- the n least items of an ascending content are moved to a run
pub record AreMoved (n : ℕ) (shared run left : List Item) : Type 0 where
  pub run_is : run ≡ take n shared
  pub left_is : left ≡ drop n shared

-- where that many places were lent
pub are_moved : (n places : ℕ) (shared run left : List Item) → places ≡ n → run ≡ take places shared → left ≡ drop places shared → AreMoved n shared run left
are_moved n places shared run left is moved rest = record {
  run_is = moved ∙ ap (λ i. take i shared) is;
  left_is = rest ∙ ap (λ i. drop i shared) is;
}

-- the first ones, told in two parts
pub take_parts : (n m : ℕ) (xs : List Item) → take (n + m) xs ≡ take n xs ++ take m (drop n xs)
take_parts n m xs = sym (take-append-drop n (take (n + m) xs)) ∙ (ap (λ ys. ys ++ drop n (take (n + m) xs)) (shorter n (n + m) xs (omega arith)) ∙ ap (λ ys. take n xs ++ ys) (drop-take n m xs))
  where
    shorter : (i k : ℕ) (ys : List Item) → i ≤ k → take i (take k ys) ≡ take i ys
    shorter zero k ys h = refl
    shorter (suc i) zero ys h = absurd (omega (arith, h))
    shorter (suc i) (suc k) [] h = refl
    shorter (suc i) (suc k) (y ∷ ys) h = ap (λ (zs : List Item). y ∷ zs) (shorter i k ys (omega (arith, h)))

-- m items more are moved to the places from n on, of which k are lent
pub record AreMovedOn (n m : ℕ) (all old places left : List Item) : Type 0 where
  pub few : n + m ≤ length places
  pub len : length places ≡ length old
  pub moved : take (n + m) places ≡ take (n + m) all
  pub left_is : left ≡ drop (n + m) all

pub moved_on : (n m k : ℕ) (all places new before left : List Item) → k ≡ m → n + m ≤ length places → take n places ≡ take n all → before ≡ drop n all → n + m ≤ length all → new ≡ take k before → left ≡ drop k before → AreMovedOn n m all places (put_mid n k places new) left
moved_on n m k all places new before left is few so_far before_is enough new_is left_is =
    let size : length new ≡ m = omega (arith, ap length new_is, length-take k before, is, ap length before_is, length-drop n all, enough) in
    let lent : length new ≡ length (take k (drop n places)) = omega (arith, size, length-take k (drop n places), length-drop n places, few, is) in
    let same : length (put_mid n k places new) ≡ length places = same_len_mid n k places new lent in
    record {
      few = omega (arith, same, few);
      len = same;
      moved = take-put_mid n k places new (n + m) (omega (arith, size)) (omega (arith, few))
          ∙ (ap (λ xs. xs ++ new) so_far ∙ (ap (λ xs. take n all ++ xs) (new_is ∙ (ap (λ i. take i before) is ∙ ap (take m) before_is)) ∙ sym (take_parts n m all)));
      left_is = left_is ∙ (ap (λ i. drop i before) is ∙ (ap (drop m) before_is ∙ drop-drop m n all));
    }

all_drop : (P : Item → Type 0) (n : ℕ) (xs : List Item) → AllByRecursion P xs → AllByRecursion P (drop n xs)
all_drop P zero xs all = all
all_drop P (suc n) [] all = tt
all_drop P (suc n) (x ∷ xs) all = all_drop P n xs all.1

-- of an ascending list no item is both moved and left
pub split_apart : (n : ℕ) (s : List Item) → IsAscending s → AreApart (take n s) (drop n s)
split_apart zero s up = tt
split_apart (suc n) [] up = tt
split_apart (suc n) (x ∷ s) up = (
  all_drop (λ y. y ≢ x) n s (all_weaker (IsSmaller x) (λ y. y ≢ x) (λ y less same. not_smaller_than_itself x (subst (IsSmaller x) same less)) s up.0),
  split_apart n s up.1,
)

-- the n least items of a content may move, where there is room
pub may_refill : (k n : ℕ) (own c : List Item) → 0 < n → n ≤ length c → length own + n ≤ k → IsAscending (sorted c) → MayRefill k own (sorted c) (take n (sorted c))
may_refill k n own c some few room up =
    let s = sorted c in
    let count : length (take n s) ≡ n = omega (arith, length-take n s, length_sorted c, few) in
    record {
      some = λ none. omega (arith, some, count, ap length none);
      ascending = ascending_take n s up;
      within = λ y. omega (
        arith,
        ap (count_by (is_same y)) (take-append-drop n s),
        sum_by-append (λ z. cond (is_same y z) 1 0) (take n s) (drop n s),
      );
      room = omega (arith, count, room);
    }

-- and what they leave is the rest
pub refill_leaves : (n : ℕ) (own after c r s : List Item) → IsAscending (sorted c) → AreMoved n (sorted c) r s → after ≡ plus own r
    → (after ≡ own_after_refill own (take n (sorted c))) × (s ≡ shared_after_refill (sorted c) (take n (sorted c)))
refill_leaves n own after c r s up moved joined =
    let all = sorted c in
    let same : sorted c ≡ sorted (take n all ++ drop n all) = sym (ap sorted (take-append-drop n all) ∙ sorted_itself c) in (
      joined ∙ ap (plus own) moved.run_is,
      moved.left_is ∙ sym (minus_moved (take n all) (drop n all) c same ∙ sorted_ascending (drop n all) (ascending_drop n all up)),
    )
