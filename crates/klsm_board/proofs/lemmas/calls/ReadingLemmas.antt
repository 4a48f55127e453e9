-- Parts that are acquired one after another, and read and released one after another.
use Rattle.std.proofs.Common.{◌≡◌, ℕ, suc, ◌+◌, ◌-◌, ◌<◌, ◌≤◌, true, false, Bool, List, [], ◌∷◌, ◌++◌, length, Option, Some, None, IfSome, refl, sym, ap, ◌∙◌, subst, arith, append_assoc}
use Rattle.std.specs.Prelude.{min}
use Rattle.std.specs.List.{slice_get}
use Rattle.std.proofs.lemmas.List.{append-nil, length-append}
use Rattle.std.proofs.lemmas.Option.{none-some}
use Rattle.atomic_table.specs.Table.{Me}
use Rattle.klsm_run.specs.declared.item.Item.{Item}
use Rattle.klsm_run.specs.ItemOrder.{is_smaller}
use Rattle.klsm_run.specs.Content.{sorted}
use Rattle.klsm_run.proofs.ContentLemmas.{sorted_same_behind, sorted_swap}
use Rattle.klsm_run.proofs.LeastLemmas.{not_below}
use Rattle.klsm_run.proofs.LesserLemmas.{first_append, less_if_smaller, lesser, lesser_first, lesser_item, lesser_second}
use Rattle.klsm_run.proofs.RankLemmas.{empty_if_no_least}
use Rattle.klsm_run.proofs.SortedLemmas.{length_sorted}
use Rattle.klsm_parts.specs.Events.{front_of, key_or_greatest}
use Rattle.klsm_parts.specs.Least.{IsLeast}
use Rattle.klsm_schedules.specs.declared.step.Entry.{Entry}
use Rattle.klsm_schedules.specs.declared.step.Entry.TheVariants.{Acquired, Released}
use Rattle.klsm_schedules.specs.OwnSteps.{Hand, found_in}
use Rattle.klsm_schedules.proofs.lemmas.theorems.LiveLemmas.{no_lesser_key}
use Rattle.klsm_board.specs.declared.bounding.Bound.{Bound}
use Rattle.klsm_board.specs.declared.rule.View.{View}
use Rattle.klsm_board.specs.declared.sizes.Sizes.{Sizes}
use Rattle.klsm_board.specs.Bounding.{IsBoundOf, owns_acquired, owns_in_hand, owns_items, owns_released}
use Rattle.klsm_board.specs.Members.{most_deletions}
use Rattle.klsm_board.specs.Seats.{Has, Stands}
use Rattle.klsm_board.specs.Steps.{mine, AreReached}
use Rattle.klsm_board.proofs.lemmas.calls.BoundingLemmas.{owns_lack}
use Rattle.klsm_board.proofs.lemmas.seats.StandLemmas.{stands}

-- the lesser of two items has the lesser of their keys
lesser_key : (x y : Item) → (lesser_item x y).key ≡ min x.key y.key
lesser_key x y = by_order (is_smaller y x) refl
  where
    by_order : (b : Bool) → is_smaller y x ≡ b → (lesser_item x y).key ≡ min x.key y.key
    by_order true smaller =
        let is : (lesser_item x y).key ≡ y.key = ap (λ (z : Item). z.key) (lesser_second x y smaller) in
        let less = no_lesser_key x y (not_below y x (less_if_smaller y x smaller)) in
        omega (arith, is, less)
    by_order false not =
        let is : (lesser_item x y).key ≡ x.key = ap (λ (z : Item). z.key) (lesser_first x y not) in
        let less = no_lesser_key y x not in
        omega (arith, is, less)

-- the front of two contents, by that of the first and the least item of the second
pub front_with : (key : ℕ) (read found : List Item) (x : Item) → x.key ≤ 18446744073709551615 → key ≡ front_of read → Some x ≡ slice_get (sorted found) 0 → min key x.key ≡ front_of (read ++ found)
front_with key read found x fits is least = by_read (slice_get (sorted read) 0) refl
  where
    by_read : (o : Option Item) → slice_get (sorted read) 0 ≡ o → min key x.key ≡ front_of (read ++ found)
    by_read None none =
        let front : front_of (read ++ found) ≡ x.key = ap key_or_greatest (first_append read found ∙ (λ i. lesser (none i) (sym least i))) in
        let greatest : key ≡ 18446744073709551615 = is ∙ ap key_or_greatest none in
        omega (arith, front, greatest, fits)
    by_read (Some y) some =
        let front : front_of (read ++ found) ≡ (lesser_item y x).key = ap key_or_greatest (first_append read found ∙ (λ i. lesser (some i) (sym least i))) in
        let here : key ≡ y.key = is ∙ ap key_or_greatest some in
        omega (arith, front, here, lesser_key y x)

pub front_without : (key : ℕ) (read found : List Item) → key ≡ front_of read → None ≡ slice_get (sorted found) 0 → key ≡ front_of (read ++ found)
front_without key read found is none =
    is ∙ ap front_of (sym (ap (λ z. read ++ z) (empty_if_no_least found (sym none)) ∙ append-nil read))

-- the first item of a content is its least, where it is said to be
pub first_is_least : (o : Option Item) (found : List Item) → o ≡ slice_get found 0 → IfSome o (λ x. IsLeast x found) → o ≡ slice_get (sorted found) 0
first_is_least (Some x) found is least = sym least
first_is_least None [] is least = refl
first_is_least None (x ∷ found) is least = absurd (none-some x is)

-- one content has one bound
pub bound_same : (xs ys : List Item) (bound : Bound) → sorted xs ≡ sorted ys → IsBoundOf xs bound → IsBoundOf ys bound
bound_same xs ys bound same is = record {
  least = is.least ∙ ap (λ s. key_or_greatest (slice_get s 0)) same;
  counted = is.counted ∙ (sym (length_sorted xs) ∙ (ap length same ∙ length_sorted ys));
}

-- some own parts, the last of them first
pub some_left : (left : List (List Item)) → 0 < length left → (c : List Item) × (cs : List (List Item)) × (left ≡ c ∷ cs)
some_left [] some = absurd (omega (arith, some))
some_left (c ∷ cs) some = (c, cs, refl)

none_left : (left : List (List Item)) → length left ≡ 0 → left ≡ []
none_left [] none = refl
none_left (c ∷ cs) none = absurd (omega (arith, none))

-- one more was released
released_one : (es before now : List Entry) (left cs : List (List Item)) (part count : ℕ) → length left ≡ suc (length cs) → part ≡ length cs + 1 → before ++ owns_released (length left) ≡ es ++ owns_released count
    → now ≡ before ++ Released part ∷ [] → now ++ owns_released (length cs) ≡ es ++ owns_released count
released_one es before now left cs part count long part_is so_far list =
    ap (λ z. z ++ owns_released (length cs)) list
    ∙ (append_assoc before (Released part ∷ []) (owns_released (length cs))
    ∙ (ap (λ p. before ++ Released p ∷ owns_released (length cs)) part_is ∙ (ap (λ n. before ++ owns_released n) (sym long) ∙ so_far)))

module _ {S : Type 0} (content : S → List Item) (suits : ℕ → ℕ → S → Type 0) (m : Sizes) (t : ℕ) where
  -- the own parts of the first so many threads are in hand
  pub record Acquiring (es : List Entry) (number : ℕ) (me : Me S View) : Type 0 where
    pub owns : List (List Item)
    pub many : length owns ≡ number
    pub stands_with : Stands content suits m t (owns_in_hand owns) me
    pub reached : 0 < number → AreReached m t me.0
    pub list : mine me.0 ≡ es ++ owns_acquired owns

  pub acquiring_none : (me : Me S View) → Stands content suits m t [] me → Acquiring (mine me.0) 0 me
  acquiring_none me at_rest = record {
    owns = [];
    many = refl;
    stands_with = at_rest;
    reached = λ less. absurd (omega (arith, less));
    list = sym (append-nil (mine me.0));
  }

  pub acquiring_more : (es : List Entry) (number : ℕ) (me me' : Me S View) → Acquiring es number me
      → ((hand : Hand) → Stands content suits m t hand me → (found : List Item) × Has content suits m t ((number + 1, found) ∷ hand) me' × (mine me'.0 ≡ mine me.0 ++ Acquired (number + 1) found ∷ []))
      → Acquiring es (number + 1) me'
  acquiring_more es number me me' so_far acquired =
      let k = acquired (owns_in_hand so_far.owns) so_far.stands_with in
      let many = so_far.many in
      let part : number + 1 ≡ length so_far.owns + 1 = ap (λ n. n + 1) (sym many) in
      let has : Has content suits m t (owns_in_hand (k.0 ∷ so_far.owns)) me' = subst (λ p. Has content suits m t ((p, k.0) ∷ owns_in_hand so_far.owns) me') part k.1 in
      record {
        owns = k.0 ∷ so_far.owns;
        many = omega (arith, many);
        stands_with = stands has;
        reached = λ _. has.reached;
        list = k.2 ∙ (ap (λ z. z ++ Acquired (number + 1) k.0 ∷ []) so_far.list
            ∙ (append_assoc es (owns_acquired so_far.owns) (Acquired (number + 1) k.0 ∷ []) ∙ ap (λ p. es ++ (owns_acquired so_far.owns ++ Acquired p k.0 ∷ [])) part));
      }

  -- at the end the seat has them
  pub acquiring_all : (es : List Entry) (number : ℕ) (me : Me S View) → 0 < number → (a : Acquiring es number me) → Has content suits m t (owns_in_hand a.owns) me
  acquiring_all es number me some a = let with_all = a.stands_with in record { carries = with_all.carries; hand_is = with_all.hand_is; marked = with_all.marked; reached = a.reached some }

  -- the part that is released next, behind so many
  pub record Next (part : ℕ) (left : List (List Item)) (me : Me S View) : Type 0 where
    pub c : List Item
    pub cs : List (List Item)
    pub long : length left ≡ suc (length cs)
    pub left_is : left ≡ c ∷ cs
    pub part_is : part ≡ length cs + 1
    pub has : Has content suits m t ((part, c) ∷ owns_in_hand cs) me
    pub away : found_in (owns_in_hand cs) part ≡ None

  pub next_of : (count done : ℕ) (left : List (List Item)) (me : Me S View) → length left + done ≡ count → done < count → Has content suits m t (owns_in_hand left) me → Next (count - done) left me
  next_of count done left me many less has =
      let some = some_left left (omega (arith, many, less)) in
      let long : length left ≡ suc (length some.1) = ap (λ (z : List (List Item)). length z) some.2 in
      let part : count - done ≡ length some.1 + 1 = omega (arith, many, long) in
      let first : Has content suits m t ((length some.1 + 1, some.0) ∷ owns_in_hand some.1) me = subst (λ (z : List (List Item)). Has content suits m t (owns_in_hand z) me) some.2 has in
      record {
        c = some.0;
        cs = some.1;
        long = long;
        left_is = some.2;
        part_is = part;
        has = subst (λ p. Has content suits m t ((p, some.0) ∷ owns_in_hand some.1) me) (sym part) first;
        away = owns_lack some.1 (count - done) (omega (arith, part));
      }

  -- of the own parts of so many threads, some are still in hand
  pub record Releasing (es : List Entry) (count done : ℕ) (me : Me S View) : Type 0 where
    pub left : List (List Item)
    pub many : length left + done ≡ count
    pub has : Has content suits m t (owns_in_hand left) me
    pub list : mine me.0 ++ owns_released (length left) ≡ es ++ owns_released count

  pub releasing_none : (count : ℕ) (owns : List (List Item)) (me : Me S View) → length owns ≡ count → Has content suits m t (owns_in_hand owns) me → Releasing (mine me.0) count 0 me
  releasing_none count owns me many has = record {
    left = owns;
    many = omega (arith, many);
    has = has;
    list = ap (λ n. mine me.0 ++ owns_released n) many;
  }

  pub releasing_next : (es : List Entry) (count done : ℕ) (me : Me S View) → done < count → (r : Releasing es count done me) → Next (count - done) r.left me
  releasing_next es count done me less r = next_of count done r.left me r.many less r.has

  pub releasing_more : (es : List Entry) (count done : ℕ) (me me' : Me S View) → done < count → Releasing es count done me
      → ((found : List Item) → (hand : Hand) → Stands content suits m t ((count - done, found) ∷ hand) me → found_in hand (count - done) ≡ None → Has content suits m t hand me')
      → mine me'.0 ≡ mine me.0 ++ Released (count - done) ∷ [] → Releasing es count (done + 1) me'
  releasing_more es count done me me' less r released list =
      let next = releasing_next es count done me less r in
      let long = next.long in let many = r.many in
      record {
        left = next.cs;
        many = omega (arith, long, many);
        has = released next.c (owns_in_hand next.cs) (stands next.has) next.away;
        list = released_one es (mine me.0) (mine me'.0) r.left next.cs (count - done) count long next.part_is r.list list;
      }

  pub releasing_all : (es : List Entry) (count done : ℕ) (me : Me S View) → done ≡ count → Releasing es count done me → Has content suits m t [] me × (mine me.0 ≡ es ++ owns_released count)
  releasing_all es count done me all r =
      let many = r.many in
      let none : r.left ≡ [] = none_left r.left (omega (arith, many, all)) in (
        subst (λ (z : List (List Item)). Has content suits m t (owns_in_hand z) me) none r.has,
        sym (append-nil (mine me.0)) ∙ (ap (λ (z : List (List Item)). mine me.0 ++ owns_released (length z)) (sym none) ∙ r.list),
      )

  -- and those that are not were read
  pub record Reading (es : List Entry) (all : List Item) (count done : ℕ) (bound : Bound) (me : Me S View) : Type 0 where
    pub left : List (List Item)
    pub many : length left + done ≡ count
    pub has : Has content suits m t (owns_in_hand left) me
    pub list : mine me.0 ++ owns_released (length left) ≡ es ++ owns_released count
    pub read : List Item
    pub is : IsBoundOf read bound
    pub same : sorted (read ++ owns_items left) ≡ sorted all

  pub reading_none : (count : ℕ) (owns : List (List Item)) (read : List Item) (bound : Bound) (me : Me S View) → length owns ≡ count → Has content suits m t (owns_in_hand owns) me → IsBoundOf read bound
      → Reading (mine me.0) (read ++ owns_items owns) count 0 bound me
  reading_none count owns read bound me many has is = record {
    left = owns;
    many = omega (arith, many);
    has = has;
    list = ap (λ n. mine me.0 ++ owns_released n) many;
    read = read;
    is = is;
    same = refl;
  }

  pub reading_next : (es : List Entry) (all : List Item) (count done : ℕ) (bound : Bound) (me : Me S View) → done < count → (r : Reading es all count done bound me) → Next (count - done) r.left me
  reading_next es all count done bound me less r = next_of count done r.left me r.many less r.has

  -- with what is read next they are not too many
  pub reading_few : (es : List Entry) (all : List Item) (count done : ℕ) (bound : Bound) (me : Me S View) (less : done < count) → (r : Reading es all count done bound me) → length all ≤ most_deletions
      → bound.items + length (reading_next es all count done bound me less r).c ≤ most_deletions
  reading_few es all count done bound me less r few =
      let next = reading_next es all count done bound me less r in
      let whole : length (r.read ++ owns_items r.left) ≡ length all = sym (length_sorted (r.read ++ owns_items r.left)) ∙ (ap length r.same ∙ length_sorted all) in
      let both = length-append r.read (owns_items r.left) in
      let rest : length (owns_items r.left) ≡ length (owns_items next.cs) + length next.c = ap (λ (z : List (List Item)). length (owns_items z)) next.left_is ∙ length-append (owns_items next.cs) next.c in
      let bounds = r.is in let counted = bounds.counted in
      omega (arith, whole, both, rest, counted, few)

  pub reading_more : (es : List Entry) (all : List Item) (count done : ℕ) (bound bound' : Bound) (me me' : Me S View) → done < count → Reading es all count done bound me
      → ((found : List Item) → (hand : Hand) → Has content suits m t ((count - done, found) ∷ hand) me → found_in hand (count - done) ≡ None → Has content suits m t hand me')
      → ((found : List Item) → (hand : Hand) → (read : List Item) → Has content suits m t ((count - done, found) ∷ hand) me → IsBoundOf read bound → IsBoundOf (read ++ found) bound')
      → mine me'.0 ≡ mine me.0 ++ Released (count - done) ∷ [] → Reading es all count (done + 1) bound' me'
  reading_more es all count done bound bound' me me' less r released told list =
      let next = reading_next es all count done bound me less r in
      let long = next.long in let many = r.many in
      record {
        left = next.cs;
        many = omega (arith, long, many);
        has = released next.c (owns_in_hand next.cs) next.has next.away;
        list = released_one es (mine me.0) (mine me'.0) r.left next.cs (count - done) count long next.part_is r.list list;
        read = r.read ++ next.c;
        is = told next.c (owns_in_hand next.cs) r.read next.has r.is;
        same = ap sorted (append_assoc r.read next.c (owns_items next.cs))
            ∙ (sorted_same_behind r.read (next.c ++ owns_items next.cs) (owns_items next.cs ++ next.c) (sorted_swap next.c (owns_items next.cs))
            ∙ (ap (λ (z : List (List Item)). sorted (r.read ++ owns_items z)) (sym next.left_is) ∙ r.same));
      }

  pub reading_all : (es : List Entry) (all : List Item) (count done : ℕ) (bound : Bound) (me : Me S View) → done ≡ count → Reading es all count done bound me
      → Has content suits m t [] me × (mine me.0 ≡ es ++ owns_released count) × IsBoundOf all bound
  reading_all es all count done bound me whole r =
      let many = r.many in
      let none : r.left ≡ [] = none_left r.left (omega (arith, many, whole)) in (
        subst (λ (z : List (List Item)). Has content suits m t (owns_in_hand z) me) none r.has,
        sym (append-nil (mine me.0)) ∙ (ap (λ (z : List (List Item)). mine me.0 ++ owns_released (length z)) (sym none) ∙ r.list),
        bound_same r.read all bound (ap sorted (sym (append-nil r.read)) ∙ (ap (λ (z : List (List Item)). sorted (r.read ++ owns_items z)) (sym none) ∙ r.same)) r.is,
      )
