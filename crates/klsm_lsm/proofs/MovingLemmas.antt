-- Blocks that move from slot to slot, and a run that is put between them.
use Rattle.std.proofs.Common.{◌≡◌, ℕ, ◌+◌, ◌-◌, ◌<◌, ◌≤◌, List, [], ◌∷◌, ◌++◌, length, get_or, set, take, drop, Option, refl, sym, ap, ◌∙◌, subst, arith, add-one, zero, suc, inl, inr}
use Rattle.std.specs.List.{AllByRecursion, refill, take-map}
use Rattle.std.proofs.Math.Seq.{drop-cons}
use Rattle.std.proofs.lemmas.Bool.{cases_lt, lt-ltb, le-ltb}
use Rattle.std.proofs.lemmas.List.{length-append, length-drop, length-map, length-set, length-take-le, take-append-le, take-append-drop, take-set-le, take_all, take_more, drop-drop, drop-set, drop-set-lt, drop-take, get_or-take, get_or-drop, get_or-append_right, get_or_append_left, get_or-set_same, append_assoc, set-append_left, set-append_right, map-set}
use Rattle.klsm_run.specs.declared.item.Item.{Item}
use Rattle.klsm_run.specs.Content.{ShareNone}
use Rattle.klsm_lsm.specs.Level.{level}
use Rattle.klsm_lsm.specs.Lsm.{content, IsLsm}
use Rattle.klsm_lsm.specs.Adding.{joined, add}
use Rattle.klsm_lsm.specs.Slots.{block_in, blocks_in}
use Rattle.klsm_lsm.proofs.JoinLemmas.{AllBelow, none_of_first}
use Rattle.klsm_lsm.proofs.PlaceLemmas.{AllFrom}
use Rattle.klsm_lsm.proofs.SlotLemmas.{block_in_slot, refill_same}
use Rattle.klsm_lsm.proofs.CascadeLemmas.{lsm_front}
use Rattle.klsm_lsm.proofs.LeastLemmas.{content_append}

abbrev Blocks : Type 0
Blocks = List (List Item)

-- a slot of the first part, and the first one of the second part
pub in_front : {R : Type 0} (items : R → List Item) (slots front back : List (Option R)) (at : ℕ) (slot : Option R) → slots ≡ front ++ back → at < length front → get_or (blocks_in items slots) at [] ≡ block_in items (get_or front at slot)
in_front items slots front back at slot whole within =
    block_in_slot items slots at slot (omega (arith, within, ap length whole, length-append front back))
    ∙ ap (block_in items) (ap (λ l. get_or l at slot) whole ∙ get_or_append_left front back slot at within)

pub first_behind : {R : Type 0} (items : R → List Item) (slots front back : List (Option R)) (from : ℕ) (slot : Option R) → slots ≡ front ++ back → length front ≡ from → from < length slots → get_or (blocks_in items slots) from [] ≡ block_in items (get_or back 0 slot)
first_behind items slots front back from slot whole count within =
    let none : from - from ≡ 0 = omega arith in
    block_in_slot items slots from slot within
    ∙ ap (block_in items) (ap (λ l. get_or l from slot) whole ∙ (get_or-append_right front back from from slot count (omega arith) ∙ ap (λ (n : ℕ). get_or back n slot) none))

-- what was written to both
pub two_set : {R : Type 0} (items : R → List Item) (slots front back : List (Option R)) (from to : ℕ) (one two : Option R) (block other : List Item) → slots ≡ front ++ back → length front ≡ from → to < from
    → block_in items one ≡ block → block_in items two ≡ other → blocks_in items (set front to one ++ set back 0 two) ≡ set (set (blocks_in items slots) to block) from other
two_set {R} items slots front back from to one two block other whole count order is other_is =
    let longer : length (set front to one) ≡ from = length-set front to one ∙ count in
    let none : from - from ≡ 0 = omega arith in
    let second : set (set front to one ++ back) from two ≡ set front to one ++ set back 0 two =
    set-append_right (set front to one) back from from two longer (omega arith) ∙ ap (λ (n : ℕ). set front to one ++ set back n two) none in
    let first : set front to one ++ back ≡ set slots to one = sym (set-append_left front back to one (omega (arith, order, count))) ∙ ap (λ (l : List (Option R)). set l to one) (sym whole) in
    ap (blocks_in items) (sym second ∙ ap (λ (l : List (Option R)). set l from two) first)
    ∙ (map-set (block_in items) (set slots to one) from two
    ∙ (ap (λ (l : Blocks). set l from (block_in items two)) (map-set (block_in items) slots to one ∙ ap (set (blocks_in items slots) to) is)
    ∙ ap (set (set (blocks_in items slots) to block) from) other_is))

pub shorter : {X : Type 0} (n k : ℕ) (xs : List X) → n ≤ k → take n (take k xs) ≡ take n xs
shorter zero k xs h = refl
shorter (suc n) zero xs h = absurd (omega (arith, h))
shorter (suc n) (suc k) [] h = refl
shorter (suc n) (suc k) (x ∷ xs) h = ap (λ ys. x ∷ ys) (shorter n k xs (omega (arith, h)))

same_at : (n k : ℕ) (xs ys : Blocks) → n < k → take k xs ≡ take k ys → get_or xs n [] ≡ get_or ys n []
same_at n k xs ys less same = sym (get_or-take k xs n [] less) ∙ (ap (λ (l : Blocks). get_or l n []) same ∙ get_or-take k ys n [] less)

-- the runs from `gap` on have moved one slot on
pub record IsOpening (old now : Blocks) (count gap : ℕ) : Type 0 where
  pub order : gap ≤ count
  pub len : length now ≡ length old
  pub front : take gap now ≡ take gap old
  pub moved : take (count - gap) (drop (gap + 1) now) ≡ take (count - gap) (drop gap old)

pub opening_first : (bs : Blocks) (count : ℕ) → IsOpening bs bs count count
opening_first bs count =
    let none : count - count ≡ 0 = omega arith in
    record { order = omega arith; len = refl; front = refl; moved = rw none refl }

pub opening_more : (old now next : Blocks) (count gap g : ℕ) → IsOpening old now count gap → g + 1 ≡ gap → count < length old → next ≡ set (set now g []) (g + 1) (get_or now g []) → IsOpening old next count g
opening_more old now next count gap g o is within next_is =
    let x : List Item = get_or now g [] in let once = set now g [] in
    let here : g + 1 < length once = omega (arith, length-set now g [], o.len, o.order, is, within) in
    let behind : drop (g + 1) next ≡ x ∷ drop (gap + 1) now =
    ap (drop (g + 1)) next_is ∙ (drop-set once (g + 1) x here ∙ ap (λ (l : Blocks). x ∷ l) (drop-set-lt (g + 1 + 1) now g [] (omega arith) ∙ ap (λ n. drop (n + 1) now) is)) in
    let more : count - g ≡ suc (count - gap) = omega (arith, o.order, is) in
    let old_at : drop g old ≡ get_or old g [] ∷ drop gap old = drop-cons old g [] (omega (arith, o.order, is, within)) ∙ ap (λ n. get_or old g [] ∷ drop n old) (sym (add-one g) ∙ is) in
    let same : x ≡ get_or old g [] = same_at g gap now old (omega (arith, is)) o.front in
    record {
      order = omega (arith, o.order, is);
      len = ap length next_is ∙ (length-set once (g + 1) x ∙ (length-set now g [] ∙ o.len));
      front = ap (take g) next_is ∙ (take-set-le g once (g + 1) x (omega arith) ∙ (take-set-le g now g [] (omega arith) ∙ (sym (shorter g gap now (omega (arith, is))) ∙ (ap (take g) o.front ∙ shorter g gap old (omega (arith, is))))));
      moved = rw (more, behind, old_at) (ap (λ (y : List Item). y ∷ take (count - gap) (drop (gap + 1) now)) same ∙ ap (λ (l : Blocks). get_or old g [] ∷ l) o.moved);
    }

-- and then one is put in the gap
pub put_between : (old now next : Blocks) (count place : ℕ) (b : List Item) → IsOpening old now count place → count < length old → next ≡ set now place b → take (count + 1) next ≡ take place old ++ b ∷ drop place (take count old)
put_between old now next count place b o within is =
    let here : place < length now = omega (arith, o.order, o.len, within) in
    let rest = count - place in
    let whole : place + rest ≡ count = omega (arith, o.order) in
    let parts : take (count + 1) next ≡ take place next ++ drop place (take (count + 1) next) = sym (take-append-drop place (take (count + 1) next)) ∙ ap (λ (l : Blocks). l ++ drop place (take (count + 1) next)) (shorter place (count + 1) next (omega (arith, o.order))) in
    let back : drop place (take (count + 1) next) ≡ take (suc rest) (drop place next) = ap (λ n. drop place (take n next)) (sum_is place rest count whole) ∙ drop-take place (suc rest) next in
    let behind : drop place next ≡ b ∷ drop (place + 1) now = ap (drop place) is ∙ drop-set now place b here in
    let old_back : drop place (take count old) ≡ take rest (drop place old) = ap (λ n. drop place (take n old)) (sym whole) ∙ drop-take place rest old in
    parts ∙ (ap (λ (l : Blocks). l ++ drop place (take (count + 1) next)) (ap (take place) is ∙ (take-set-le place now place b (omega arith) ∙ o.front))
    ∙ ap (λ (l : Blocks). take place old ++ l) (back ∙ (ap (take (suc rest)) behind ∙ ap (λ (l : Blocks). b ∷ l) (o.moved ∙ sym old_back))))
  where
    sum_is : (p r n : ℕ) → p + r ≡ n → n + 1 ≡ p + suc r
    sum_is p r n is = omega (arith, is)

-- so many runs have moved to the slots from `to` on
pub record IsMoving (old now : Blocks) (from to moved : ℕ) : Type 0 where
  pub len : length now ≡ length old
  pub front : take (to + moved) now ≡ take to old ++ take moved (drop from old)
  pub rest : drop (from + moved) now ≡ drop (from + moved) old

pub moving_first : (bs : Blocks) (from to : ℕ) → IsMoving bs bs from to 0
moving_first bs from to =
    let none : to + 0 ≡ to = omega arith in
    record { len = refl; front = rw none (nothing_behind (take to bs)); rest = refl }
  where
    nothing_behind : (xs : Blocks) → xs ≡ xs ++ []
    nothing_behind [] = refl
    nothing_behind (x ∷ xs) = ap (λ (l : Blocks). x ∷ l) (nothing_behind xs)

pub moving_more : (old now next : Blocks) (from to moved : ℕ) → IsMoving old now from to moved → to < from → from + moved < length old → next ≡ set (set now (to + moved) (get_or now (from + moved) [])) (from + moved) [] → IsMoving old next from to (moved + 1)
moving_more old now next from to moved m order within is =
    let f = from + moved in let t = to + moved in
    let x : List Item = get_or now f [] in let once = set now t x in
    let here : t < length now = omega (arith, m.len, order, within) in
    let next_t : to + (moved + 1) ≡ t + 1 = omega arith in
    let next_f : from + (moved + 1) ≡ f + 1 = omega arith in
    let nil : f + 0 ≡ f = omega arith in
    let same : x ≡ get_or old f [] = ap (λ n. get_or now n []) (sym nil) ∙ (sym (get_or-drop f now 0 []) ∙ (ap (λ (l : Blocks). get_or l 0 []) m.rest ∙ (get_or-drop f old 0 [] ∙ ap (λ n. get_or old n []) nil))) in
    let old_at : take (moved + 1) (drop from old) ≡ take moved (drop from old) ++ x ∷ [] =
    take_more (drop from old) moved [] (omega (arith, length-drop from old, within)) ∙ ap (λ (y : List Item). take moved (drop from old) ++ y ∷ []) (get_or-drop from old moved [] ∙ sym same) in
    record {
      len = ap length is ∙ (length-set once f [] ∙ (length-set now t x ∙ m.len));
      front = ap (λ n. take n next) next_t ∙ (ap (take (t + 1)) is ∙ (take-set-le (t + 1) once f [] (omega (arith, order))
          ∙ (take_more once t [] (omega (arith, length-set now t x, here)) ∙ (ap (λ (l : Blocks). l ++ get_or once t [] ∷ []) (take-set-le t now t x (omega arith) ∙ m.front)
          ∙ (ap (λ (y : List Item). (take to old ++ take moved (drop from old)) ++ y ∷ []) (get_or-set_same now t x [] here)
          ∙ (append_assoc (take to old) (take moved (drop from old)) (x ∷ []) ∙ ap (λ (l : Blocks). take to old ++ l) (sym old_at)))))));
      rest = ap (λ n. drop n next) next_f ∙ (ap (drop (f + 1)) is ∙ (drop-set-lt (f + 1) once f [] (omega arith) ∙ (drop-set-lt (f + 1) now t x (omega (arith, order))
          ∙ (sym (drop-drop 1 f now) ∙ (ap (drop 1) m.rest ∙ (drop-drop 1 f old ∙ ap (λ n. drop n old) (sym next_f)))))));
    }

-- where they need not move
pub none_moved : (bs : Blocks) (from to count : ℕ) → to ≡ from → take (to + count) bs ≡ take to bs ++ take count (drop from bs)
none_moved bs from to count is =
    sym (take-append-drop to (take (to + count) bs)) ∙ (ap (λ (l : Blocks). l ++ drop to (take (to + count) bs)) (shorter to (to + count) bs (omega arith)) ∙ ap (λ (l : Blocks). take to bs ++ l) (drop-take to count bs ∙ ap (λ n. take count (drop n bs)) is))

-- a list in three parts
pub record AreParts (once hs ls : Blocks) (b : List Item) (place lesser : ℕ) : Type 0 where
  pub front : take place once ≡ hs
  pub middle : get_or once place [] ≡ b
  pub back : take lesser (drop (place + 1) once) ≡ ls

pub parts_of : (once hs ls : Blocks) (b : List Item) (count place lesser : ℕ) → length hs ≡ place → length ls ≡ lesser → place + lesser ≡ count → take (count + 1) once ≡ hs ++ b ∷ ls → AreParts once hs ls b place lesser
parts_of once hs ls b count place lesser size rest whole is =
    let none : place - place ≡ 0 = omega arith in
    let one : place + 1 - place ≡ 1 = omega arith in
    let all : place + 1 + lesser ≡ count + 1 = omega (arith, whole) in
    record {
      front = sym (shorter place (count + 1) once (omega (arith, whole))) ∙ (ap (take place) is ∙ (take-append-le place hs (b ∷ ls) (omega (arith, size)) ∙ take_all place hs (omega (arith, size))));
      middle = sym (get_or-take (count + 1) once place [] (omega (arith, whole))) ∙ (ap (λ (l : Blocks). get_or l place []) is ∙ (get_or-append_right hs (b ∷ ls) place place [] size (omega arith) ∙ ap (λ n. get_or (b ∷ ls) n []) none));
      back = sym (drop-take (place + 1) lesser once) ∙ (ap (λ n. drop (place + 1) (take n once)) all ∙ (ap (drop (place + 1)) is ∙ behind hs place size));
    }
  where
    behind : (xs : Blocks) (n : ℕ) → length xs ≡ n → drop (n + 1) (xs ++ b ∷ ls) ≡ ls
    behind [] zero is = refl
    behind [] (suc n) is = absurd (omega (arith, is))
    behind (x ∷ xs) zero is = absurd (omega (arith, is))
    behind (x ∷ xs) (suc n) is = let next : suc n + 1 ≡ suc (n + 1) = omega arith in ap (λ k. drop k (x ∷ (xs ++ b ∷ ls))) next ∙ behind xs n (omega (arith, is))

-- a run is added before the blocks of lesser levels
joined_before : (b : List Item) (xs ls : Blocks) → 0 < length xs → joined b (xs ++ ls) ≡ joined b xs ++ ls
joined_before b [] ls some = absurd (omega (arith, some))
joined_before b (c ∷ cs) ls some = elim (cases_lt (level c) (level b)) [
  | inl less ↦ rw (lt-ltb (level c) (level b) less) refl
  | inr order ↦ rw (le-ltb (level c) (level b) order) refl
]

some_joined : (b : List Item) (bs : Blocks) → 0 < length (joined b bs)
some_joined b [] = omega arith
some_joined b (c ∷ cs) = elim (cases_lt (level c) (level b)) [
  | inl less ↦ rw (lt-ltb (level c) (level b) less) (omega arith)
  | inr order ↦ rw (le-ltb (level c) (level b) order) (omega arith)
]

some_added : (bs : Blocks) (run : List Item) → 0 < length (add bs run)
some_added [] run = omega arith
some_added (b ∷ bs) run = elim (cases_lt (level b) (level run)) [
  | inl less ↦ rw (lt-ltb (level b) (level run) less) (omega arith)
  | inr more ↦ rw (le-ltb (level b) (level run) more) (some_joined b (add bs run))
]

pub add_before : (hs ls : Blocks) (run : List Item) → AllFrom (level run) hs → AllBelow (level run) ls → add (hs ++ ls) run ≡ add hs run ++ ls
add_before [] [] run above below = refl
add_before [] (c ∷ cs) run above below = rw (lt-ltb (level c) (level run) below.0) refl
add_before (h ∷ hs) ls run above below =
    rw (le-ltb (level h) (level run) above.0) (ap (joined h) (add_before hs ls run above.1 below) ∙ joined_before h (add hs run) ls (some_added hs run))

-- the slots in which one is put between the runs
pub put_in : {R : Type 0} (items : R → List Item) (count place : ℕ) (before opened runs moved : List (Option R)) (slot : Option R) (b : List Item) → place ≤ count → runs ≡ opened → take count opened ≡ take count before → count < length opened → length moved ≡ length runs
    → take place (blocks_in items moved) ≡ take place (blocks_in items runs) → take (count - place) (drop (place + 1) (blocks_in items moved)) ≡ take (count - place) (drop place (blocks_in items runs)) → block_in items slot ≡ b
    → take (count + 1) (blocks_in items (refill (length opened) opened (set moved place slot))) ≡ take place (blocks_in items before) ++ b ∷ drop place (take count (blocks_in items before))
put_in {R} items count place before opened runs moved slot b order same kept within len front rest is =
    let old = blocks_in items runs in let now = blocks_in items moved in
    let size : length old ≡ length opened = length-map runs (block_in items) ∙ ap length same in
    let opening : IsOpening old now count place = record { order = order; len = length-map moved (block_in items) ∙ (len ∙ sym (length-map runs (block_in items))); front = front; moved = rest } in
    let next : blocks_in items (refill (length opened) opened (set moved place slot)) ≡ set now place b =
    ap (blocks_in items) (refill_same opened (set moved place slot) (length-set moved place slot ∙ (len ∙ ap length same))) ∙ (map-set (block_in items) moved place slot ∙ ap (set now place) is) in
    let put = put_between old now (blocks_in items (refill (length opened) opened (set moved place slot))) count place b opening (omega (arith, size, within)) next in
    let firsts : take count old ≡ take count (blocks_in items before) = ap (λ l. take count (blocks_in items l)) same ∙ (take-map (block_in items) count opened ∙ (ap (blocks_in items) kept ∙ sym (take-map (block_in items) count before))) in
    let fewer : take place old ≡ take place (blocks_in items before) = sym (shorter place count old order) ∙ (ap (take place) firsts ∙ shorter place count (blocks_in items before) order) in
    put ∙ (ap (λ (l : Blocks). l ++ b ∷ drop place (take count old)) fewer ∙ ap (λ (l : Blocks). take place (blocks_in items before) ++ b ∷ drop place l) firsts)

-- the parts of the blocks with a run between them
pub placed : (count place : ℕ) (slots now once : Blocks) (b : List Item) → take count slots ≡ now → length now ≡ count → place ≤ count → take (count + 1) once ≡ take place slots ++ b ∷ drop place (take count slots) → AreParts once (take place now) (drop place now) b place (count - place)
placed count place slots now once b view size order is =
    let front : take place slots ≡ take place now = sym (shorter place count slots order) ∙ ap (take place) view in
    parts_of once (take place now) (drop place now) b count place (count - place) (length-take-le place now (omega (arith, size, order))) (length-drop place now ∙ omega (arith, size)) (omega (arith, order))
    (is ∙ (ap (λ (l : Blocks). l ++ b ∷ drop place (take count slots)) front ∙ ap (λ (l : Blocks). take place now ++ b ∷ drop place l) view))

-- what carrying it up needs
pub record CanCarryAt (room : ℕ) (once : Blocks) (place : ℕ) (b : List Item) : Type 0 where
  pub lawful : IsLsm (take place once)
  pub some : 0 < length (get_or once place [])
  pub apart : ShareNone (content (take place once)) (get_or once place [])
  pub fits : length (content (take place once)) + length (get_or once place []) ≤ room
  pub above : AllByRecursion (λ c. level (get_or once place []) ≤ level c) (take place once)

pub can_carry_at : (room place lesser : ℕ) (now once : Blocks) (b : List Item) → AreParts once (take place now) (drop place now) b place lesser → IsLsm now → 0 < length b → ShareNone (content now) b → length (content now) + length b ≤ room → AllFrom (level b) (take place now) → CanCarryAt room once place b
can_carry_at room place lesser now once b parts lsm some apart fits above =
    let whole : content now ≡ content (take place now) ++ content (drop place now) = ap content (sym (take-append-drop place now)) ∙ content_append (take place now) (drop place now) in
    record {
      lawful = rw parts.front (lsm_front (take place now) (drop place now) (subst IsLsm (sym (take-append-drop place now)) lsm));
      some = rw parts.middle some;
      apart = rw (parts.front, parts.middle) (none_of_first (content (take place now)) (content (drop place now)) b (subst (λ xs. ShareNone xs b) whole apart));
      fits = rw (parts.front, parts.middle) (omega (arith, fits, ap length whole, length-append (content (take place now)) (content (drop place now))));
      above = rw (parts.front, parts.middle) above;
    }

-- and what it leaves
pub settled : (place lesser last : ℕ) (now once carried closed : Blocks) (b : List Item) → AreParts once (take place now) (drop place now) b place lesser → AllFrom (level b) (take place now) → AllBelow (level b) (drop place now)
    → take (last + 1) carried ≡ add (take place once) (get_or once place []) → drop (place + 1) carried ≡ drop (place + 1) once → take (last + 1 + lesser) closed ≡ take (last + 1) carried ++ take lesser (drop (place + 1) carried)
    → take (last + 1 + lesser) closed ≡ add now b
settled place lesser last now once carried closed b parts above below added rest moved =
    moved ∙ (ap (λ (l : Blocks). l ++ take lesser (drop (place + 1) carried)) (added ∙ (ap (λ (l : Blocks). add l (get_or once place [])) parts.front ∙ ap (add (take place now)) parts.middle))
    ∙ (ap (λ (l : Blocks). add (take place now) b ++ l) (ap (take lesser) rest ∙ parts.back)
    ∙ (sym (add_before (take place now) (drop place now) b above below) ∙ ap (λ (l : Blocks). add l b) (take-append-drop place now))))
