-- A run that is carried up the levels: it becomes one with each block of the level that it comes to have.
use Rattle.std.proofs.Common.{◌≡◌, ℕ, ◌+◌, ◌-◌, ◌<◌, ◌≤◌, List, [], ◌∷◌, ◌++◌, length, get_or, take, drop, refl, sym, ap, ◌∙◌, subst, arith, suc}
use Rattle.std.proofs.lemmas.Bool.{lt-ltb, le-ltb}
use Rattle.std.proofs.lemmas.List.{append_assoc, length-append, take-append-drop, take_more}
use Rattle.klsm_run.specs.declared.item.Item.{Item}
use Rattle.klsm_run.specs.Block.{IsBlock}
use Rattle.klsm_run.specs.Content.{sorted, ShareNone}
use Rattle.klsm_run.proofs.AllLemmas.{all_weaker, all_append, all_front, all_back}
use Rattle.klsm_run.proofs.SortedLemmas.{IsNew, all_sorted, length_sorted}
use Rattle.klsm_run.proofs.ApartLemmas.{apart_if_sharing_none}
use Rattle.klsm_run.proofs.ContentLemmas.{sharing_none_if_apart}
use Rattle.klsm_lsm.specs.Level.{level}
use Rattle.klsm_lsm.specs.Lsm.{content, IsLsm}
use Rattle.klsm_lsm.specs.Adding.{joined, add}
use Rattle.klsm_lsm.proofs.JoinLemmas.{AllBelow, sharing_none_flipped, none_in_front, none_in_back, level_together, some_in_block}
use Rattle.klsm_lsm.proofs.LeastLemmas.{content_append}
use Rattle.klsm_lsm.proofs.PlaceLemmas.{AllFrom}

-- the blocks of greater levels, each joined to what comes after it, before the last ones
abbrev pub joined_all : List (List Item) → List (List Item) → List (List Item)
joined_all [] lower = lower
joined_all (b ∷ bs) lower = joined b (joined_all bs lower)

joined_all_append : (hs gs lower : List (List Item)) → joined_all (hs ++ gs) lower ≡ joined_all hs (joined_all gs lower)
joined_all_append [] gs lower = refl
joined_all_append (h ∷ hs) gs lower = ap (joined h) (joined_all_append hs gs lower)

-- a run goes before the blocks of lesser levels, and is carried up from there
add_splits : (hs lower : List (List Item)) (run : List Item) → AllFrom (level run) hs → AllBelow (level run) lower → add (hs ++ lower) run ≡ joined_all hs (run ∷ lower)
add_splits [] [] run above below = refl
add_splits [] (c ∷ cs) run above below = rw (lt-ltb (level c) (level run) below.0) refl
add_splits (h ∷ hs) lower run above below = rw (le-ltb (level h) (level run) above.0) (ap (joined h) (add_splits hs lower run above.1 below))

-- blocks of greater levels stay as they are
joined_all_apart : (hs lower : List (List Item)) (w : List Item) → IsLsm hs → AllFrom (suc (level w)) hs → joined_all hs (w ∷ lower) ≡ hs ++ w ∷ lower
joined_all_apart [] lower w lsm above = refl
joined_all_apart (h ∷ []) lower w lsm above = rw (lt-ltb (level w) (level h) above.0) refl
joined_all_apart (h ∷ k ∷ ks) lower w lsm above =
    ap (joined h) (joined_all_apart (k ∷ ks) lower w lsm.3 above.1)
    ∙ rw (lt-ltb (level k) (level h) lsm.1.0) refl

-- a last block is of a lesser level than those before it, and shares no item with them
pub record IsLast (hs : List (List Item)) (b : List Item) : Type 0 where
  pub before : IsLsm hs
  pub above : AllFrom (suc (level b)) hs
  pub apart : ShareNone (content hs) b
  pub block : IsBlock (level b) b

pub is_last : (hs : List (List Item)) (b : List Item) → IsLsm (hs ++ b ∷ []) → IsLast hs b
is_last [] b lsm = record { before = tt; above = tt; apart = λ x in_none in_b. absurd (omega (arith, in_none.1)); block = lsm.0 }
is_last (h ∷ hs) b lsm =
    let rest : IsLast hs b = is_last hs b lsm.3 in
    let none : ShareNone h (content hs ++ (b ++ [])) = subst (ShareNone h) (content_append hs (b ∷ [])) lsm.2 in
    record {
      before = (lsm.0, all_front (λ c. level c < level h) hs (b ∷ []) lsm.1, none_in_front h (content hs) (b ++ []) none, rest.before);
      above = ((all_back (λ c. level c < level h) hs (b ∷ []) lsm.1).0, rest.above);
      apart = sharing_none_if_apart (h ++ content hs) b (all_append (λ x. IsNew x b) h (content hs)
          (apart_if_sharing_none h b (none_in_front h b [] (none_in_back h (content hs) (b ++ []) none)))
          (apart_if_sharing_none (content hs) b rest.apart));
      block = rest.block;
    }

-- the blocks hs are still to be compared with a run w that becomes one with some of them, before the blocks `lower`
pub record IsCarried (room : ℕ) (hs : List (List Item)) (w : List Item) (lower result : List (List Item)) : Type 0 where
  pub leads : joined_all hs (w ∷ lower) ≡ result
  pub some : 0 < length w
  pub apart : ShareNone (content hs) w
  pub fits : length (content hs) + length w ≤ room
  pub above : AllFrom (level w) hs

-- where a run begins
pub carried_first : (room : ℕ) (bs : List (List Item)) (place : ℕ) (run : List Item) → 0 < length run → ShareNone (content bs) run → length (content bs) + length run ≤ room → AllFrom (level run) (take place bs) → AllBelow (level run) (drop place bs) → IsCarried room (take place bs) run (drop place bs) (add bs run)
carried_first room bs place run some apart fits above below =
    let whole : content bs ≡ content (take place bs) ++ content (drop place bs) = ap content (sym (take-append-drop place bs)) ∙ content_append (take place bs) (drop place bs) in
    record {
      leads = sym (ap (λ cs. add cs run) (sym (take-append-drop place bs)) ∙ add_splits (take place bs) (drop place bs) run above below);
      some = some;
      apart = sharing_none_flipped run (content (take place bs)) (none_in_front run (content (take place bs)) (content (drop place bs)) (subst (ShareNone run) whole (sharing_none_flipped (content bs) run apart)));
      fits = omega (arith, fits, ap length whole, length-append (content (take place bs)) (content (drop place bs)));
      above = above;
    }

-- what a merge with the last block needs
pub record CanMerge (room : ℕ) (b w : List Item) : Type 0 where
  pub apart : ShareNone b w
  pub fits : length b + length w ≤ room

pub can_merge : (room : ℕ) (hs : List (List Item)) (b w : List Item) (lower result : List (List Item)) → IsCarried room (hs ++ b ∷ []) w lower result → CanMerge room b w
can_merge room hs b w lower result carried =
    let none : ShareNone w (content hs ++ (b ++ [])) = subst (ShareNone w) (content_append hs (b ∷ [])) (sharing_none_flipped (content (hs ++ b ∷ [])) w carried.apart) in
    record {
      apart = sharing_none_flipped w b (none_in_front w b [] (none_in_back w (content hs) (b ++ []) none));
      fits = omega (arith, carried.fits, ap length (content_append hs (b ∷ [])), length-append (content hs) (b ++ []), length-append b []);
    }

-- the last block becomes one with the run
pub carried_more : (room : ℕ) (hs : List (List Item)) (b w : List Item) (lower result : List (List Item)) → IsLsm (hs ++ b ∷ []) → IsCarried room (hs ++ b ∷ []) w lower result → level b ≡ level w → IsCarried room hs (sorted (b ++ w)) lower result
carried_more room hs b w lower result lsm carried same =
    let last : IsLast hs b = is_last hs b lsm in
    let next = level_together b w (some_in_block (level b) b last.block) carried.some same in
    let count : length (sorted (b ++ w)) ≡ length b + length w = length_sorted (b ++ w) ∙ length-append b w in
    let none : ShareNone w (content hs ++ (b ++ [])) = subst (ShareNone w) (content_append hs (b ∷ [])) (sharing_none_flipped (content (hs ++ b ∷ [])) w carried.apart) in
    record {
      leads = sym (joined_all_append hs (b ∷ []) (w ∷ lower) ∙ ap (joined_all hs) (rw (le-ltb (level w) (level b) (omega (arith, same))) refl)) ∙ carried.leads;
      some = omega (arith, count, carried.some);
      apart = sharing_none_flipped (sorted (b ++ w)) (content hs) (sharing_none_if_apart (sorted (b ++ w)) (content hs) (all_sorted (λ x. IsNew x (content hs)) (b ++ w) (all_append (λ x. IsNew x (content hs)) b w
          (apart_if_sharing_none b (content hs) (sharing_none_flipped (content hs) b last.apart))
          (apart_if_sharing_none w (content hs) (none_in_front w (content hs) (b ++ []) none)))));
      fits = omega (arith, count, carried.fits, ap length (content_append hs (b ∷ [])), length-append (content hs) (b ++ []), length-append b []);
      above = all_weaker (λ c. suc (level b) ≤ level c) (λ c. level (sorted (b ++ w)) ≤ level c) (λ c h. omega (arith, h, next, same)) hs last.above;
    }

-- the last block is of another level
pub carried_last : (room : ℕ) (hs : List (List Item)) (b w : List Item) (lower result : List (List Item)) → IsLsm (hs ++ b ∷ []) → IsCarried room (hs ++ b ∷ []) w lower result → (level b ≡ level w → ⊥) → (hs ++ b ∷ []) ++ w ∷ lower ≡ result
carried_last room hs b w lower result lsm carried differ =
    let last : IsLast hs b = is_last hs b lsm in
    let at_least : level w ≤ level b = (all_back (λ c. level w ≤ level c) hs (b ∷ []) carried.above).0 in
    let less : suc (level w) ≤ level b = omega (arith, at_least, differ) in
    let above : AllFrom (suc (level w)) (hs ++ b ∷ []) = all_append (λ c. suc (level w) ≤ level c) hs (b ∷ []) (all_weaker (λ c. suc (level b) ≤ level c) (λ c. suc (level w) ≤ level c) (λ c h. omega (arith, h, less)) hs last.above) (less, tt) in
    sym (joined_all_apart (hs ++ b ∷ []) lower w lsm above) ∙ carried.leads

pub lsm_front : (hs ls : List (List Item)) → IsLsm (hs ++ ls) → IsLsm hs
lsm_front [] ls lsm = tt
lsm_front (h ∷ hs) ls lsm = (
  lsm.0,
  all_front (λ c. level c < level h) hs ls lsm.1,
  none_in_front h (content hs) (content ls) (subst (ShareNone h) (content_append hs ls) lsm.2),
  lsm_front hs ls lsm.3,
)

-- the blocks up to one, with that one last
pub up_to_last : (bs : List (List Item)) (start : ℕ) → 0 < start → start ≤ length bs → take start bs ≡ take (start - 1) bs ++ get_or bs (start - 1) [] ∷ []
up_to_last bs start some within =
    let next : start - 1 + 1 ≡ start = omega arith in
    ap (λ n. take n bs) (sym next) ∙ take_more bs (start - 1) [] (omega arith)

lsm_up_to : (bs : List (List Item)) (start : ℕ) → IsLsm bs → 0 < start → start ≤ length bs → IsLsm (take (start - 1) bs ++ get_or bs (start - 1) [] ∷ [])
lsm_up_to bs start lsm some within = subst IsLsm (up_to_last bs start some within) (lsm_front (take start bs) (drop start bs) (subst IsLsm (sym (take-append-drop start bs)) lsm))

pub can_merge_at : (room : ℕ) (bs : List (List Item)) (start : ℕ) (b w : List Item) (lower result : List (List Item)) → 0 < start → start ≤ length bs → b ≡ get_or bs (start - 1) [] → IsCarried room (take start bs) w lower result → CanMerge room b w
can_merge_at room bs start b w lower result some within is carried =
    rw is (can_merge room (take (start - 1) bs) (get_or bs (start - 1) []) w lower result (subst (λ hs. IsCarried room hs w lower result) (up_to_last bs start some within) carried))

pub carried_more_at : (room : ℕ) (bs : List (List Item)) (start : ℕ) (b w whole : List Item) (lower result : List (List Item)) → IsLsm bs → 0 < start → start ≤ length bs → b ≡ get_or bs (start - 1) [] → level b ≡ level w → whole ≡ sorted (b ++ w) → IsCarried room (take start bs) w lower result → IsCarried room (take (start - 1) bs) whole lower result
carried_more_at room bs start b w whole lower result lsm some within is same merged carried =
    rw (merged, is) (carried_more room (take (start - 1) bs) (get_or bs (start - 1) []) w lower result (lsm_up_to bs start lsm some within) (subst (λ hs. IsCarried room hs w lower result) (up_to_last bs start some within) carried) (rw is at same))

pub carried_last_at : (room : ℕ) (bs : List (List Item)) (start : ℕ) (b w : List Item) (lower result : List (List Item)) → IsLsm bs → 0 < start → start ≤ length bs → b ≡ get_or bs (start - 1) [] → (level b ≡ level w → ⊥) → IsCarried room (take start bs) w lower result → take start bs ++ w ∷ lower ≡ result
carried_last_at room bs start b w lower result lsm some within is differ carried =
    ap (λ hs. hs ++ w ∷ lower) (up_to_last bs start some within)
    ∙ carried_last room (take (start - 1) bs) (get_or bs (start - 1) []) w lower result (lsm_up_to bs start lsm some within) (subst (λ hs. IsCarried room hs w lower result) (up_to_last bs start some within) carried) (rw is at differ)

-- no block is left
pub carried_none_at : (room : ℕ) (bs : List (List Item)) (start : ℕ) (w : List Item) (lower result : List (List Item)) → start ≤ 0 → IsCarried room (take start bs) w lower result → take start bs ++ w ∷ lower ≡ result
carried_none_at room bs start w lower result none carried =
    let zero' : start ≡ 0 = omega arith in
    rw zero' (subst (λ n. joined_all (take n bs) (w ∷ lower) ≡ result) zero' carried.leads)

-- a run of a level that no block has is put between the others
pub add_puts : (hs ls : List (List Item)) (run : List Item) → IsLsm hs → AllFrom (suc (level run)) hs → AllBelow (level run) ls → add (hs ++ ls) run ≡ hs ++ run ∷ ls
add_puts hs ls run lsm above below =
    add_splits hs ls run (all_weaker (λ c. suc (level run) ≤ level c) (λ c. level run ≤ level c) (λ c h. omega (arith, h)) hs above) below
    ∙ joined_all_apart hs ls run lsm above

-- a run of a block's level becomes one with it
pub add_merges : (hs ls : List (List Item)) (b run : List Item) → IsLsm (hs ++ b ∷ ls) → 0 < length run → level b ≡ level run → add (hs ++ b ∷ ls) run ≡ add (hs ++ ls) (sorted (b ++ run))
add_merges hs ls b run lsm some same =
    let parts : (hs ++ b ∷ []) ++ ls ≡ hs ++ b ∷ ls = append_assoc hs (b ∷ []) ls in
    let front : IsLsm (hs ++ b ∷ []) = lsm_front (hs ++ b ∷ []) ls (subst IsLsm (sym parts) lsm) in
    let last : IsLast hs b = is_last hs b front in
    let next = level_together b run (some_in_block (level b) b last.block) some same in
    let lower : AllBelow (level b) ls = below_block hs b ls lsm in
    ap (λ bs. add bs run) (sym parts)
    ∙ (add_splits (hs ++ b ∷ []) ls run (all_append (λ c. level run ≤ level c) hs (b ∷ []) (all_weaker (λ c. suc (level b) ≤ level c) (λ c. level run ≤ level c) (λ c h. omega (arith, h, same)) hs last.above) (omega (arith, same), tt)) (all_weaker (λ c. level c < level b) (λ c. level c < level run) (λ c h. omega (arith, h, same)) ls lower)
    ∙ (joined_all_append hs (b ∷ []) (run ∷ ls)
    ∙ (ap (joined_all hs) (rw (le-ltb (level run) (level b) (omega (arith, same))) refl)
    ∙ sym (add_splits hs ls (sorted (b ++ run)) (all_weaker (λ c. suc (level b) ≤ level c) (λ c. level (sorted (b ++ run)) ≤ level c) (λ c h. omega (arith, h, next, same)) hs last.above) (all_weaker (λ c. level c < level b) (λ c. level c < level (sorted (b ++ run))) (λ c h. omega (arith, h, next, same)) ls lower)))))
  where
    below_block : (gs : List (List Item)) (c : List Item) (ds : List (List Item)) → IsLsm (gs ++ c ∷ ds) → AllBelow (level c) ds
    below_block [] c ds lsm' = lsm'.1
    below_block (g ∷ gs) c ds lsm' = below_block gs c ds lsm'.3
