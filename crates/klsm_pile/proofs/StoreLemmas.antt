-- What the front and the pieces are once some levels have one number, and how many items the levels have then.
use Rattle.std.proofs.Common.{◌≡◌, ℕ, ◌+◌, ◌<◌, ◌≤◌, ◌^◌, Bool, true, false, List, [], ◌∷◌, ◌++◌, length, get_or, set, refl, sym, ap, ◌∙◌, subst, arith, pow-suc, lt-ltb, le-ltb, zero, suc, ◌⊎◌, inl, inr}
use Rattle.std.specs.Prelude.{Option, Some, None}
use Rattle.std.specs.List.{AllByRecursion}
use Rattle.std.proofs.lemmas.Bool.{cases_lt, cases_eq}
use Rattle.std.proofs.lemmas.List.{length-append, get_or-set_same, get_or-set_other}
use Rattle.std.proofs.Math.Pow.{pow_mono}
use Rattle.klsm_run.specs.declared.item.Item.{Item}
use Rattle.klsm_run.specs.Block.{HasLevel}
use Rattle.klsm_run.proofs.SortedLemmas.{length_sorted}
use Rattle.klsm_lsm.proofs.LevelLemmas.{level_least}
use Rattle.klsm_pile.specs.declared.fetched.Fetched.{Fetched}
use Rattle.klsm_pile.specs.Piece.{PieceState}
use Rattle.klsm_pile.specs.Pieces.{counted, items_where, at_level, is_between, items_between, every_item}
use Rattle.klsm_pile.specs.Counting.{AreCounts, IsNextBelow, AreNumberedBelow}
use Rattle.klsm_pile.specs.Front.{singles, parts, front_items}
use Rattle.klsm_pile.specs.Renumbering.{IsRenumbered}
use Rattle.klsm_pile.specs.Settling.{regrouped_level, regrouped, relabelled, IsSettled}
use Rattle.klsm_pile.proofs.RaisedLemmas.{between_empty, between_splits}
use Rattle.klsm_pile.proofs.AddingLemmas.{length_same}
use Rattle.klsm_pile.proofs.SettlingLemmas.{group_kept, group_left, group_here, between_low, between_free}

singles_relabelled : (low high to : ℕ) (fs : List Fetched) → singles (relabelled low high to fs) ≡ regrouped low high to (singles fs)
singles_relabelled low high to [] = refl
singles_relabelled low high to (f ∷ fs) = ap (λ ps. record { items = f.item ∷ []; level = regrouped_level low high to f.level } ∷ ps) (singles_relabelled low high to fs)

regrouped_append : (low high to : ℕ) (ps qs : List PieceState) → regrouped low high to (ps ++ qs) ≡ regrouped low high to ps ++ regrouped low high to qs
regrouped_append low high to [] qs = refl
regrouped_append low high to (p ∷ ps) qs = ap (λ rs. record p { level = regrouped_level low high to p.level } ∷ rs) (regrouped_append low high to ps qs)

pub parts_regrouped : (low high to : ℕ) (fs : List Fetched) (ps : List PieceState) → parts (relabelled low high to fs) (regrouped low high to ps) ≡ regrouped low high to (parts fs ps)
parts_regrouped low high to fs ps = ap (λ qs. qs ++ regrouped low high to ps) (singles_relabelled low high to fs) ∙ sym (regrouped_append low high to (singles fs) ps)

items_relabelled : (low high to : ℕ) (fs : List Fetched) → front_items (relabelled low high to fs) ≡ front_items fs
items_relabelled low high to [] = refl
items_relabelled low high to (f ∷ fs) = ap (λ xs. f.item ∷ xs) (items_relabelled low high to fs)

items_regrouped : (low high to : ℕ) (ps : List PieceState) → every_item (regrouped low high to ps) ≡ every_item ps
items_regrouped low high to [] = refl
items_regrouped low high to (p ∷ ps) = ap (λ xs. p.items ++ xs) (items_regrouped low high to ps)

length_relabelled : (low high to : ℕ) (fs : List Fetched) → length (relabelled low high to fs) ≡ length fs
length_relabelled low high to [] = refl
length_relabelled low high to (f ∷ fs) = ap suc (length_relabelled low high to fs)

length_regrouped : (low high to : ℕ) (ps : List PieceState) → length (regrouped low high to ps) ≡ length ps
length_regrouped low high to [] = refl
length_regrouped low high to (p ∷ ps) = ap suc (length_regrouped low high to ps)

-- all pieces are of levels below one
abbrev pub AreBelowLevel : ℕ → List PieceState → Type 0
AreBelowLevel levels = AllByRecursion (λ (p : PieceState). p.level < levels)

pub below_regrouped : (levels low high to : ℕ) (ps : List PieceState) → to < levels → AreBelowLevel levels ps → AreBelowLevel levels (regrouped low high to ps)
below_regrouped levels low high to [] less below = tt
below_regrouped levels low high to (p ∷ ps) less below = (first, below_regrouped levels low high to ps less below.1) where
  first : regrouped_level low high to p.level < levels
  first = elim (cases_lt p.level low) [
    | inl under ↦ rw (lt-ltb p.level low under) below.0
    | inr over ↦ rw (le-ltb p.level low over) (elim (cases_lt high p.level) [
      | inl beyond ↦ rw (lt-ltb high p.level beyond) below.0
      | inr inside ↦ rw (le-ltb high p.level inside) less
    ])
  ]

pub renumbered : (levels low high to : ℕ) (front after : List Fetched) (ps rest : List PieceState) → to < levels → after ≡ relabelled low high to front → rest ≡ regrouped low high to ps → IsRenumbered levels front ps after rest
renumbered levels low high to front after ps rest less front_is pieces_is = record {
  items = ap front_items front_is ∙ items_relabelled low high to front;
  pieces = ap every_item pieces_is ∙ items_regrouped low high to ps;
  below = λ below. subst (AreBelowLevel levels) (sym (ap (λ fs. parts fs rest) front_is ∙ (ap (parts (relabelled low high to front)) pieces_is ∙ parts_regrouped low high to front ps))) (below_regrouped levels low high to (parts front ps) less below);
  lengths = (ap length front_is ∙ length_relabelled low high to front, ap length pieces_is ∙ length_regrouped low high to ps);
}

pub renumbered_not : (levels : ℕ) (front : List Fetched) (ps : List PieceState) → IsRenumbered levels front ps front ps
renumbered_not levels front ps = record { items = refl; pieces = refl; below = λ below. below; lengths = (refl, refl) }

-- a level that has no item
pub none_there : (xs : List Item) → length xs ≡ 0 → xs ≡ []
none_there [] h = refl
none_there (x ∷ xs) h = absurd (omega (arith, h))

-- one more level is gathered
pub sum_more : (low level sum count : ℕ) (ps : List PieceState) → low ≤ level → sum ≡ length (items_between low level ps) → count ≡ length (at_level level ps) → sum + count ≡ length (items_between low (level + 1) ps)
sum_more low level sum count ps order so_far here =
    let next : suc level ≡ level + 1 = omega arith in
    let size : length (items_between low (suc level) ps) ≡ length (at_level level ps) + length (items_between low level ps) =
    length_same (items_between low (suc level) ps) (at_level level ps ++ items_between low level ps) (between_splits low level ps order) ∙ length-append (at_level level ps) (items_between low level ps) in
    omega (arith, so_far, here, size, ap (λ n. length (items_between low n ps)) next)

-- the counts once the levels from `low` to `high` are of the level `to`
pub gathered : (low high to sum : ℕ) (old mid new : List ℕ) (ps : List PieceState) → low ≤ to → to ≤ high → high < length old → length mid ≡ length old → AreCounts old ps → sum ≡ length (items_between low (high + 1) ps)
    → ((l : ℕ) → low ≤ l → l ≤ high → get_or mid l 0 ≡ 0) → ((l : ℕ) → (l < low) ⊎ (high < l) → get_or mid l 0 ≡ get_or old l 0) → new ≡ set mid to sum → AreCounts new (regrouped low high to ps)
gathered low high to sum old mid new ps order within fits same_length counts_are sum_is cleared kept is l less = ap (λ cs. get_or cs l 0) is ∙ here (omega (arith, less, ap length is, length_set mid to sum, same_length)) where
  length_set : (xs : List ℕ) (i v : ℕ) → length (set xs i v) ≡ length xs
  length_set [] i v = refl
  length_set (x ∷ xs) zero v = refl
  length_set (x ∷ xs) (suc i) v = ap suc (length_set xs i v)

  out : (l < low) ⊎ (high < l) → get_or (set mid to sum) l 0 ≡ length (at_level l (regrouped low high to ps))
  out o = elim (cases_eq l to) [
    | inl same ↦ absurd (elim o [ inl under ↦ omega (arith, under, same, order) | inr over ↦ omega (arith, over, same, within) ])
    | inr differ ↦ get_or-set_other mid to l sum 0 differ ∙ (kept l o ∙ (counts_are l (omega (arith, less, ap length is, length_set mid to sum, same_length)) ∙ ap length (sym (group_kept low high to l ps order within o))))
  ]

  here : l < length old → get_or (set mid to sum) l 0 ≡ length (at_level l (regrouped low high to ps))
  here in_old = elim (cases_lt l low) [
    | inl under ↦ out (inl under)
    | inr at_least ↦ elim (cases_lt high l) [
      | inl over ↦ out (inr over)
      | inr at_most ↦ elim (cases_eq to l) [
        | inl same ↦ subst (λ k. get_or (set mid to sum) k 0 ≡ length (at_level k (regrouped low high to ps))) same
            (get_or-set_same mid to sum 0 (omega (arith, within, fits, same_length)) ∙ (sum_is ∙ (ap (λ n. length (items_between low n ps)) (next high) ∙ ap length (sym (group_here low high to ps order within)))))
        | inr differ ↦ get_or-set_other mid to l sum 0 (λ e. differ (sym e)) ∙ (cleared l at_least at_most ∙ ap length (sym (group_left low high to l ps at_least at_most differ)))
      ]
    ]
  ]
    where
      next : (n : ℕ) → n + 1 ≡ suc n
      next n = omega arith

pub fits_level : (l n : ℕ) → HasLevel l n → n ≤ 2 ^ l
fits_level zero n h = omega (arith, h)
fits_level (suc l) n h = h.1

-- more items are of no lower level
level_grows : (l k n m : ℕ) → HasLevel l n → HasLevel k m → n ≤ m → l ≤ k
level_grows zero k n m h j more = omega arith
level_grows (suc l) k n m h j more = elim (cases_lt l k) [
  | inl less ↦ omega (arith, less)
  | inr at_least ↦ absurd (let low : 2 ^ k ≤ 2 ^ l = pow_mono at_least in omega (arith, h.0, more, fits_level k m j, low))
]

-- few items are of a low level
level_bound : (l k n : ℕ) → HasLevel l n → n ≤ 2 ^ k → l ≤ k
level_bound zero k n h fits = omega arith
level_bound (suc l) k n h fits = elim (cases_lt l k) [
  | inl less ↦ omega (arith, less)
  | inr at_least ↦ absurd (let low : 2 ^ k ≤ 2 ^ l = pow_mono at_least in omega (arith, h.0, fits, low))
]

pub regrouped_same : (l : ℕ) (qs : List PieceState) → regrouped l l l qs ≡ qs
regrouped_same l [] = refl
regrouped_same l (q ∷ qs) = ap (λ n. record q { level = n } ∷ regrouped l l l qs) (number q.level) ∙ ap (λ rs. q ∷ rs) (regrouped_same l qs) where
  number : (n : ℕ) → regrouped_level l l l n ≡ n
  number n = elim (cases_lt n l) [
    | inl below ↦ rw (lt-ltb n l below) refl
    | inr above ↦ rw (le-ltb n l above) (elim (cases_lt l n) [
      | inl beyond ↦ rw (lt-ltb l n beyond) refl
      | inr inside ↦ rw (le-ltb l n inside) (omega (arith, above, inside))
    ])
  ]

some_items : (l n : ℕ) → HasLevel l n → 0 < n
some_items zero n h = omega (arith, h)
some_items (suc l) n h = omega (arith, h.0)

-- as many are left as the block's level asks for
pub settled_same : (level left : ℕ) (ps : List PieceState) → left ≡ length (at_level level ps) → HasLevel level left → IsSettled level ps ps
settled_same level left ps count has = inr (record {
  some = omega (arith, count, some_items level left has);
  low = level;
  to = level;
  settling = record {
    order = omega arith;
    within = omega arith;
    has = subst (HasLevel level) (count ∙ sym (length_same (items_between level (suc level) ps) (at_level level ps) (between_low level (suc level) ps (omega arith) (λ k above below. absurd (omega (arith, above, below)))))) has;
    next = inl (record { same = refl; free = λ k at_least below. absurd (omega (arith, at_least, below)) });
  };
  regroups = sym (regrouped_same level ps);
})

-- which level two blocks have together
pub record IsOrdered (low to high : ℕ) : Type 0 where
  pub order : low ≤ to
  pub within : to ≤ high

pub together_ordered : (level next own to left count : ℕ) → HasLevel own left → own ≤ next → next < level → HasLevel next count → HasLevel to (left + count) → IsOrdered next to level
together_ordered level next own to left count has low less has_next has_both =
    let few : left + count ≤ 2 ^ suc next = (let fits : 2 ^ own ≤ 2 ^ next = pow_mono low in omega (arith, fits_level own left has, fits, fits_level next count has_next, pow-suc 2 next)) in
    record {
      order = level_grows next to count (left + count) has_next has_both (omega arith);
      within = omega (arith, level_bound to (suc next) (left + count) has_both few, less);
    }

-- what is left has fallen to the level of the next block
pub settled_together : (level next own to left : ℕ) (ps rest : List PieceState) → left ≡ length (at_level level ps) → HasLevel own left → own ≤ next → next < level → HasLevel next (length (at_level next ps))
    → ((l : ℕ) → next < l → l < level → at_level l ps ≡ []) → HasLevel to (left + length (at_level next ps)) → rest ≡ regrouped next level to ps → IsSettled level ps rest
settled_together level next own to left ps rest count has low less has_next free has_both is =
    let ordered = together_ordered level next own to left (length (at_level next ps)) has low less has_next has_both in
    let size : length (items_between next (suc level) ps) ≡ left + length (at_level next ps) =
    length_same (items_between next (suc level) ps) (at_level level ps ++ items_between next level ps) (between_splits next level ps (omega (arith, less)))
    ∙ (length-append (at_level level ps) (items_between next level ps)
    ∙ (ap (λ n. length (at_level level ps) + n) (length_same (items_between next level ps) (at_level next ps) (between_low next level ps less free))
    ∙ ap (λ n. n + length (at_level next ps)) (sym count))) in
    inr (record {
      some = omega (arith, count, some_items own left has);
      low = next;
      to = to;
      settling = record {
        order = ordered.order;
        within = ordered.within;
        has = subst (HasLevel to) (sym size) has_both;
        next = inr (record {
          below = less;
          some = some_items next (length (at_level next ps)) has_next;
          no_greater = level_least (length (at_level level ps)) next (let fits : 2 ^ own ≤ 2 ^ next = pow_mono low in omega (arith, count, fits_level own left has, fits));
          free = free;
        });
      };
      regroups = is;
    })

-- what is left is of a level that no block has
pub settled_alone : (level own left : ℕ) (ps rest : List PieceState) → left ≡ length (at_level level ps) → HasLevel own left → own ≤ level → ((l : ℕ) → own ≤ l → l < level → at_level l ps ≡ []) → rest ≡ regrouped own level own ps → IsSettled level ps rest
settled_alone level own left ps rest count has within free is =
    let size : length (items_between own (suc level) ps) ≡ left =
    length_same (items_between own (suc level) ps) (at_level level ps ++ items_between own level ps) (between_splits own level ps within)
    ∙ (length-append (at_level level ps) (items_between own level ps)
    ∙ (ap (λ n. length (at_level level ps) + n) (sym (length_sorted (items_between own level ps)) ∙ ap length (between_free own level ps within free))
    ∙ omega (arith, count))) in
    inr (record {
      some = omega (arith, count, some_items own left has);
      low = own;
      to = own;
      settling = record {
        order = omega arith;
        within = within;
        has = subst (HasLevel own) (sym size) has;
        next = inl (record { same = refl; free = free });
      };
      regroups = is;
    })

-- the items of some levels are no more than all
pub between_few : (from to : ℕ) (ps : List PieceState) → length (items_between from to ps) ≤ length (every_item ps)
between_few from to [] = omega arith
between_few from to (p ∷ ps) =
    omega (arith, part (is_between from to p.level), between_few from to ps, length-append (counted (is_between from to p.level) p.items) (items_between from to ps), length-append p.items (every_item ps))
  where
    part : (b : Bool) → length (counted b p.items) ≤ length p.items
    part true = omega arith
    part false = omega arith

-- one more level is cleared
pub cleared_more : (low level : ℕ) (counts : List ℕ) → level < length counts → ((k : ℕ) → low ≤ k → k < level → get_or counts k 0 ≡ 0) → (k : ℕ) → low ≤ k → k < level + 1 → get_or (set counts level 0) k 0 ≡ 0
cleared_more low level counts within cleared k at_least less = elim (cases_eq level k) [
  | inl same ↦ subst (λ n. get_or (set counts level 0) n 0 ≡ 0) same (get_or-set_same counts level 0 0 within)
  | inr differ ↦ get_or-set_other counts level k 0 0 (λ e. differ (sym e)) ∙ cleared k at_least (omega (arith, less, differ))
]

pub kept_more : (low level : ℕ) (counts old : List ℕ) → low ≤ level → ((k : ℕ) → (k < low) ⊎ (level ≤ k) → get_or counts k 0 ≡ get_or old k 0) → (k : ℕ) → (k < low) ⊎ (level + 1 ≤ k) → get_or (set counts level 0) k 0 ≡ get_or old k 0
kept_more low level counts old order kept k out =
    get_or-set_other counts level k 0 0 (λ (e : k ≡ level). elim out [ inl under ↦ omega (arith, e, under, order) | inr over ↦ omega (arith, e, over) ])
    ∙ kept k (elim out [ inl under ↦ inl under | inr over ↦ inr (omega (arith, over)) ])

pub between_none : (low : ℕ) (ps : List PieceState) → 0 ≡ length (items_between low low ps)
between_none low ps = sym (ap length (between_empty low ps))

pub parts_are : (low high to : ℕ) (front after : List Fetched) (ps rest : List PieceState) → after ≡ relabelled low high to front → rest ≡ regrouped low high to ps → parts after rest ≡ regrouped low high to (parts front ps)
parts_are low high to front after ps rest front_is pieces_is =
    ap (λ fs. parts fs rest) front_is ∙ (ap (parts (relabelled low high to front)) pieces_is ∙ parts_regrouped low high to front ps)

pub picked_few : (test : ℕ → Bool) (ps : List PieceState) → length (items_where test ps) ≤ length (every_item ps)
picked_few test [] = omega arith
picked_few test (p ∷ ps) =
    omega (arith, part (test p.level), picked_few test ps, length-append (counted (test p.level) p.items) (items_where test ps), length-append p.items (every_item ps))
  where
    part : (b : Bool) → length (counted b p.items) ≤ length p.items
    part true = omega arith
    part false = omega arith

-- the levels below a block, by their counts
free_below : (counts : List ℕ) (low level : ℕ) (ps : List PieceState) → level ≤ length counts → AreCounts counts ps → ((l : ℕ) → low ≤ l → l < level → get_or counts l 0 ≡ 0) → (l : ℕ) → low ≤ l → l < level → at_level l ps ≡ []
free_below counts low level ps fits counts_are none l at_least less = none_there (at_level l ps) (sym (counts_are l (omega (arith, less, fits))) ∙ none l at_least less)

pub group_alone : (counts : List ℕ) (level own left : ℕ) (next : Option ℕ) (ps : List PieceState) → level < length counts → get_or counts level 0 ≡ left → HasLevel own left → own ≤ level → next ≡ None → IsNextBelow counts level next → AreCounts counts ps
    → IsSettled level ps (regrouped own level own ps)
group_alone counts level own left next ps fits count has within none below counts_are =
    settled_alone level own left ps (regrouped own level own ps) (sym count ∙ counts_are level fits) has within
    (free_below counts own level ps (omega (arith, fits)) counts_are (λ l at_least less. subst (IsNextBelow counts level) none below l less)) refl

pub group_low : (counts : List ℕ) (level own left at : ℕ) (next : Option ℕ) (ps : List PieceState) → level < length counts → get_or counts level 0 ≡ left → HasLevel own left → own ≤ level → next ≡ Some at → at < own → IsNextBelow counts level next → AreCounts counts ps
    → IsSettled level ps (regrouped own level own ps)
group_low counts level own left at next ps fits count has within some less below counts_are =
    let found = subst (IsNextBelow counts level) some below in
    settled_alone level own left ps (regrouped own level own ps) (sym count ∙ counts_are level fits) has within
    (free_below counts own level ps (omega (arith, fits)) counts_are (λ l at_least under. found.2 l (omega (arith, less, at_least)) under)) refl

-- the next block has as many items as its level asks for
next_numbered : (counts : List ℕ) (level at : ℕ) (ps : List PieceState) → at < level → level < length counts → 0 < get_or counts at 0 → AreCounts counts ps → AreNumberedBelow level ps → HasLevel at (length (at_level at ps))
next_numbered counts level at ps less fits some counts_are numbered = elim (numbered at less) [
  | inl none ↦ absurd (omega (arith, some, counts_are at (omega (arith, less, fits)), ap length none))
  | inr has ↦ has
]

pub group_next : (counts : List ℕ) (level own left at to : ℕ) (next : Option ℕ) (ps : List PieceState) → level < length counts → get_or counts level 0 ≡ left → HasLevel own left → next ≡ Some at → own ≤ at → IsNextBelow counts level next → AreCounts counts ps → AreNumberedBelow level ps
    → HasLevel to (left + get_or counts at 0) → IsOrdered at to level × IsSettled level ps (regrouped at level to ps)
group_next counts level own left at to next ps fits count has some low below counts_are numbered has_both =
    let found = subst (IsNextBelow counts level) some below in
    let has_next : HasLevel at (length (at_level at ps)) = next_numbered counts level at ps found.0 fits found.1 counts_are numbered in
    let size : get_or counts at 0 ≡ length (at_level at ps) = counts_are at (omega (arith, found.0, fits)) in
    let both : HasLevel to (left + length (at_level at ps)) = subst (λ n. HasLevel to (left + n)) size has_both in (
      together_ordered level at own to left (length (at_level at ps)) has low found.0 has_next both,
      settled_together level at own to left ps (regrouped at level to ps) (sym count ∙ counts_are level fits) has low found.0 has_next
          (λ l above under. free_below counts (suc at) level ps (omega (arith, fits)) counts_are (λ k at_least less. found.2 k (omega (arith, at_least)) less) l (omega (arith, above)) under) both refl,
    )
