-- The live items, as the contents one after another.
use Rattle.std.proofs.Common.{◌≡◌, ℕ, zero, suc, ◌+◌, ◌<◌, ◌≤◌, List, [], ◌++◌, length, get_or, take, refl, ap, sym, ◌∙◌, arith, add-one}
use Rattle.klsm_schedules.proofs.lemmas.lists.ListLemmas.{items_more}
use Rattle.std.specs.List.{flat_map}
use Rattle.std.proofs.lemmas.List.{length-append}
use Rattle.std.proofs.Math.Seq.{take-length}
use Rattle.klsm_run.specs.declared.item.Item.{Item}
use Rattle.klsm_run.specs.Content.{skipped}
use Rattle.klsm_run.proofs.RankLemmas.{skipped_append}
use Rattle.klsm_schedules.specs.declared.step.Entry.{Entry}
use Rattle.klsm_world.specs.Kept.{IsKept, world_of}
use Rattle.klsm_schedules.specs.Worlds.{Limits, content_of, live_below, live}

-- one content more skips as many items more
pub skipped_more : (contents : List (List Item)) (i : ℕ) (c d : List Item) (x : Item) → i < length contents → c ≡ get_or contents i d
    → skipped (flat_map (λ c. c) (take (i + 1) contents)) x ≡ skipped (flat_map (λ c. c) (take i contents)) x + skipped c x
skipped_more contents i c d x within is =
    ap (λ all. skipped all x) (items_more (λ c. c) contents i d within)
    ∙ (skipped_append (flat_map (λ c. c) (take i contents)) (get_or contents i d) x
    ∙ ap (λ e. skipped (flat_map (λ c. c) (take i contents)) x + skipped e x) (sym is))

-- one content more has as many items more
pub length_more : (contents : List (List Item)) (i : ℕ) (c d : List Item) → i < length contents → c ≡ get_or contents i d
    → length (flat_map (λ c. c) (take (i + 1) contents)) ≡ length (flat_map (λ c. c) (take i contents)) + length c
length_more contents i c d within is =
    ap length (items_more (λ c. c) contents i d within)
    ∙ (length-append (flat_map (λ c. c) (take i contents)) (get_or contents i d)
    ∙ ap (λ e. length (flat_map (λ c. c) (take i contents)) + length e) (sym is))

-- contents that are joined so far, and one more
pub joined_more : (contents : List (List Item)) (i : ℕ) (c d all more : List Item) → i < length contents → d ≡ get_or contents i d → c ≡ d
    → all ≡ flat_map (λ c. c) (take i contents) → more ≡ all ++ c → more ≡ flat_map (λ c. c) (take (i + 1) contents)
joined_more contents i c d all more within is same joined longer =
    longer
    ∙ (ap (λ xs. xs ++ c) joined
    ∙ (ap (λ e. flat_map (λ c. c) (take i contents) ++ e) (same ∙ is) ∙ sym (items_more (λ c. c) contents i d within)))

-- where contents are current, the live items of the first parts are their contents
pub live_below_joined : (limits : Limits) (words : List ℕ) (contents : List (List Item)) (lists : List (List Entry)) (n : ℕ) → IsKept limits words contents lists → n ≤ limits.threads + 1
    → live_below (world_of words contents lists) n ≡ flat_map (λ c. c) (take n contents)
live_below_joined limits words contents lists zero kept within = refl
live_below_joined limits words contents lists (suc n) kept within =
    ap (λ c. c ++ content_of (world_of words contents lists) n) (live_below_joined limits words contents lists n kept (omega (arith, within)))
    ∙ (ap (λ c. flat_map (λ c. c) (take n contents) ++ c) (kept.current n (omega (arith, within)))
    ∙ (sym (items_more (λ c. c) contents n [] (omega (arith, within, kept.contents_are))) ∙ ap (λ i. flat_map (λ c. c) (take i contents)) (add-one n)))

-- the live items are the contents
pub live_joined : (limits : Limits) (words : List ℕ) (contents : List (List Item)) (lists : List (List Entry)) → IsKept limits words contents lists
    → live (world_of words contents lists) ≡ flat_map (λ c. c) contents
live_joined limits words contents lists kept =
    let w = world_of words contents lists in
    let parts : length w.homes ≡ length contents = omega (arith, kept.lawful.agreed.homes_are, kept.contents_are) in
    ap (live_below w) parts
    ∙ (live_below_joined limits words contents lists (length contents) kept (omega (arith, kept.contents_are)) ∙ ap (flat_map (λ c. c)) (take-length contents))
