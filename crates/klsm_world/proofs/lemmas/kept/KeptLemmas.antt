-- What a running world keeps, after each kind of step but a commit.
use Rattle.std.proofs.Common.{◌≡◌, ◌≢◌, ℕ, ◌+◌, ◌-◌, ◌<◌, ◌≤◌, List, [], ◌∷◌, ◌++◌, length, get_or, slice_get, set, Option, Some, None, refl, sym, ap, ◌∙◌, subst, arith, unwrap_or}
use Rattle.std.proofs.lemmas.List.{get_or_read}
use Rattle.klsm_run.specs.declared.item.Item.{Item}
use Rattle.klsm_run.specs.Content.{sorted}
use Rattle.klsm_parts.specs.Events.{front_of, key_or_greatest}
use Rattle.klsm_schedules.specs.declared.step.Step.{Step}
use Rattle.klsm_schedules.specs.declared.step.Step.TheVariants.{Acquire, Release, Miss, Look, Mark, See}
use Rattle.klsm_schedules.specs.declared.step.Entry.{Entry}
use Rattle.klsm_schedules.specs.declared.step.Entry.TheVariants.{Acquired, Released, Missed, Looked, Marked, Saw}
use Rattle.klsm_world.specs.Kept.{IsKept, homes_of, world_of}
use Rattle.klsm_schedules.specs.OwnSteps.{Holds, content_in, shared_part, work_of}
use Rattle.klsm_schedules.specs.Worlds.{Limits, World, word_of, home_of, hand_in, content_of}
use Rattle.klsm_schedules.specs.LawfulWorlds.{IsLawful}
use Rattle.klsm_schedules.specs.Schedules.{MayStep, next}
use Rattle.klsm_world.proofs.lemmas.kept.HomesLemmas.{homes_taken, homes_freed}
use Rattle.klsm_schedules.proofs.lemmas.lawful.LawfulLemmas.{lawful_kept}
use Rattle.klsm_schedules.proofs.lemmas.lawful.LegalLemmas.{found_at_home}
use Rattle.klsm_schedules.proofs.lemmas.hands.PartContentLemmas.{content_held, content_acquired, content_released, content_missed, content_looked, content_marked, content_seen}

-- a thread's list after one more entry
abbrev pub lists_with : List (List Entry) → ℕ → Entry → List (List Entry)
lists_with lists t entry = set lists t (get_or lists t [] ++ entry ∷ [])

-- what is kept after a step, where the contents at hand are those of the next world
pub kept_after : (limits : Limits) (words words' : List ℕ) (contents contents' : List (List Item)) (lists lists' : List (List Entry)) (step : Step)
    → IsKept limits words contents lists → MayStep limits (world_of words contents lists) step
    → world_of words' contents' lists' ≡ next (world_of words contents lists) step → length contents' ≡ limits.threads + 1
    → ((p : ℕ) → p ≤ limits.threads → content_of (next (world_of words contents lists) step) p ≡ get_or contents' p [])
    → ((p : ℕ) → p ≤ limits.threads → sorted (get_or contents' p []) ≡ get_or contents' p [])
    → IsKept limits words' contents' lists'
kept_after limits words words' contents contents' lists lists' step kept may is many current ascending = record {
  limits_are = kept.limits_are;
  lawful = subst (IsLawful limits) (sym is) (lawful_kept limits (world_of words contents lists) step kept.lawful may);
  contents_are = many;
  current = λ p within. ap (λ w. content_of w p) is ∙ current p within;
  ascending = ascending;
}

-- the front is the key of the first item that is kept of the shared part
pub front_by_first : {limits : Limits} {words : List ℕ} {contents : List (List Item)} {lists : List (List Entry)} (w : World) (items : List Item) (first : Option Item)
    → IsKept limits words contents lists → world_of words contents lists ≡ w → items ≡ get_or contents 0 items → slice_get items 0 ≡ first → key_or_greatest first ≡ w.front
front_by_first {limits} {words} {contents} {lists} w items first kept is shared is_first =
    let content : items ≡ get_or contents 0 [] = get_or_read contents 0 items (omega (arith, kept.contents_are)) shared [] in
    let ascending : sorted (get_or contents 0 []) ≡ items = kept.ascending 0 (omega arith) ∙ sym content in
    ap key_or_greatest (sym is_first ∙ ap (λ c. slice_get c 0) (sym ascending)) ∙ ap (λ v. v.front) is

pub front_is_content : {limits : Limits} {words : List ℕ} {contents : List (List Item)} {lists : List (List Entry)} (w : World)
    → IsKept limits words contents lists → world_of words contents lists ≡ w → w.front ≡ front_of (content_of w shared_part)
front_is_content {limits} w kept is = subst (λ v. v.front ≡ front_of (content_of v shared_part)) is kept.lawful.front_is

-- a part in a thread's hand has there what it has at hand
pub hand_has : (limits : Limits) (words : List ℕ) (contents : List (List Item)) (lists : List (List Entry)) (t p : ℕ)
    → IsKept limits words contents lists → t < limits.threads → p ≤ limits.threads → get_or words p 0 ≡ t + 1 → Holds (hand_in (world_of words contents lists) t) p (get_or contents p [])
hand_has limits words contents lists t p kept less within word =
    let w : World = world_of words contents lists in
    let away : word_of w p ≢ 0 = λ zeros. (let bad : 0 ≡ t + 1 = sym zeros ∙ word in omega (arith, bad)) in
    let at = kept.lawful.agreed.held p within away in
    let both : t + 1 ≡ at.by + 1 = sym word ∙ at.word in
    let one : at.by ≡ t = omega (arith, both) in
    let has : Holds (hand_in w t) p at.held.content = subst (λ u. Holds (hand_in w u) p at.held.content) one at.held.holds in
    subst (λ c. Holds (hand_in w t) p c) (sym (content_held limits w t p at.held.content kept.lawful.agreed less has) ∙ kept.current p within) has

-- after an acquire
pub kept_acquired : (limits : Limits) (words : List ℕ) (contents : List (List Item)) (lists : List (List Entry)) (t p : ℕ)
    → IsKept limits words contents lists → MayStep limits (world_of words contents lists) (Acquire t p)
    → (world_of (set words p (t + 1)) contents (lists_with lists t (Acquired p (get_or contents p []))) ≡ next (world_of words contents lists) (Acquire t p))
    × IsKept limits (set words p (t + 1)) contents (lists_with lists t (Acquired p (get_or contents p [])))
kept_acquired limits words contents lists t p kept may =
    let w : World = world_of words contents lists in
    let words' : List ℕ = set words p (t + 1) in
    let lists' : List (List Entry) = lists_with lists t (Acquired p (get_or contents p [])) in
    let homes : homes_of words' contents ≡ set w.homes p None = homes_taken words contents p (t + 1) (λ bad. omega (arith, bad)) in
    let found : get_or contents p [] ≡ unwrap_or (home_of w p) [] = sym (found_at_home limits w p kept.lawful.agreed may.part may.free ∙ kept.current p may.part) in
    let is : world_of words' contents lists' ≡ next w (Acquire t p) =
    ap (λ (hs : List (Option (List Item))). record { words = words'; front = front_of (get_or contents 0 []); homes = hs; lists = lists' }) homes
    ∙ ap (λ (c : List Item). record { words = words'; front = front_of (get_or contents 0 []); homes = set w.homes p None; lists = lists_with lists t (Acquired p c) }) found in (
      is,
      kept_after limits words words' contents contents lists lists' (Acquire t p) kept may is kept.contents_are
          (λ q within. content_acquired limits w t p q kept.lawful.agreed may ∙ kept.current q within) kept.ascending,
    )

-- after a release
pub kept_released : (limits : Limits) (words : List ℕ) (contents : List (List Item)) (lists : List (List Entry)) (t p : ℕ)
    → IsKept limits words contents lists → MayStep limits (world_of words contents lists) (Release t p)
    → (world_of (set words p 0) contents (lists_with lists t (Released p)) ≡ next (world_of words contents lists) (Release t p))
    × IsKept limits (set words p 0) contents (lists_with lists t (Released p))
kept_released limits words contents lists t p kept may =
    let w : World = world_of words contents lists in
    let words' : List ℕ = set words p 0 in
    let lists' : List (List Entry) = lists_with lists t (Released p) in
    let named = kept.lawful.agreed.named t p may.held.content may.thread may.held.holds in
    let held : content_in (hand_in w t) p ≡ get_or contents p [] = ap (λ o. unwrap_or o []) (hand_has limits words contents lists t p kept may.thread named.0 named.1) in
    let is : world_of words' contents lists' ≡ next w (Release t p) =
    ap (λ (hs : List (Option (List Item))). record { words = words'; front = front_of (get_or contents 0 []); homes = hs; lists = lists' }) (homes_freed words contents p ∙ ap (λ (c : List Item). set w.homes p (Some c)) (sym held)) in (
      is,
      kept_after limits words words' contents contents lists lists' (Release t p) kept may is kept.contents_are
          (λ q within. content_released limits w t p q kept.lawful.agreed may ∙ kept.current q within) kept.ascending,
    )

-- after a miss
pub kept_missed : (limits : Limits) (words : List ℕ) (contents : List (List Item)) (lists : List (List Entry)) (t p : ℕ)
    → IsKept limits words contents lists → MayStep limits (world_of words contents lists) (Miss t p)
    → (world_of words contents (lists_with lists t (Missed p (get_or words p 0 - 1))) ≡ next (world_of words contents lists) (Miss t p))
    × IsKept limits words contents (lists_with lists t (Missed p (get_or words p 0 - 1)))
kept_missed limits words contents lists t p kept may = (
  refl,
  kept_after limits words words contents contents lists (lists_with lists t (Missed p (get_or words p 0 - 1))) (Miss t p) kept may refl kept.contents_are
      (λ q within. content_missed limits (world_of words contents lists) t p q kept.lawful.agreed may ∙ kept.current q within) kept.ascending,
)

-- after a look
pub kept_looked : (limits : Limits) (words : List ℕ) (contents : List (List Item)) (lists : List (List Entry)) (t : ℕ)
    → IsKept limits words contents lists → MayStep limits (world_of words contents lists) (Look t)
    → (world_of words contents (lists_with lists t (Looked (front_of (get_or contents 0 [])))) ≡ next (world_of words contents lists) (Look t))
    × IsKept limits words contents (lists_with lists t (Looked (front_of (get_or contents 0 []))))
kept_looked limits words contents lists t kept may = (
  refl,
  kept_after limits words words contents contents lists (lists_with lists t (Looked (front_of (get_or contents 0 [])))) (Look t) kept may refl kept.contents_are
      (λ q within. content_looked limits (world_of words contents lists) t q kept.lawful.agreed may ∙ kept.current q within) kept.ascending,
)

-- after a mark
pub kept_marked : (limits : Limits) (words : List ℕ) (contents : List (List Item)) (lists : List (List Entry)) (t key : ℕ)
    → IsKept limits words contents lists → MayStep limits (world_of words contents lists) (Mark t key)
    → (world_of words contents (lists_with lists t (Marked key)) ≡ next (world_of words contents lists) (Mark t key)) × IsKept limits words contents (lists_with lists t (Marked key))
kept_marked limits words contents lists t key kept may = (
  refl,
  kept_after limits words words contents contents lists (lists_with lists t (Marked key)) (Mark t key) kept may refl kept.contents_are
      (λ q within. content_marked limits (world_of words contents lists) t key q kept.lawful.agreed may ∙ kept.current q within) kept.ascending,
)

-- after the key of a thread's work is seen
pub kept_seen : (limits : Limits) (words : List ℕ) (contents : List (List Item)) (lists : List (List Entry)) (t u : ℕ)
    → IsKept limits words contents lists → MayStep limits (world_of words contents lists) (See t u)
    → (world_of words contents (lists_with lists t (Saw u (work_of (get_or lists u [])))) ≡ next (world_of words contents lists) (See t u))
    × IsKept limits words contents (lists_with lists t (Saw u (work_of (get_or lists u []))))
kept_seen limits words contents lists t u kept may = (
  refl,
  kept_after limits words words contents contents lists (lists_with lists t (Saw u (work_of (get_or lists u [])))) (See t u) kept may refl kept.contents_are
      (λ q within. content_seen limits (world_of words contents lists) t u q kept.lawful.agreed may ∙ kept.current q within) kept.ascending,
)
