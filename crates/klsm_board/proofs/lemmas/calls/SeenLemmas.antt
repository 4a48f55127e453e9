-- The keys in work that a thread with all parts sees are those of one world.
use Rattle.std.proofs.Common.{◌≡◌, ℕ, zero, suc, ◌+◌, ◌<◌, ◌≤◌, List, [], ◌∷◌, ◌++◌, length, get_or, take, refl, sym, ap, ◌∙◌, subst, arith, append_assoc}
use Rattle.std.specs.Prelude.{min}
use Rattle.std.proofs.lemmas.List.{append-nil}
use Rattle.std.proofs.lemmas.List.Sums.{fold-append}
use Rattle.atomic_table.specs.Table.{Me}
use Rattle.klsm_schedules.specs.declared.step.Entry.{Entry}
use Rattle.klsm_schedules.specs.declared.step.Entry.TheVariants.{Saw}
use Rattle.klsm_schedules.specs.OwnSteps.{seen_after, seen_of, work_of}
use Rattle.klsm_schedules.specs.Worlds.{World, steps_of}
use Rattle.klsm_schedules.specs.WorkLaws.{AreAtWork, least_work}
use Rattle.klsm_schedules.proofs.lemmas.theorems.SeenLemmas.{seen_keys_hold}
use Rattle.klsm_board.specs.declared.rule.View.{View}
use Rattle.klsm_board.specs.declared.sizes.Sizes.{Sizes}
use Rattle.klsm_board.specs.Bounding.{keys_seen, least_key}
use Rattle.klsm_board.specs.Rule.{world_limits}
use Rattle.klsm_board.specs.Steps.{mine, AreReached}
use Rattle.klsm_board.proofs.lemmas.calls.EffectLemmas.{lawful_there}

-- the keys with the threads that work at them, the last one first
abbrev with_threads : List ℕ → List (ℕ × ℕ)
with_threads [] = []
with_threads (key ∷ keys) = (length keys, key) ∷ with_threads keys

-- a list notes them
noted_keys : (es : List Entry) (keys : List ℕ) → seen_of (es ++ keys_seen keys) ≡ with_threads keys ++ seen_of es
noted_keys es [] = ap seen_of (append-nil es)
noted_keys es (key ∷ keys) =
    ap seen_of (sym (append_assoc es (keys_seen keys) (Saw (length keys) key ∷ [])))
    ∙ (fold-append seen_after [] (es ++ keys_seen keys) (Saw (length keys) key ∷ []) ∙ ap (λ z. (length keys, key) ∷ z) (noted_keys es keys))

-- the least of the keys in work of the first lists, and of one more
least_of_more : (n : ℕ) (lists : List (List Entry)) → n < length lists → least_work (take (suc n) lists) ≡ min (work_of (get_or lists n [])) (least_work (take n lists))
least_of_more n [] inside = absurd (omega (arith, inside))
least_of_more zero (own ∷ lists) inside = refl
least_of_more (suc n) (own ∷ lists) inside = let h = least_of_more n lists (omega (arith, inside)) in omega (arith, h)

least_of_all : (lists : List (List Entry)) → least_work (take (length lists) lists) ≡ least_work lists
least_of_all [] = refl
least_of_all (own ∷ lists) = ap (min (work_of own)) (least_of_all lists)

-- so where each thread works at its key, the least of the keys is the least in work
least_seen : (w : World) (keys : List ℕ) (more : List (ℕ × ℕ)) → length keys ≤ length w.lists → AreAtWork w (with_threads keys ++ more) → least_key keys ≡ least_work (take (length keys) w.lists)
least_seen w [] more within are = refl
least_seen w (key ∷ keys) more within are =
    let h = least_seen w keys more (omega (arith, within)) are.1 in
    let last = least_of_more (length keys) w.lists (omega (arith, within)) in
    (λ i. min (are.0 i) (h i)) ∙ sym last

module _ (m : Sizes) (t : ℕ) where
  pub seen_is_least : (v : View) (es : List Entry) (keys : List ℕ) → (r : AreReached m t v) → mine v ≡ es ++ keys_seen keys → length keys ≡ m.threads → least_key keys ≡ least_work r.world.lists
  seen_is_least v es keys r list many =
      let agreed = (lawful_there m t v r).agreed in
      let as_many : length keys ≡ length r.world.lists = omega (arith, many, agreed.lists_are) in
      let own : steps_of r.world t ≡ es ++ keys_seen keys = r.list_is ∙ list in
      let are : AreAtWork r.world (with_threads keys ++ seen_of es) =
      subst (AreAtWork r.world) (ap seen_of own ∙ noted_keys es keys) (seen_keys_hold (world_limits m) r.schedule r.world t r.leads r.thread) in
      least_seen r.world keys (seen_of es) (omega (arith, as_many)) are ∙ (ap (λ n. least_work (take n r.world.lists)) as_many ∙ least_of_all r.world.lists)

module _ {S : Type 0} where
  -- the keys of the first so many threads were seen
  pub record Seeing (es : List Entry) (number : ℕ) (least : ℕ) (me : Me S View) : Type 0 where
    pub keys : List ℕ
    pub many : length keys ≡ number
    pub least_is : least ≡ least_key keys
    pub list : mine me.0 ≡ es ++ keys_seen keys

  pub seeing_none : (me : Me S View) → Seeing (mine me.0) 0 18446744073709551615 me
  seeing_none me = record { keys = []; many = refl; least_is = refl; list = sym (append-nil (mine me.0)) }

  pub seeing_more : (es : List Entry) (number key least least' : ℕ) (me me' : Me S View) → Seeing es number least me → least' ≡ min key least → mine me'.0 ≡ mine me.0 ++ Saw number key ∷ [] → Seeing es (number + 1) least' me'
  seeing_more es number key least least' me me' so_far is list =
      let many = so_far.many in record {
        keys = key ∷ so_far.keys;
        many = omega (arith, many);
        least_is = is ∙ ap (min key) so_far.least_is;
        list = list ∙ (ap (λ z. z ++ Saw number key ∷ []) so_far.list
            ∙ (append_assoc es (keys_seen so_far.keys) (Saw number key ∷ []) ∙ ap (λ n. es ++ (keys_seen so_far.keys ++ Saw n key ∷ [])) (sym many)));
      }
