-- A new world keeps the first world.
use Rattle.std.proofs.Common.{◌≡◌, ℕ, zero, suc, ◌+◌, ◌≤◌, List, [], ◌∷◌, length, get_or, replicate, Option, Some, refl, sym, ap, ◌∙◌, subst, arith}
use Rattle.std.proofs.lemmas.List.{get_or-replicate, length-replicate}
use Rattle.klsm_run.specs.declared.item.Item.{Item}
use Rattle.klsm_run.specs.Content.{sorted}
use Rattle.klsm_parts.specs.Events.{front_of}
use Rattle.klsm_schedules.specs.declared.step.Entry.{Entry}
use Rattle.klsm_world.specs.Kept.{IsKept, homes_of, world_of}
use Rattle.klsm_schedules.specs.LawfulWorlds.{IsLawful}
use Rattle.klsm_world.specs.WorldView.{AreLimits}
use Rattle.klsm_schedules.specs.Worlds.{Limits, content_of, first_world}
use Rattle.klsm_schedules.proofs.lemmas.lawful.FirstLemmas.{first_is_lawful, empty_first}

-- free empty parts are at home
homes_first : (n : ℕ) → homes_of (replicate n 0) (replicate n []) ≡ replicate n (Some [])
homes_first zero = refl
homes_first (suc n) = ap (λ homes. Some [] ∷ homes) (homes_first n)

-- with these words, contents and lists the world is the first one
pub first_is_new : (limits : Limits) (words : List ℕ) (contents : List (List Item)) (lists : List (List Entry))
    → words ≡ replicate (limits.threads + 1) 0 → contents ≡ replicate (limits.threads + 1) [] → lists ≡ replicate limits.threads [] → world_of words contents lists ≡ first_world limits
first_is_new limits words contents lists words_are contents_are lists_are =
    ap (λ ws. world_of ws contents lists) words_are
    ∙ (ap (λ cs. world_of (replicate (limits.threads + 1) 0) cs lists) contents_are
    ∙ (ap (world_of (replicate (limits.threads + 1) 0) (replicate (limits.threads + 1) [])) lists_are
    ∙ (ap (λ (homes : List (Option (List Item))). record { words = replicate (limits.threads + 1) 0; front = front_of (get_or (replicate (limits.threads + 1) []) 0 []); homes = homes; lists = replicate limits.threads [] }) (homes_first (limits.threads + 1))
    ∙ ap (λ (shared : List Item). record { words = replicate (limits.threads + 1) 0; front = front_of shared; homes = replicate (limits.threads + 1) (Some []); lists = replicate limits.threads [] })
    (get_or-replicate (limits.threads + 1) 0 [] [] (omega arith)))))

-- and it is kept
pub first_is_kept : (limits : Limits) (words : List ℕ) (contents : List (List Item)) (lists : List (List Entry)) → AreLimits limits
    → words ≡ replicate (limits.threads + 1) 0 → contents ≡ replicate (limits.threads + 1) [] → lists ≡ replicate limits.threads [] → IsKept limits words contents lists
first_is_kept limits words contents lists are words_are contents_are lists_are =
    let first : world_of words contents lists ≡ first_world limits = first_is_new limits words contents lists words_are contents_are lists_are in
    let empty : (p : ℕ) → p ≤ limits.threads → get_or contents p [] ≡ [] = λ p within.
    ap (λ cs. get_or cs p []) contents_are ∙ get_or-replicate (limits.threads + 1) p [] [] (omega (arith, within)) in
    record {
      limits_are = are;
      lawful = subst (IsLawful limits) (sym first) (first_is_lawful limits);
      contents_are = ap length contents_are ∙ length-replicate (limits.threads + 1) [];
      current = λ p within. ap (λ w. content_of w p) first ∙ (empty_first limits p within ∙ sym (empty p within));
      ascending = λ p within. ap sorted (empty p within) ∙ sym (empty p within);
    }
