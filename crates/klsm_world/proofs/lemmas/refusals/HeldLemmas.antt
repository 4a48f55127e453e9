-- What a thread's hand says of the own part and another, by the contents of both.
use Rattle.std.proofs.Common.{◌≡◌, ◌↔◌, ℕ, ◌+◌, ◌<◌, List, sym, ◌∙◌, subst}
use Rattle.std.proofs.lemmas.Option.{same_Some}
use Rattle.klsm_run.specs.declared.item.Item.{Item}
use Rattle.klsm_schedules.specs.LawfulWorlds.{AreAgreed}
use Rattle.klsm_schedules.specs.LegalSteps.{HoldsOwn, HoldsBoth}
use Rattle.klsm_schedules.specs.OwnSteps.{Holds, own_part}
use Rattle.klsm_schedules.specs.Worlds.{Limits, World, word_of, hand_in, content_of}
use Rattle.klsm_world.proofs.lemmas.refusals.RefusalLemmas.{holds_named}

module _ (limits : Limits) (w : World) (t : ℕ) (agreed : AreAgreed limits w) (less : t < limits.threads) where
  -- a part held has the content that its hand says
  held_is : (p : ℕ) (c : List Item) → word_of w p ≡ t + 1 → Holds (hand_in w t) p c → content_of w p ≡ c
  held_is p c word has = same_Some (content_of w p) c (sym (holds_named limits w t agreed less p word) ∙ has)

  -- what is true of the contents of the own part and another, where the thread holds both, is true of what its hand says
  pub holds_both : (p : ℕ) (Fits : List Item → List Item → Type 0) (own other : List Item) → own ≡ content_of w (own_part t) → other ≡ content_of w p
      → word_of w (own_part t) ≡ t + 1 → word_of w p ≡ t + 1 → Fits own other ↔ HoldsBoth t p (hand_in w t) Fits
  holds_both p Fits own other own_is other_is own_word word = (
    λ fits. record {
      own = content_of w (own_part t);
      other = content_of w p;
      holds_own = holds_named limits w t agreed less (own_part t) own_word;
      holds_other = holds_named limits w t agreed less p word;
      fits = subst (λ c. Fits c (content_of w p)) own_is (subst (Fits own) other_is fits);
    },
    λ both. subst (λ c. Fits c other) (sym (own_is ∙ held_is (own_part t) both.own own_word both.holds_own))
        (subst (Fits both.own) (sym (other_is ∙ held_is p both.other word both.holds_other)) both.fits),
  )

  -- and of the own part alone
  pub holds_own : (Fits : List Item → Type 0) (own : List Item) → own ≡ content_of w (own_part t) → word_of w (own_part t) ≡ t + 1
      → Fits own ↔ HoldsOwn t (hand_in w t) Fits
  holds_own Fits own own_is own_word = (
    λ fits. record { own = content_of w (own_part t); holds_own = holds_named limits w t agreed less (own_part t) own_word; fits = subst Fits own_is fits },
    λ has. subst Fits (sym (own_is ∙ held_is (own_part t) has.own own_word has.holds_own)) has.fits,
  )
