-- A commit that a running world took, by what its function read and wrote.
use Rattle.std.proofs.Common.{◌≡◌, ℕ, ◌+◌, ◌<◌, ◌⊎◌, Bool, true, false, List, [], ◌∷◌, length, get_or, set, Ok, refl, sym, ap, ◌∙◌, subst, inl, inr, arith}
use Rattle.std.proofs.lemmas.Bool.{cases_eq}
use Rattle.std.proofs.lemmas.List.{get_or_read}
use Rattle.klsm_run.specs.declared.item.Item.{Item}
use Rattle.klsm_parts.specs.Events.{times, plus, minus}
use Rattle.klsm_schedules.specs.declared.step.Step.TheVariants.{Commit}
use Rattle.klsm_schedules.specs.declared.step.Event.{Event}
use Rattle.klsm_schedules.specs.declared.step.Event.TheVariants.{Put, Flush, Take, Early, Spy, Refill, Steal, Share}
use Rattle.klsm_schedules.specs.declared.step.Entry.{Entry}
use Rattle.klsm_schedules.specs.declared.step.Entry.TheVariants.{Committed}
use Rattle.klsm_world.specs.Kept.{IsKept, world_of}
use Rattle.klsm_schedules.specs.OwnSteps.{own_part}
use Rattle.klsm_world.specs.WorldView.{WorldView, IsStepped}
use Rattle.klsm_schedules.specs.Schedules.{MayStep}
use Rattle.klsm_schedules.specs.Worlds.{Limits}
use Rattle.klsm_world.proofs.lemmas.kept.KeptLemmas.{lists_with}
use Rattle.klsm_world.proofs.lemmas.kept.KeptCommitLemmas.{contents_after, contents_taken, contents_taken_shared}
use Rattle.klsm_world.proofs.lemmas.kept.TakenLemmas.{shown, may_shown, commit_taken}

-- what was read of a part
read_part : (contents : List (List Item)) (p q : ℕ) (at read : List Item) → q ≡ p → p < length contents → at ≡ get_or contents q at → read ≡ at → read ≡ get_or contents p []
read_part contents p q at read same within found is = is ∙ get_or_read contents p at within (found ∙ ap (λ i. get_or contents i at) same) []

module _ (before : WorldView) (limits : Limits) (words : List ℕ) (contents : List (List Item)) (lists lists'' : List (List Entry)) (t : ℕ)
    (is : shown limits words contents lists ≡ before) (kept : IsKept limits words contents lists)
  where
    -- the event was taken, and led to these contents
    abbrev pub Took : Event → List (List Item) → Type 0
    Took event contents'' = IsKept limits words contents'' lists'' × IsStepped before (Commit t event) (Ok tt) (shown limits words contents'' lists'')

    took : (event : Event) (contents'' : List (List Item)) → MayStep before.limits before.world (Commit t event) → lists'' ≡ lists_with lists t (Committed event)
        → contents'' ≡ contents_after contents t event → Took event contents''
    took event contents'' may noted same = commit_taken before limits words contents lists lists'' t is kept event contents'' may noted same

    own_within : (event : Event) → MayStep before.limits before.world (Commit t event) → t + 1 < length contents
    own_within event may =
        let legal : MayStep limits (world_of words contents lists) (Commit t event) = may_shown before limits words contents lists (Commit t event) is may in
        omega (arith, legal.thread, kept.contents_are)

    shared_within : 0 < length contents
    shared_within = omega (arith, kept.contents_are)

    -- a Put
    pub put_taken : (x : Item) (own : ℕ) (at read after : List Item) → MayStep before.limits before.world (Commit t (Put x)) → lists'' ≡ lists_with lists t (Committed (Put x))
        → own ≡ t + 1 → at ≡ get_or contents own at → read ≡ at → after ≡ plus read (x ∷ []) → Took (Put x) (set contents own after)
    put_taken x own at read after may noted own_is found copied after_is =
        took (Put x) (set contents own after) may noted
        (ap (λ i. set contents i after) own_is
        ∙ ap (set contents (t + 1)) (after_is ∙ ap (λ c. plus c (x ∷ [])) (read_part contents (t + 1) own at read own_is (own_within (Put x) may) found copied)))

    -- a Flush
    pub flush_taken : (x : Item) (moved listed : List Item) (own : ℕ) (at read own_after shared_at shared_read shared_after : List Item) → MayStep before.limits before.world (Commit t (Flush x moved))
        → lists'' ≡ lists_with lists t (Committed (Flush x listed)) → listed ≡ moved → own ≡ t + 1
        → at ≡ get_or contents own at → read ≡ at → own_after ≡ minus (plus read (x ∷ [])) moved
        → shared_at ≡ get_or contents 0 shared_at → shared_read ≡ shared_at → shared_after ≡ plus shared_read moved
        → Took (Flush x moved) (set (set contents own own_after) 0 shared_after)
    flush_taken x moved listed own at read own_after shared_at shared_read shared_after may noted listed_is own_is found copied own_after_is shared_found shared_copied shared_after_is =
        took (Flush x moved) (set (set contents own own_after) 0 shared_after) may (noted ∙ ap (λ xs. lists_with lists t (Committed (Flush x xs))) listed_is)
        (ap (λ i. set (set contents i own_after) 0 shared_after) own_is
        ∙ (ap (λ c. set (set contents (t + 1) c) 0 shared_after)
        (own_after_is ∙ ap (λ c. minus (plus c (x ∷ [])) moved) (read_part contents (t + 1) own at read own_is (own_within (Flush x moved) may) found copied))
        ∙ ap (set (set contents (t + 1) (minus (plus (get_or contents (t + 1) []) (x ∷ [])) moved)) 0)
        (shared_after_is ∙ ap (λ c. plus c moved) (read_part contents 0 0 shared_at shared_read refl shared_within shared_found shared_copied))))

    -- a Take, where it was tested whether the own part has the item
    pub take_taken : (x : Item) (own part : ℕ) (has : Bool) (own_at own_read at read after : List Item) → MayStep before.limits before.world (Commit t (Take x)) → lists'' ≡ lists_with lists t (Committed (Take x))
        → own ≡ t + 1 → own_at ≡ get_or contents own own_at → own_read ≡ own_at → (has ≡ true → 0 < times x own_read) → (0 < times x own_read → has ≡ true)
        → ((part ≡ own) × (has ≡ true)) ⊎ ((part ≡ 0) × (has ≡ false))
        → at ≡ get_or contents part at → read ≡ at → after ≡ minus read (x ∷ []) → Took (Take x) (set contents part after)
    take_taken x own part has own_at own_read at read after may noted own_is own_found own_copied if_has has_if (inl (part_is, here)) found copied after_is =
        let within : t + 1 < length contents = own_within (Take x) may in
        let own_content : own_read ≡ get_or contents (t + 1) [] = read_part contents (t + 1) own own_at own_read own_is within own_found own_copied in
        took (Take x) (set contents part after) may noted
        (ap (λ i. set contents i after) (part_is ∙ own_is)
        ∙ (ap (set contents (t + 1)) (after_is ∙ ap (λ c. minus c (x ∷ [])) (read_part contents (t + 1) part at read (part_is ∙ own_is) within found copied))
        ∙ sym (contents_taken contents t x (subst (λ c. 0 < times x c) own_content (if_has here)))))
    take_taken x own part has own_at own_read at read after may noted own_is own_found own_copied if_has has_if (inr (part_is, there)) found copied after_is =
        let within : t + 1 < length contents = own_within (Take x) may in
        let own_content : own_read ≡ get_or contents (t + 1) [] = read_part contents (t + 1) own own_at own_read own_is within own_found own_copied in
        let none : times x own_read ≡ 0 = elim (cases_eq (times x own_read) 0) [
          | inl zeros ↦ zeros
          | inr some ↦ let bad : true ≡ false = sym (has_if (omega (arith, some))) ∙ there in cc
        ] in
        took (Take x) (set contents part after) may noted
        (ap (λ i. set contents i after) part_is
        ∙ (ap (set contents 0) (after_is ∙ ap (λ c. minus c (x ∷ [])) (read_part contents 0 part at read part_is shared_within found copied))
        ∙ sym (contents_taken_shared contents t x (subst (λ c. times x c ≡ 0) own_content none))))

    -- an Early
    pub early_taken : (x : Item) (front own : ℕ) (at read after : List Item) → MayStep before.limits before.world (Commit t (Early x front)) → lists'' ≡ lists_with lists t (Committed (Early x front))
        → own ≡ t + 1 → at ≡ get_or contents own at → read ≡ at → after ≡ minus read (x ∷ []) → Took (Early x front) (set contents own after)
    early_taken x front own at read after may noted own_is found copied after_is =
        took (Early x front) (set contents own after) may noted
        (ap (λ i. set contents i after) own_is
        ∙ ap (set contents (t + 1)) (after_is ∙ ap (λ c. minus c (x ∷ [])) (read_part contents (t + 1) own at read own_is (own_within (Early x front) may) found copied)))

    -- a Spy
    pub spy_taken : (victim : ℕ) (moved listed : List Item) (own from : ℕ) (own_after at read left : List Item) → MayStep before.limits before.world (Commit t (Spy victim moved))
        → lists'' ≡ lists_with lists t (Committed (Spy victim listed)) → listed ≡ moved → own ≡ t + 1 → from ≡ victim + 1 → own_after ≡ moved
        → at ≡ get_or contents from at → read ≡ at → left ≡ minus read moved
        → Took (Spy victim moved) (set (set contents own own_after) from left)
    spy_taken victim moved listed own from own_after at read left may noted listed_is own_is from_is own_after_is found copied left_is =
        let legal : MayStep limits (world_of words contents lists) (Commit t (Spy victim moved)) = may_shown before limits words contents lists (Commit t (Spy victim moved)) is may in
        let named = kept.lawful.agreed.named t (own_part victim) legal.commit.held.other legal.thread legal.commit.held.holds_other in
        let within : victim + 1 < length contents = omega (arith, named.0, kept.contents_are) in
        took (Spy victim moved) (set (set contents own own_after) from left) may (noted ∙ ap (λ xs. lists_with lists t (Committed (Spy victim xs))) listed_is)
        (ap (λ i. set (set contents i own_after) from left) own_is
        ∙ (ap (λ c. set (set contents (t + 1) c) from left) own_after_is
        ∙ (ap (λ i. set (set contents (t + 1) moved) i left) from_is
        ∙ ap (set (set contents (t + 1) moved) (victim + 1)) (left_is ∙ ap (λ c. minus c moved) (read_part contents (victim + 1) from at read from_is within found copied)))))

    -- a Refill
    pub refill_taken : (moved listed : List Item) (own : ℕ) (at read own_after shared_at shared_read left : List Item) → MayStep before.limits before.world (Commit t (Refill moved))
        → lists'' ≡ lists_with lists t (Committed (Refill listed)) → listed ≡ moved → own ≡ t + 1
        → at ≡ get_or contents own at → read ≡ at → own_after ≡ plus read moved
        → shared_at ≡ get_or contents 0 shared_at → shared_read ≡ shared_at → left ≡ minus shared_read moved
        → Took (Refill moved) (set (set contents own own_after) 0 left)
    refill_taken moved listed own at read own_after shared_at shared_read left may noted listed_is own_is found copied own_after_is shared_found shared_copied left_is =
        took (Refill moved) (set (set contents own own_after) 0 left) may (noted ∙ ap (λ xs. lists_with lists t (Committed (Refill xs))) listed_is)
        (ap (λ i. set (set contents i own_after) 0 left) own_is
        ∙ (ap (λ c. set (set contents (t + 1) c) 0 left)
        (own_after_is ∙ ap (λ c. plus c moved) (read_part contents (t + 1) own at read own_is (own_within (Refill moved) may) found copied))
        ∙ ap (set (set contents (t + 1) (plus (get_or contents (t + 1) []) moved)) 0)
        (left_is ∙ ap (λ c. minus c moved) (read_part contents 0 0 shared_at shared_read refl shared_within shared_found shared_copied))))

    -- a Steal
    pub steal_taken : (victim : ℕ) (moved listed : List Item) (own from : ℕ) (at read own_after from_at from_read left : List Item) → MayStep before.limits before.world (Commit t (Steal victim moved))
        → lists'' ≡ lists_with lists t (Committed (Steal victim listed)) → listed ≡ moved → own ≡ t + 1 → from ≡ victim + 1
        → at ≡ get_or contents own at → read ≡ at → own_after ≡ plus read moved
        → from_at ≡ get_or contents from from_at → from_read ≡ from_at → left ≡ minus from_read moved
        → Took (Steal victim moved) (set (set contents own own_after) from left)
    steal_taken victim moved listed own from at read own_after from_at from_read left may noted listed_is own_is from_is found copied own_after_is from_found from_copied left_is =
        let legal : MayStep limits (world_of words contents lists) (Commit t (Steal victim moved)) = may_shown before limits words contents lists (Commit t (Steal victim moved)) is may in
        let named = kept.lawful.agreed.named t (own_part victim) legal.commit.held.other legal.thread legal.commit.held.holds_other in
        let within : victim + 1 < length contents = omega (arith, named.0, kept.contents_are) in
        took (Steal victim moved) (set (set contents own own_after) from left) may (noted ∙ ap (λ xs. lists_with lists t (Committed (Steal victim xs))) listed_is)
        (ap (λ i. set (set contents i own_after) from left) own_is
        ∙ (ap (λ c. set (set contents (t + 1) c) from left)
        (own_after_is ∙ ap (λ c. plus c moved) (read_part contents (t + 1) own at read own_is (own_within (Steal victim moved) may) found copied))
        ∙ (ap (λ i. set (set contents (t + 1) (plus (get_or contents (t + 1) []) moved)) i left) from_is
        ∙ ap (set (set contents (t + 1) (plus (get_or contents (t + 1) []) moved)) (victim + 1))
        (left_is ∙ ap (λ c. minus c moved) (read_part contents (victim + 1) from from_at from_read from_is within from_found from_copied)))))

    -- a Share
    pub share_taken : (moved listed : List Item) (own : ℕ) (at read own_after shared_at shared_read joined : List Item) → MayStep before.limits before.world (Commit t (Share moved))
        → lists'' ≡ lists_with lists t (Committed (Share listed)) → listed ≡ moved → own ≡ t + 1
        → at ≡ get_or contents own at → read ≡ at → own_after ≡ minus read moved
        → shared_at ≡ get_or contents 0 shared_at → shared_read ≡ shared_at → joined ≡ plus shared_read moved
        → Took (Share moved) (set (set contents own own_after) 0 joined)
    share_taken moved listed own at read own_after shared_at shared_read joined may noted listed_is own_is found copied own_after_is shared_found shared_copied joined_is =
        took (Share moved) (set (set contents own own_after) 0 joined) may (noted ∙ ap (λ xs. lists_with lists t (Committed (Share xs))) listed_is)
        (ap (λ i. set (set contents i own_after) 0 joined) own_is
        ∙ (ap (λ c. set (set contents (t + 1) c) 0 joined)
        (own_after_is ∙ ap (λ c. minus c moved) (read_part contents (t + 1) own at read own_is (own_within (Share moved) may) found copied))
        ∙ ap (set (set contents (t + 1) (minus (get_or contents (t + 1) []) moved)) 0)
        (joined_is ∙ ap (λ c. plus c moved) (read_part contents 0 0 shared_at shared_read refl shared_within shared_found shared_copied))))
