-- What the account of all members leaves, from call to call: the content of a relaxed queue.
use Rattle.std.proofs.Common.{◌≡◌, ◌≢◌, ℕ, zero, suc, ◌+◌, ◌<◌, List, [], ◌∷◌, ◌++◌, length, length-append, refl, sym, ap, subst, ◌∙◌, arith}
use Rattle.std.specs.Coded.{Coded-set, coded_ℕ}
use Rattle.std.specs.List.{flat_map}
use Rattle.std.specs.Option.{option_to_list}
use Rattle.std.specs.Prelude.{Option, Some, None, Result, Ok, Err, IfOk, IfErr, OnErr}
use Rattle.std.proofs.Math.Logic.{∥∥₁_elim}
use Rattle.std.proofs.lemmas.List.{append-nil}
use Rattle.std.proofs.lemmas.Grind.{flat_map-append}
use mathlib.Core.Logic.{dite}
use native.Mathlib.Decide.{ℕ_discrete}
use Rattle.klsm_run.specs.declared.item.Item.{Item}
use Rattle.klsm_run.specs.Content.{placed, sorted, without}
use Rattle.klsm_run.specs.ItemOrder.{is_same}
use Rattle.klsm_run.proofs.ContentLemmas.{sorted_itself}
use Rattle.klsm_run.proofs.RankLemmas.{count_sorted}
use Rattle.klsm_run.proofs.WithoutLemmas.{sorted_without, without_placed}
use Rattle.klsm_parts.specs.Events.{minus, plus, times}
use Rattle.klsm_schedules.specs.declared.step.Entry.{Entry}
use Rattle.klsm_schedules.specs.OwnSteps.{deleted, inserted}
use Rattle.klsm_schedules.specs.Worlds.{live}
use Rattle.klsm_schedules.specs.Account.{account}
use Rattle.klsm_schedules.proofs.lemmas.counts.EventCountLemmas.{times_append}
use Rattle.klsm_schedules.proofs.lemmas.counts.SameLemmas.{same_if_counted}
use Rattle.klsm_schedules.proofs.lemmas.theorems.AccountLemmas.{left_is_live}
use Rattle.klsm_schedules.proofs.lemmas.theorems.RunLemmas.{schedules_keep_lawful}
use Rattle.klsm_board.specs.declared.board.Member.{Member}
use Rattle.klsm_board.specs.declared.rule.Own.{Own}
use Rattle.klsm_board.specs.declared.rule.View.{View}
use Rattle.klsm_board.specs.declared.sizes.Sizes.{Sizes}
use Rattle.klsm_board.specs.Boards.{Gains, IsSame, known_of_others, own_steps}
use Rattle.klsm_board.specs.Knowing.{IsWhole}
use Rattle.klsm_board.specs.Rule.{world_limits}
use Rattle.klsm_board.specs.Steps.{AreReached, IsMine}
use Rattle.klsm_board.specs.Together.{left_after}
use Rattle.klsm_board.specs.Turning.{HasList, lists_known, steps_known}
use Rattle.klsm_board.proofs.lemmas.ending.WholeLemmas.{known_elsewhere, own_known, same_items, whole_acted, world_lists}

abbrev pub left_in : List (List Entry) → List Item
left_in lists = (account lists).left

-- what follows for what was answered, and for a refusal
pub ok_then : {T E : Type 0} {P Q : T → Type 0} (r : Result T E) → ((x : T) → P x → Q x) → IfOk r P → IfOk r Q
ok_then (Ok x) then' outcome = then' x outcome
ok_then (Err why) then' outcome = tt

pub on_err : {T E Q : Type 0} {P : E → Type 0} (r : Result T E) → ((why : E) → P why → Q) → IfErr r P → OnErr r Q
on_err (Ok x) then' outcome = tt
on_err (Err why) then' outcome = then' why outcome

-- the items that are left are ascending
minus_in_order : (c gone : List Item) → minus (sorted c) gone ≡ sorted (minus c gone)
minus_in_order c [] = refl
minus_in_order c (x ∷ gone) = ap (λ z. minus z gone) (sym (sorted_without x c)) ∙ minus_in_order (without x c) gone

left_ascends : (lists : List (List Entry)) → sorted (left_in lists) ≡ left_in lists
left_ascends lists =
    let is : left_in lists ≡ sorted (minus (flat_map inserted lists) (flat_map deleted lists)) = minus_in_order (flat_map inserted lists) (flat_map deleted lists) in
    ap sorted is ∙ (sorted_itself (minus (flat_map inserted lists) (flat_map deleted lists)) ∙ sym is)

-- in one world each item that was inserted is deleted or left, each as often
balances : (m : Sizes) (t : ℕ) (v : View) → (r : AreReached m t v) → ((u : ℕ) → u < m.threads → HasList v.lists u) → (x : Item)
    → times x (flat_map inserted (lists_known m.threads v.lists)) ≡ times x (flat_map deleted (lists_known m.threads v.lists)) + times x (left_in (lists_known m.threads v.lists))
balances m t v r each x =
    let lawful = schedules_keep_lawful (world_limits m) r.schedule r.world r.leads in
    let live_is : times x (left_in r.world.lists) ≡ times x (live r.world) = ap (times x) (left_is_live (world_limits m) r.world lawful) ∙ count_sorted (is_same x) (live r.world) in
    let once : times x (flat_map inserted r.world.lists) ≡ times x (flat_map deleted r.world.lists) + times x (left_in r.world.lists) = lawful.each_once x ∙ ap (λ n. times x (flat_map deleted r.world.lists) + n) (sym live_is) in
    subst (λ (l : List (List Entry)). times x (flat_map inserted l) ≡ times x (flat_map deleted l) + times x (left_in l)) (world_lists m t v r each) once

-- where one thread's list has more, all have as much more, by whatever adds up
module _ (size : List Item → ℕ) (adds : (c d : List Item) → size (c ++ d) ≡ size c + size d) (f : List Entry → List Item) where
  last_adds : (n : ℕ) (os : List Own) → size (flat_map f (lists_known (suc n) os)) ≡ size (flat_map f (lists_known n os)) + size (f (steps_known os n))
  last_adds n os =
      ap size (flat_map-append f (lists_known n os) (steps_known os n ∷ []) ∙ ap (λ z. flat_map f (lists_known n os) ++ z) (append-nil (f (steps_known os n))))
      ∙ adds (flat_map f (lists_known n os)) (f (steps_known os n))

  pub changed_size : (n : ℕ) (os os' : List Own) (t : ℕ) (more : List Item) → t < n → ((u : ℕ) → u < n → u ≢ t → f (steps_known os' u) ≡ f (steps_known os u)) → f (steps_known os' t) ≡ f (steps_known os t) ++ more
      → size (flat_map f (lists_known n os')) ≡ size (flat_map f (lists_known n os)) + size more
  changed_size zero os os' t more below else here = absurd (omega (arith, below))
  changed_size (suc n) os os' t more below else here =
      let a = last_adds n os in let b = last_adds n os' in
      dite (ℕ_discrete t n)
      (λ is.
      let before = ap size (same_items f n os' os (λ u less. else u (omega (arith, less)) (λ same. omega (arith, same, is, less)))) in
      let tail : f (steps_known os' n) ≡ f (steps_known os n) ++ more = subst (λ j. f (steps_known os' j) ≡ f (steps_known os j) ++ more) is here in
      let tail' = ap size tail ∙ adds (f (steps_known os n)) more in
      omega (arith, a, b, before, tail'))
      (λ not.
      let before = changed_size n os os' t more (omega (arith, below, not)) (λ u less other. else u (omega (arith, less)) other) here in
      let tail = ap size (else n (omega arith) (λ same. not (sym same))) in
      omega (arith, a, b, before, tail))

module _ {CAP LEVELS : ℕ} where
  -- what a member's call adds to all that is inserted, or deleted
  call_adds : (size : List Item → ℕ) → ((c d : List Item) → size (c ++ d) ≡ size c + size d) → (f : List Entry → List Item) (before after : Member CAP LEVELS) (more : List Item) → IsSame before after → known_of_others after ≡ known_of_others before
      → f (own_steps after) ≡ f (own_steps before) ++ more
      → size (flat_map f (lists_known before.sizes.threads after.seat.me.0.lists)) ≡ size (flat_map f (lists_known before.sizes.threads before.seat.me.0.lists)) + size more
  call_adds size adds f before after more same others gains =
      let n : ℕ = before.number in let os : List Own = before.seat.me.0.lists in let os' : List Own = after.seat.me.0.lists in
      let rests = before.rests in let rests' = after.rests in
      let acts' : IsMine after.seat.me.0 n = subst (λ j. IsMine after.seat.me.0 j) same.0 rests'.acts in
      changed_size size adds f before.sizes.threads os os' n more rests.thread
      (λ u below other. ap f (known_elsewhere n before.seat.me.0 after.seat.me.0 rests.acts acts' others u other))
      (ap f (sym (own_known after n same.0)) ∙ (gains ∙ ap (λ es. f es ++ more) (own_known before n refl)))

  -- how many items all members inserted after a call that inserted these
  pub counts_more : (before after : Member CAP LEVELS) (m : Sizes) (lists : List (List Entry)) (more : List Item) → before.sizes ≡ m → IsSame before after → known_of_others after ≡ known_of_others before
      → lists_known m.threads before.seat.me.0.lists ≡ lists → inserted (own_steps after) ≡ inserted (own_steps before) ++ more
      → (account (lists_known after.sizes.threads after.seat.me.0.lists)).inserted ≡ (account lists).inserted + length more
  counts_more before after m lists more sizes same others is gains =
      let now = call_adds length length-append inserted before after more same others gains in
      let known : lists_known before.sizes.threads before.seat.me.0.lists ≡ lists = ap (λ (z : Sizes). lists_known z.threads before.seat.me.0.lists) sizes ∙ is in
      ap (λ (z : Sizes). length (flat_map inserted (lists_known z.threads after.seat.me.0.lists))) same.1 ∙ (now ∙ ap (λ z. length (flat_map inserted z) + length more) known)

  -- how often each item is left, where a member's call inserted some and deleted others
  left_counts : (before after : Member CAP LEVELS) (ins dels : List ℕ) (more gone : List Item) → IsSame before after → known_of_others after ≡ known_of_others before → IsWhole before.sizes before.number before.seat.me.0.lists ins dels
      → Gains (own_steps before) (own_steps after) more gone → (x : Item)
      → times x (left_in (lists_known before.sizes.threads after.seat.me.0.lists)) + times x gone ≡ times x (left_in (lists_known before.sizes.threads before.seat.me.0.lists)) + times x more
  left_counts before after ins dels more gone same others whole gains x =
      let n : ℕ = before.number in let threads : ℕ = before.sizes.threads in let os : List Own = before.seat.me.0.lists in let os' : List Own = after.seat.me.0.lists in
      let rests = before.rests in let rests' = after.rests in
      let came = call_adds (times x) (times_append x) inserted before after more same others gains.inserted_are in
      let went = call_adds (times x) (times_append x) deleted before after gone same others gains.deleted_are in
      let whole' : IsWhole after.sizes after.number os' ins dels = whole_acted before after ins dels same others whole in
      let Balances : ℕ → List Own → Type 0 = (λ m l. times x (flat_map inserted (lists_known m l)) ≡ times x (flat_map deleted (lists_known m l)) + times x (left_in (lists_known m l))) in
      let first : Balances threads os = ∥∥₁_elim rests.reached (Coded-set coded_ℕ _ _) (λ r. balances before.sizes n before.seat.me.0 r whole.has x) in
      let second : Balances after.sizes.threads os' = ∥∥₁_elim rests'.reached (Coded-set coded_ℕ _ _) (λ r. balances after.sizes after.number after.seat.me.0 r whole'.has x) in
      let second' : Balances threads os' = subst (λ (z : Sizes). Balances z.threads os') same.1 second in
      omega (arith, came, went, first, second')

  -- a call that inserted these
  pub left_more : (before after : Member CAP LEVELS) (m : Sizes) (ins dels : List ℕ) (lists : List (List Entry)) (more : List Item) → before.sizes ≡ m → IsSame before after → known_of_others after ≡ known_of_others before
      → IsWhole before.sizes before.number before.seat.me.0.lists ins dels → lists_known m.threads before.seat.me.0.lists ≡ lists → Gains (own_steps before) (own_steps after) more []
      → left_in (lists_known after.sizes.threads after.seat.me.0.lists) ≡ plus (left_in lists) more
  left_more before after m ins dels lists more sizes same others whole is gains =
      let threads : ℕ = before.sizes.threads in let l : List Item = left_in (lists_known threads before.seat.me.0.lists) in let l' : List Item = left_in (lists_known threads after.seat.me.0.lists) in
      let counts : (x : Item) → times x l' ≡ times x (more ++ l) = (λ x. let c = left_counts before after ins dels more [] same others whole gains x in let none : times x [] ≡ 0 = refl in let both = times_append x more l in omega (arith, c, none, both)) in
      let now : l' ≡ plus l more = sym (left_ascends (lists_known threads after.seat.me.0.lists)) ∙ same_if_counted l' (more ++ l) counts in
      let known : lists_known threads before.seat.me.0.lists ≡ lists = ap (λ (z : Sizes). lists_known z.threads before.seat.me.0.lists) sizes ∙ is in
      ap (λ (z : Sizes). left_in (lists_known z.threads after.seat.me.0.lists)) same.1 ∙ (now ∙ ap (λ z. plus (left_in z) more) known)

  -- and one that deleted an item, or none
  pub left_less : (before after : Member CAP LEVELS) (m : Sizes) (ins dels : List ℕ) (lists : List (List Entry)) (answer : Option Item) → before.sizes ≡ m → IsSame before after → known_of_others after ≡ known_of_others before
      → IsWhole before.sizes before.number before.seat.me.0.lists ins dels → lists_known m.threads before.seat.me.0.lists ≡ lists → Gains (own_steps before) (own_steps after) [] (option_to_list answer)
      → left_in (lists_known after.sizes.threads after.seat.me.0.lists) ≡ left_after (left_in lists) answer
  left_less before after m ins dels lists answer sizes same others whole is gains =
      let threads : ℕ = before.sizes.threads in let l : List Item = left_in (lists_known threads before.seat.me.0.lists) in let l' : List Item = left_in (lists_known threads after.seat.me.0.lists) in
      let counts : (x : Item) → times x (option_to_list answer ++ l') ≡ times x l = (λ x. let c = left_counts before after ins dels [] (option_to_list answer) same others whole gains x in let none : times x [] ≡ 0 = refl in let both = times_append x (option_to_list answer) l' in omega (arith, c, none, both)) in
      let known : lists_known threads before.seat.me.0.lists ≡ lists = ap (λ (z : Sizes). lists_known z.threads before.seat.me.0.lists) sizes ∙ is in
      ap (λ (z : Sizes). left_in (lists_known z.threads after.seat.me.0.lists)) same.1
      ∙ (by_answer answer l l' (left_ascends (lists_known threads before.seat.me.0.lists)) (left_ascends (lists_known threads after.seat.me.0.lists)) counts ∙ ap (λ z. left_after (left_in z) answer) known)
    where
      by_answer : (a : Option Item) (l l' : List Item) → sorted l ≡ l → sorted l' ≡ l' → ((x : Item) → times x (option_to_list a ++ l') ≡ times x l) → l' ≡ left_after l a
      by_answer None l l' up up' counts = sym up' ∙ (same_if_counted l' l counts ∙ up)
      by_answer (Some x) l l' up up' counts =
          let back : placed x l' ≡ l = ap (placed x) (sym up') ∙ (same_if_counted (x ∷ l') l counts ∙ up) in
          sym (without_placed x l') ∙ ap (without x) back
