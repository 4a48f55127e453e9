use Rattle.std.proofs.Common.{◌≡◌, ◌∷◌, ◌++◌, ◌∙◌, ◌+◌, ℕ, zero, suc, List, [], length, length-append, map, slice_index_or, Vec, Global, refl, ap, arith}
use Rattle.std.proofs.lemmas.List.{length-map, map-append}
use Rattle.klsm_text.specs.declared.thread_rows.ThreadRow.{ThreadRow}
use Rattle.klsm_text.proofs.KeepingLemmas.{no_rows_more, none_kept}
use Rattle.klsm_text.proofs.thread_rows.no_rows.Goals as goal

abbrev items : Vec ThreadRow Global → List ThreadRow
items list = list.items

none_in : (lists : List (List ThreadRow)) (t : ℕ) → length lists ≡ 0 → slice_index_or lists t [] ≡ []
none_in [] zero none = refl
none_in [] (suc t) none = refl
none_in (l ∷ lists) t none = absurd (omega (arith, none))

pub loop-init : goal.loop-init
loop-init c =
    let empty : c.in_ok-lists.lists.items ≡ [] = c.in_ok-lists.ensures.items in
    let none = ap (λ (z : List (Vec ThreadRow Global)). length z) empty in
    record { many = none; none = λ t. none_in (map items c.in_ok-lists.lists.items) t (length-map c.in_ok-lists.lists.items items ∙ none) }

pub loop-preserved : goal.loop-preserved
loop-preserved c =
    let lists = c.loop.lists.items in let pushed = c.in_ok-push.ensures.items in
    let last : map items (lists ++ c.new.result ∷ []) ≡ map items lists ++ [] ∷ [] = map-append items lists (c.new.result ∷ []) ∙ ap (λ (z : List ThreadRow). map items lists ++ z ∷ []) c.new.ensures.items in
    record {
      many = ap (λ (z : List (Vec ThreadRow Global)). length z) pushed ∙ (length-append lists (c.new.result ∷ []) ∙ ap (λ n. n + 1) c.loop.invariant.many);
      none = λ t. ap (λ (z : List (Vec ThreadRow Global)). slice_index_or (map items z) t []) pushed ∙ (ap (λ (z : List (List ThreadRow)). slice_index_or z t []) last ∙ no_rows_more (map items lists) c.loop.invariant.none t);
    }

pub returns : goal.returns
returns c = none_kept c.args.threads (map items c.loop.lists.items) (length-map c.loop.lists.items items ∙ omega (arith, c.loop.invariant.many, c.loop-test.false, c.loop.auto.counter-end)) c.loop.invariant.none
