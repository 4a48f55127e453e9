-- A list has no item exactly where its count is 0.
use Rattle.std.proofs.Common.{◌≡◌, ℕ, ◌==◌, true, List, [], length, sym, ap, ◌∙◌}
use Rattle.std.proofs.lemmas.Bool.{eq-eqb, eqb-true}
use Rattle.std.proofs.lemmas.List.{nil_from_length}
use Rattle.klsm_run.specs.declared.item.Item.{Item}
use Rattle.klsm_run.proofs.SortedLemmas.{length_sorted}
use Rattle.klsm_lsm.specs.Lsm.{content}
use Rattle.klsm_parts.specs.Parts.{PartState, items_in}

pub is_none : (c : List Item) (n : ℕ) → n ≡ length c → ((n == 0) ≡ true → c ≡ []) × (c ≡ [] → (n == 0) ≡ true)
is_none c n count = (λ same. nil_from_length c (sym count ∙ eqb-true n 0 same), λ none. eq-eqb n 0 (count ∙ ap length none))

-- the same of a part, whose blocks are counted
pub none_in : (part : PartState) (n : ℕ) → n ≡ length (content part.blocks) → ((n == 0) ≡ true → items_in part ≡ []) × (items_in part ≡ [] → (n == 0) ≡ true)
none_in part n count = is_none (items_in part) n (count ∙ sym (length_sorted (content part.blocks)))
