-- All items of an own part on their way to the shared one.
use Rattle.std.proofs.Common.{◌≡◌, ◌<◌, List, [], length, sym, ap, ◌∙◌, arith}
use Rattle.std.proofs.lemmas.List.{append-nil}
use Rattle.klsm_run.specs.declared.item.Item.{Item}
use Rattle.klsm_run.specs.Content.{sorted}
use Rattle.klsm_run.proofs.ContentLemmas.{sorted_itself}
use Rattle.klsm_run.proofs.SortedLemmas.{length_sorted}
use Rattle.klsm_lsm.specs.Lsm.{content, IsLsm}
use Rattle.klsm_lsm.proofs.ContentLemmas.{ascending_content}
use Rattle.klsm_parts.specs.Sharing.{MayShare, own_after_share}
use Rattle.klsm_parts.proofs.EventLemmas.{minus_moved}

-- all items of a content may move
pub may_share_all : (bs : List (List Item)) → IsLsm bs → 0 < length (content bs) → MayShare (sorted (content bs)) (sorted (content bs))
may_share_all bs lsm some = record {
  some = λ none. omega (arith, some, length_sorted (content bs), ap length none);
  ascending = ascending_content bs lsm;
  within = λ y. omega arith;
}

-- and leave none
pub all_shared : (c : List Item) → own_after_share (sorted c) (sorted c) ≡ []
all_shared c = minus_moved (sorted c) [] c (sym (ap sorted (append-nil (sorted c)) ∙ sorted_itself c))
