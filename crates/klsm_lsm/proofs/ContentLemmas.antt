-- The content of a lawful LSM in ascending order, and where its least item is.
use Rattle.std.proofs.Common.{◌≢◌, List, [], ◌∷◌, subst}
use Rattle.klsm_run.specs.declared.item.Item.{Item}
use Rattle.klsm_run.specs.Content.{sorted, IsAscending}
use Rattle.klsm_run.proofs.AllLemmas.{all_weaker}
use Rattle.klsm_run.proofs.SortedLemmas.{IsNew, all_sorted, sorted_ascending}
use Rattle.klsm_run.proofs.ApartLemmas.{apart_if_sharing_none, ascending_sorted}
use Rattle.klsm_run.proofs.ContentLemmas.{sorted_same_behind}
use Rattle.klsm_lsm.specs.Lsm.{content, IsLsm}

-- no item of a lawful LSM is in it twice
pub ascending_content : (bs : List (List Item)) → IsLsm bs → IsAscending (sorted (content bs))
ascending_content [] lsm = tt
ascending_content (b ∷ bs) lsm =
    let rest : IsAscending (sorted (content bs)) = ascending_content bs lsm.3 in
    let apart = all_weaker (λ x. IsNew x (content bs)) (λ x. IsNew x (sorted (content bs))) (λ x new. all_sorted (λ y. y ≢ x) (content bs) new) b (apart_if_sharing_none b (content bs) lsm.2) in
    subst IsAscending (sorted_same_behind b (sorted (content bs)) (content bs) (sorted_ascending (sorted (content bs)) rest)) (ascending_sorted b (sorted (content bs)) lsm.0.0 rest apart)
