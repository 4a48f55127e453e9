-- The content of the first blocks and of one more.
use Rattle.std.proofs.Common.{◌≡◌, ℕ, ◌+◌, ◌<◌, List, [], ◌∷◌, ◌++◌, length, get_or, take, refl, sym, ap, ◌∙◌}
use Rattle.std.proofs.lemmas.List.{take_more, append-nil, append_assoc}
use Rattle.klsm_run.specs.declared.item.Item.{Item}
use Rattle.klsm_lsm.specs.Lsm.{content}

-- the content of blocks before others
pub content_append : (bs cs : List (List Item)) → content (bs ++ cs) ≡ content bs ++ content cs
content_append [] cs = refl
content_append (b ∷ bs) cs = ap (λ xs. b ++ xs) (content_append bs cs) ∙ sym (append_assoc b (content bs) (content cs))

-- the content of one more block
pub content_more : (bs : List (List Item)) (i : ℕ) → i < length bs → content (take (i + 1) bs) ≡ content (take i bs) ++ get_or bs i []
content_more bs i within = rw (take_more bs i [] within) (content_append (take i bs) (get_or bs i [] ∷ []) ∙ ap (λ xs. content (take i bs) ++ xs) (append-nil (get_or bs i [])))
