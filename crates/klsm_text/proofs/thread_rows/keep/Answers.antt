use Rattle.std.proofs.Common.{rules, ◌≡◌, ◌<◌, ℕ, ◌∷◌, ◌++◌, ◌∙◌, List, [], length, map, slice_index_or, get_or, Vec, Global, sym, ap, subst}
use Rattle.std.proofs.lemmas.List.{length-map, get_or-map}
use lib.Seq.{map-set}
use Rattle.klsm_text.specs.declared.thread_rows.ThreadRow.{ThreadRow}
use Rattle.klsm_text.specs.Keeping.{KeepsOne}
use Rattle.klsm_text.proofs.KeepingLemmas.{keeps_one}
use Rattle.klsm_text.proofs.thread_rows.keep.Goals as goal

rows_at : (lists : List (Vec ThreadRow Global)) (t : ℕ) (rows : Vec ThreadRow Global) → t < length lists → rows ≡ get_or lists t rows → slice_index_or (map (λ (list : Vec ThreadRow Global). list.items) lists) t [] ≡ rows.items
rows_at lists t rows below is = get_or-map (λ (list : Vec ThreadRow Global). list.items) lists t rows [] below ∙ ap (λ (list : Vec ThreadRow Global). list.items) (sym is)

pub returns-in-Ok-clause-kept : goal.returns-in-Ok-clause-kept
returns-in-Ok-clause-kept c =
    let lists = c.args.lists.now in let t = c.args.request.thread in let items = λ (list : Vec ThreadRow Global). list.items in
    let pushed : c.push.new.self.items ≡ c.index-lists-request.result.items ++ c.new-row.result ∷ [] = search rules in
    let below : t < length (map items lists) = rw (length-map lists items) c.requires in
    let there : slice_index_or (map items lists) t [] ≡ c.index-lists-request.result.items = rows_at lists t c.index-lists-request.result c.requires c.index-lists-request.is in
    subst (KeepsOne c.args.request (map items lists)) (sym (map-set items lists t c.push.new.self))
    (keeps_one c.args.request c.new-row.result (map items lists) c.push.new.self.items c.new-row.ensures below (pushed ∙ ap (λ z. z ++ c.new-row.result ∷ []) (sym there)))
