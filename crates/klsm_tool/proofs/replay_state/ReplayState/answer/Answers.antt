use Rattle.std.proofs.Common.{◌≡◌, ◌<◌, ⊎_elim, List, [], length, slice_index_or, inl, inr, sym, ap, ◌∙◌, subst, rules, arith}
use Rattle.std.proofs.lemmas.List.{get_or_read, get_or-set_same}
use Rattle.klsm_run.specs.declared.limits.TheConstants.{PROGRAM_LEVELS}
use Rattle.klsm_schedules.specs.declared.step.Entry.{Entry}
use Rattle.klsm_board.specs.declared.sizes.Sizes.{Sizes}
use Rattle.klsm_board.specs.Inserting.{GivesUp, IsBelowLimit}
use Rattle.klsm_board.specs.Together.{all_lists, steps_for}
use Rattle.klsm_tool.specs.declared.picking.ThreadPicker.{ThreadPicker}
use Rattle.klsm_tool.specs.Answering.{pickers_kept}
use Rattle.klsm_tool.specs.Courses.{AreOnCourse, DeletesInOneHand, InsertsOrLacksMemory}
use Rattle.klsm_tool.specs.Crews.{steps_in}
use Rattle.klsm_tool.proofs.AllLemmas.{steps_of_all}
use Rattle.klsm_tool.proofs.CourseLemmas.{all_after_deletion, all_after_insertion, all_still}
use Rattle.klsm_tool.proofs.replay_state.ReplayState.answer.Goals as goal

pub returns-in-Delete-clause-ok : goal.returns-in-Delete-clause-ok
returns-in-Delete-clause-ok c = search rules

pub delete_by-answer-requires : goal.delete_by-answer-requires
delete_by-answer-requires c = search rules

-- what is true of the lists of one thread is so of what stands at its place
moves_there : (P : List Entry → List Entry → Type 0) (es es' fs fs' : List Entry) → fs ≡ es → fs' ≡ es' → P es es' → P fs fs'
moves_there P es es' fs fs' here there did = subst (λ (z : List Entry × List Entry). P z.0 z.1) (λ i. (sym here i, sym there i)) did

pub returns-in_ok-item-in-Insert-clause-course : goal.returns-in_ok-item-in-Insert-clause-course
returns-in_ok-item-in-Insert-clause-course c first on =
    let m = c.args.board.now.sizes in let t = c.args.request.thread in let all = c.args.all.now in let all' = c.insert.new.all in let told = c.in_ok-item-in-Insert.ensures in
    let inside : t < all.acting.sizes.threads = omega (arith, c.requires.thread, ap (λ (z : Sizes). z.threads) c.requires.of.1) in
    let inside' : t < all'.acting.sizes.threads = omega (arith, c.requires.thread, ap (λ (z : Sizes). z.threads) told.of.1) in
    all_after_insertion m first (all_lists all) (all_lists all') (pickers_kept c.insert.new.self) t _ told.goes
    (moves_there (InsertsOrLacksMemory m t) (steps_for all t) (steps_for all' t) (steps_in (all_lists all) t) (steps_in (all_lists all') t) (steps_of_all all t inside) (steps_of_all all' t inside') (inl (c.in_ok-item-in-Insert.item, told.inserts)))
    (subst (AreOnCourse m first (all_lists all)) (sym told.pickers) on)

pub returns-in_err-item-in-Insert-clause-course : goal.returns-in_err-item-in-Insert-clause-course
returns-in_err-item-in-Insert-clause-course c first on =
    let m = c.args.board.now.sizes in let t = c.args.request.thread in let all = c.args.all.now in let all' = c.insert.new.all in let told = c.in_err-item-in-Insert.ensures in
    let lists = all_lists all in let lists' = all_lists all' in let pickers = pickers_kept c.insert.new.self in
    let inside : t < all.acting.sizes.threads = omega (arith, c.requires.thread, ap (λ (z : Sizes). z.threads) c.requires.of.1) in
    let inside' : t < all'.acting.sizes.threads = omega (arith, c.requires.thread, ap (λ (z : Sizes). z.threads) told.of.1) in
    let on' = subst (AreOnCourse m first lists) (sym told.pickers) on in
    ⊎_elim
    (λ (same : steps_for all' t ≡ steps_for all t). all_still m first lists lists' pickers t [] told.refused.1 (steps_of_all all' t inside' ∙ (same ∙ sym (steps_of_all all t inside))) on')
    (λ (gives_up : GivesUp m.k t (steps_for all t) (steps_for all' t) (IsBelowLimit PROGRAM_LEVELS)). all_after_insertion m first lists lists' pickers t [] told.refused.1
    (moves_there (InsertsOrLacksMemory m t) (steps_for all t) (steps_for all' t) (steps_in lists t) (steps_in lists' t) (steps_of_all all t inside) (steps_of_all all' t inside') (inr gives_up)) on')
    told.lacks

pub returns-in-Delete-clause-course : goal.returns-in-Delete-clause-course
returns-in-Delete-clause-course c first on =
    let m = c.args.board.now.sizes in let t = c.args.request.thread in let pickers = pickers_kept c.args.self.now in let told = c.delete_by-answer.ensures in let answer = c.delete_by-answer.result in
    let before = c.index_mut-picker.result.now in let after = c.delete_by-answer.new.picker in let all = c.args.all.now in let all' = c.delete_by-answer.new.all in
    let within : t < length pickers = omega (arith, c.requires.pickers, c.requires.thread) in
    let inside : t < all.acting.sizes.threads = omega (arith, c.requires.thread, ap (λ (z : Sizes). z.threads) c.requires.of.1) in
    let inside' : t < all'.acting.sizes.threads = omega (arith, c.requires.thread, ap (λ (z : Sizes). z.threads) told.of.1) in
    subst (AreOnCourse m first (all_lists all')) (sym c.count_skip-skip.ensures.pickers)
    (all_after_deletion m first (all_lists all) (all_lists all') pickers t after answer within told.goes
    (λ d. subst (λ (p : ThreadPicker). DeletesInOneHand m t p after (steps_in (all_lists all) t) (steps_in (all_lists all') t) answer) (get_or_read pickers t before within c.index_mut-picker.ensures.value d)
    (moves_there (λ es es'. DeletesInOneHand m t before after es es' answer) (steps_for all t) (steps_for all' t) (steps_in (all_lists all) t) (steps_in (all_lists all') t) (steps_of_all all t inside) (steps_of_all all' t inside') told.deletes))
    on)

pub returns-in-Delete-clause-deletes : goal.returns-in-Delete-clause-deletes
returns-in-Delete-clause-deletes c is d =
    let t = c.args.request.thread in let pickers = pickers_kept c.args.self.now in let before = c.index_mut-picker.result.now in let after = c.delete_by-answer.new.picker in
    let within : t < length pickers = omega (arith, c.requires.pickers, c.requires.thread) in
    let there : before ≡ slice_index_or pickers t d = get_or_read pickers t before within c.index_mut-picker.ensures.value d in
    let then_there : slice_index_or (pickers_kept c.count_skip-skip.new.self) t d ≡ after = ap (λ (z : List ThreadPicker). slice_index_or z t d) c.count_skip-skip.ensures.pickers ∙ get_or-set_same pickers t after d within in
    subst (λ (z : ThreadPicker × ThreadPicker). DeletesInOneHand c.args.board.now.sizes t z.0 z.1 (steps_for c.args.all.now t) (steps_for c.delete_by-answer.new.all t) c.delete_by-answer.result)
    (λ i. (there i, sym then_there i)) c.delete_by-answer.ensures.deletes
