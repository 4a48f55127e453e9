use Rattle.std.proofs.Common.{◌≡◌, List, [], ◌∷◌, ◌++◌, arith, ap, refl, sym, subst, ◌∙◌}
use Rattle.std.specs.Prelude.{None}
use Rattle.klsm_schedules.specs.declared.step.Entry.TheVariants.{Looked}
use Rattle.klsm_board.specs.declared.sizes.Sizes.{Sizes}
use Rattle.klsm_board.specs.declared.rule.Own.{Own}
use Rattle.klsm_board.specs.Boards.{known_of_others, own_steps}
use Rattle.klsm_board.specs.Rule.{own, view}
use Rattle.klsm_board.specs.Steps.{HasFront, IsMine}
use Rattle.klsm_board.specs.Turning.{lists_known}
use Rattle.klsm_board.proofs.lemmas.ending.LeftLemmas.{counts_more, left_less}
use Rattle.klsm_board.proofs.lemmas.ending.WholeLemmas.{front_at_end, known_elsewhere, own_known, whole_acted}
use Rattle.klsm_board.proofs.all_members.AllMembers.front.Goals as goal

pub invariant_of-self : goal.invariant_of-self
invariant_of-self g c =
    let all = c.args.self.now in let told = c.front.ensures in let threads = ap (λ (z : Sizes). z.threads) told.same.1 in
    record { whole = whole_acted all.acting c.front.new.self all.tally.inserted all.tally.deleted told.same told.others all.whole; empty = all.empty; roomy = omega (arith, threads, all.roomy) }

pub returns-clause-same : goal.returns-clause-same
returns-clause-same g c =
    let me = c.args.self.now.acting in let me' = c.front.new.self in let told = c.front.ensures in
    let acts' : IsMine me'.seat.me.0 me.number = subst (λ t. IsMine me'.seat.me.0 t) told.same.0 me'.rests.acts in
    record {
      sizes = told.same.1;
      table = told.same.2;
      others = λ u other. known_elsewhere me.number me.seat.me.0 me'.seat.me.0 me.rests.acts acts' told.others u other;
    }

pub returns-clause-steps : goal.returns-clause-steps
returns-clause-steps g c =
    let me = c.args.self.now.acting in let me' = c.front.new.self in let told = c.front.ensures in
    sym (own_known me' me.number told.same.0) ∙ (told.steps ∙ ap (λ es. es ++ Looked c.front.result ∷ []) (own_known me me.number refl))

pub returns-clause-left : goal.returns-clause-left
returns-clause-left g c =
    let all = c.args.self.now in let me = all.acting in let told = c.front.ensures in
    left_less me c.front.new.self me.sizes all.tally.inserted all.tally.deleted (lists_known me.sizes.threads me.seat.me.0.lists) None refl told.same told.others all.whole refl told.adds

pub returns-clause-counts : goal.returns-clause-counts
returns-clause-counts g c =
    let me = c.args.self.now.acting in let told = c.front.ensures in
    let now = counts_more me c.front.new.self me.sizes (lists_known me.sizes.threads me.seat.me.0.lists) [] refl told.same told.others refl told.adds.inserted_are in
    omega (arith, now)

pub returns-clause-front : goal.returns-clause-front
returns-clause-front g c =
    let all = c.args.self.now in let me = all.acting in let told = c.front.ensures in
    let alike : me.seat.me.0.lists ≡ own me.number (own_steps me) ∷ known_of_others me = me.rests.acts in
    let seen : HasFront me.sizes me.number (view me.seat.me.0.lists) c.front.result = subst (λ (z : List Own). HasFront me.sizes me.number (view z) c.front.result) (sym alike) told.known in
    front_at_end me.sizes me.number (view me.seat.me.0.lists) c.front.result seen all.whole.has
