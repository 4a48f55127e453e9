use Rattle.std.proofs.Common.{◌≡◌, ℕ, ◌<◌, List, [], ◌∷◌, arith, ap, refl, sym, subst}
use Rattle.std.specs.Prelude.{None}
use Rattle.klsm_schedules.specs.declared.step.Entry.{Entry}
use Rattle.klsm_schedules.specs.Account.{account}
use Rattle.klsm_board.specs.declared.rule.Own.{Own}
use Rattle.klsm_board.specs.declared.sizes.Sizes.{Sizes}
use Rattle.klsm_board.specs.Boards.{known_of_others, own_steps}
use Rattle.klsm_board.specs.Bounding.{Bounds, IsBoundOf}
use Rattle.klsm_board.specs.Rule.{own}
use Rattle.klsm_board.specs.Steps.{IsMine}
use Rattle.klsm_board.specs.Turning.{HasList, lists_known}
use Rattle.klsm_board.proofs.lemmas.ending.LeftLemmas.{counts_more, left_less}
use Rattle.klsm_board.proofs.lemmas.ending.WholeLemmas.{bounds_left, known_elsewhere, none_holds, own_known, whole_acted}
use Rattle.klsm_board.proofs.all_members.AllMembers.bound.Goals as goal

pub invariant_of-self : goal.invariant_of-self
invariant_of-self g c =
    let all = c.args.self.now in let told = c.try_bound.ensures in let threads = ap (λ (z : Sizes). z.threads) told.same.1 in
    record { whole = whole_acted all.acting c.try_bound.new.self all.tally.inserted all.tally.deleted told.same told.others all.whole; empty = all.empty; roomy = omega (arith, threads, all.roomy) }

pub unreachable-requires : goal.unreachable-requires
unreachable-requires g c =
    let all = c.args.self.now in
    none_holds all.acting all.tally.inserted all.tally.deleted (own_steps c.try_bound.new.self) c.in_default.field-0 all.whole c.in_default.ensures.holder

pub returns-clause-same : goal.returns-clause-same
returns-clause-same g c =
    let me = c.args.self.now.acting in let me' = c.try_bound.new.self in let told = c.in-Ok.ensures in
    let acts' : IsMine me'.seat.me.0 me.number = subst (λ t. IsMine me'.seat.me.0 t) told.same.0 me'.rests.acts in
    record {
      sizes = told.same.1;
      table = told.same.2;
      others = λ u other. known_elsewhere me.number me.seat.me.0 me'.seat.me.0 me.rests.acts acts' told.others u other;
    }

pub returns-clause-ok : goal.returns-clause-ok
returns-clause-ok g c =
    let me = c.args.self.now.acting in let me' = c.try_bound.new.self in let told = c.in-Ok.ensures in
    subst (λ (z : List Entry × List Entry). Bounds me.sizes.threads z.0 z.1 c.in-Ok.bound) (λ i. (own_known me me.number refl i, own_known me' me.number told.same.0 i)) told.ok

pub returns-clause-left : goal.returns-clause-left
returns-clause-left g c =
    let all = c.args.self.now in let me = all.acting in let told = c.in-Ok.ensures in
    left_less me c.try_bound.new.self me.sizes all.tally.inserted all.tally.deleted (lists_known me.sizes.threads me.seat.me.0.lists) None refl told.same told.others all.whole refl told.adds

pub returns-clause-counts : goal.returns-clause-counts
returns-clause-counts g c =
    let me = c.args.self.now.acting in let told = c.in-Ok.ensures in let adds = told.adds in
    let now = counts_more me c.try_bound.new.self me.sizes (lists_known me.sizes.threads me.seat.me.0.lists) [] refl told.same told.others refl adds.inserted_are in
    omega (arith, now)

pub returns-clause-bound : goal.returns-clause-bound
returns-clause-bound g c =
    let all = c.args.self.now in let me = all.acting in let told = c.in-Ok.ensures in
    let alike : me.seat.me.0.lists ≡ own me.number (own_steps me) ∷ known_of_others me = me.rests.acts in
    let each : (u : ℕ) → u < me.sizes.threads → HasList (own me.number (own_steps me) ∷ known_of_others me) u = λ u below. subst (λ (z : List Own). HasList z u) alike (all.whole.has u below) in
    subst (λ (z : List Own). IsBoundOf (account (lists_known me.sizes.threads z)).left c.in-Ok.bound) (sym alike)
    (bounds_left me.sizes me.number (known_of_others me) (own_steps me) (own_steps c.try_bound.new.self) c.in-Ok.bound each told.live)
