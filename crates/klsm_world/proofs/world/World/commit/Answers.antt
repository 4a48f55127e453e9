use Rattle.std.proofs.Common.{◌∙◌, sym, subst, ap}
use Rattle.klsm_schedules.specs.declared.step.Event.TheVariants.{Flush, Spy, Refill, Steal, Share}
use Rattle.klsm_schedules.specs.declared.step.Step.TheVariants.{Commit}
use Rattle.klsm_schedules.specs.Schedules.{MayStep}
use Rattle.klsm_world.specs.WorldView.{IsStepped}
use Rattle.klsm_world.proofs.world.World.commit.Goals as goal

pub put-requires : goal.put-requires
put-requires g c = subst (λ event. MayStep c.args.self.now.limits c.args.self.now.world (Commit c.args.thread event)) c.in-Put.is c.requires

pub returns-in-Put : goal.returns-in-Put
returns-in-Put g c = subst (λ event. IsStepped c.args.self.now (Commit c.args.thread event) c.put.result c.put.new.self) (sym c.in-Put.is) c.put.ensures

pub flush-requires : goal.flush-requires
flush-requires g c = subst (λ event. MayStep c.args.self.now.limits c.args.self.now.world (Commit c.args.thread event)) (c.in-Flush.is ∙ ap (Flush c.in-Flush.item) (sym c.as_slice.ensures)) c.requires

pub returns-in-Flush : goal.returns-in-Flush
returns-in-Flush g c = subst (λ event. IsStepped c.args.self.now (Commit c.args.thread event) c.flush.result c.flush.new.self) (sym (c.in-Flush.is ∙ ap (Flush c.in-Flush.item) (sym c.as_slice.ensures))) c.flush.ensures

pub take-requires : goal.take-requires
take-requires g c = subst (λ event. MayStep c.args.self.now.limits c.args.self.now.world (Commit c.args.thread event)) c.in-Take.is c.requires

pub returns-in-Take : goal.returns-in-Take
returns-in-Take g c = subst (λ event. IsStepped c.args.self.now (Commit c.args.thread event) c.take.result c.take.new.self) (sym c.in-Take.is) c.take.ensures

pub take_early-requires : goal.take_early-requires
take_early-requires g c = subst (λ event. MayStep c.args.self.now.limits c.args.self.now.world (Commit c.args.thread event)) c.in-Early.is c.requires

pub returns-in-Early : goal.returns-in-Early
returns-in-Early g c = subst (λ event. IsStepped c.args.self.now (Commit c.args.thread event) c.take_early.result c.take_early.new.self) (sym c.in-Early.is) c.take_early.ensures

pub find_nothing-requires : goal.find_nothing-requires
find_nothing-requires g c = subst (λ event. MayStep c.args.self.now.limits c.args.self.now.world (Commit c.args.thread event)) c.in-Nothing.is c.requires

pub returns-in-Nothing : goal.returns-in-Nothing
returns-in-Nothing g c = subst (λ event. IsStepped c.args.self.now (Commit c.args.thread event) c.find_nothing.result c.find_nothing.new.self) (sym c.in-Nothing.is) c.find_nothing.ensures

pub spy-requires : goal.spy-requires
spy-requires g c = subst (λ event. MayStep c.args.self.now.limits c.args.self.now.world (Commit c.args.thread event)) (c.in-Spy.is ∙ ap (Spy c.in-Spy.victim) (sym c.as_slice-in-Spy.ensures)) c.requires

pub returns-in-Spy : goal.returns-in-Spy
returns-in-Spy g c = subst (λ event. IsStepped c.args.self.now (Commit c.args.thread event) c.spy.result c.spy.new.self) (sym (c.in-Spy.is ∙ ap (Spy c.in-Spy.victim) (sym c.as_slice-in-Spy.ensures))) c.spy.ensures

pub refill-requires : goal.refill-requires
refill-requires g c = subst (λ event. MayStep c.args.self.now.limits c.args.self.now.world (Commit c.args.thread event)) (c.in-Refill.is ∙ ap Refill (sym c.as_slice-in-Refill.ensures)) c.requires

pub returns-in-Refill : goal.returns-in-Refill
returns-in-Refill g c = subst (λ event. IsStepped c.args.self.now (Commit c.args.thread event) c.refill.result c.refill.new.self) (sym (c.in-Refill.is ∙ ap Refill (sym c.as_slice-in-Refill.ensures))) c.refill.ensures

pub steal-requires : goal.steal-requires
steal-requires g c = subst (λ event. MayStep c.args.self.now.limits c.args.self.now.world (Commit c.args.thread event)) (c.in-Steal.is ∙ ap (Steal c.in-Steal.victim) (sym c.as_slice-in-Steal.ensures)) c.requires

pub returns-in-Steal : goal.returns-in-Steal
returns-in-Steal g c = subst (λ event. IsStepped c.args.self.now (Commit c.args.thread event) c.steal.result c.steal.new.self) (sym (c.in-Steal.is ∙ ap (Steal c.in-Steal.victim) (sym c.as_slice-in-Steal.ensures))) c.steal.ensures

pub share-requires : goal.share-requires
share-requires g c = subst (λ event. MayStep c.args.self.now.limits c.args.self.now.world (Commit c.args.thread event)) (c.in-Share.is ∙ ap Share (sym c.as_slice-in-Share.ensures)) c.requires

pub returns-in-Share : goal.returns-in-Share
returns-in-Share g c = subst (λ event. IsStepped c.args.self.now (Commit c.args.thread event) c.share.result c.share.new.self) (sym (c.in-Share.is ∙ ap Share (sym c.as_slice-in-Share.ensures))) c.share.ensures
