use Rattle.std.proofs.Common.{sym, subst}
use Rattle.klsm_schedules.specs.Schedules.{MayStep}
use Rattle.klsm_world.specs.WorldView.{IsStepped}
use Rattle.klsm_world.proofs.world.World.step.Goals as goal

pub acquire-requires : goal.acquire-requires
acquire-requires g c = subst (MayStep c.args.self.now.limits c.args.self.now.world) c.in-Acquire.is c.in_ok-check.ensures.legal

pub returns-in-Acquire : goal.returns-in-Acquire
returns-in-Acquire g c = subst (λ step. IsStepped c.args.self.now step c.acquire.result c.acquire.new.self) (sym c.in-Acquire.is) c.acquire.ensures

pub commit-requires : goal.commit-requires
commit-requires g c = subst (MayStep c.args.self.now.limits c.args.self.now.world) c.in-Commit.is c.in_ok-check.ensures.legal

pub returns-in-Commit : goal.returns-in-Commit
returns-in-Commit g c = subst (λ step. IsStepped c.args.self.now step c.commit.result c.commit.new.self) (sym c.in-Commit.is) c.commit.ensures

pub release-requires : goal.release-requires
release-requires g c = subst (MayStep c.args.self.now.limits c.args.self.now.world) c.in-Release.is c.in_ok-check.ensures.legal

pub returns-in-Release : goal.returns-in-Release
returns-in-Release g c = subst (λ step. IsStepped c.args.self.now step c.release.result c.release.new.self) (sym c.in-Release.is) c.release.ensures

pub miss-requires : goal.miss-requires
miss-requires g c = subst (MayStep c.args.self.now.limits c.args.self.now.world) c.in-Miss.is c.in_ok-check.ensures.legal

pub returns-in-Miss : goal.returns-in-Miss
returns-in-Miss g c = subst (λ step. IsStepped c.args.self.now step c.miss.result c.miss.new.self) (sym c.in-Miss.is) c.miss.ensures

pub look-requires : goal.look-requires
look-requires g c = subst (MayStep c.args.self.now.limits c.args.self.now.world) c.in-Look.is c.in_ok-check.ensures.legal

pub returns-in-Look : goal.returns-in-Look
returns-in-Look g c = subst (λ step. IsStepped c.args.self.now step c.look.result c.look.new.self) (sym c.in-Look.is) c.look.ensures

pub mark-requires : goal.mark-requires
mark-requires g c = subst (MayStep c.args.self.now.limits c.args.self.now.world) c.in-Mark.is c.in_ok-check.ensures.legal

pub returns-in-Mark : goal.returns-in-Mark
returns-in-Mark g c = subst (λ step. IsStepped c.args.self.now step c.mark.result c.mark.new.self) (sym c.in-Mark.is) c.mark.ensures

pub see-requires : goal.see-requires
see-requires g c = subst (MayStep c.args.self.now.limits c.args.self.now.world) c.in-See.is c.in_ok-check.ensures.legal

pub returns-in-See : goal.returns-in-See
returns-in-See g c = subst (λ step. IsStepped c.args.self.now step c.see.result c.see.new.self) (sym c.in-See.is) c.see.ensures
