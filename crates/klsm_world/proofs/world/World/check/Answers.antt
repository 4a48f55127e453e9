use Rattle.std.proofs.Common.{◌≡◌, ◌≤◌, IfErr, OnOk, arith, false, true, sym, subst}
use Rattle.klsm_world.specs.Refusals.{NamesNone, Refuses}
use Rattle.klsm_schedules.specs.Schedules.{MayStep}
use Rattle.klsm_world.proofs.world.World.check.Goals as goal

pub check_acquire-requires : goal.check_acquire-requires
check_acquire-requires g c = subst (λ step. NamesNone c.args.self.now.limits step → ⊥) c.in-Acquire.is (λ names. let bad : false ≡ true = c.if-names_none.ensures.1 names in cc)

pub returns-in-Acquire : goal.returns-in-Acquire
returns-in-Acquire g c = record {
  legal = subst (λ step. OnOk c.check_acquire.result (MayStep c.args.self.now.limits c.args.self.now.world step)) (sym c.in-Acquire.is) c.check_acquire.ensures.legal;
  refused = subst (λ step. IfErr c.check_acquire.result (Refuses c.args.self.now.limits c.args.self.now.world step)) (sym c.in-Acquire.is) c.check_acquire.ensures.refused;
}

pub check_commit-requires : goal.check_commit-requires
check_commit-requires g c = subst (λ step. NamesNone c.args.self.now.limits step → ⊥) c.in-Commit.is (λ names. let bad : false ≡ true = c.if-names_none.ensures.1 names in cc)

pub returns-in-Commit : goal.returns-in-Commit
returns-in-Commit g c = record {
  legal = subst (λ step. OnOk c.check_commit.result (MayStep c.args.self.now.limits c.args.self.now.world step)) (sym c.in-Commit.is) c.check_commit.ensures.legal;
  refused = subst (λ step. IfErr c.check_commit.result (Refuses c.args.self.now.limits c.args.self.now.world step)) (sym c.in-Commit.is) c.check_commit.ensures.refused;
}

pub check_release-requires : goal.check_release-requires
check_release-requires g c = subst (λ step. NamesNone c.args.self.now.limits step → ⊥) c.in-Release.is (λ names. let bad : false ≡ true = c.if-names_none.ensures.1 names in cc)

pub returns-in-Release : goal.returns-in-Release
returns-in-Release g c = record {
  legal = subst (λ step. OnOk c.check_release.result (MayStep c.args.self.now.limits c.args.self.now.world step)) (sym c.in-Release.is) c.check_release.ensures.legal;
  refused = subst (λ step. IfErr c.check_release.result (Refuses c.args.self.now.limits c.args.self.now.world step)) (sym c.in-Release.is) c.check_release.ensures.refused;
}

pub check_miss-requires : goal.check_miss-requires
check_miss-requires g c = subst (λ step. NamesNone c.args.self.now.limits step → ⊥) c.in-Miss.is (λ names. let bad : false ≡ true = c.if-names_none.ensures.1 names in cc)

pub returns-in-Miss : goal.returns-in-Miss
returns-in-Miss g c = record {
  legal = subst (λ step. OnOk c.check_miss.result (MayStep c.args.self.now.limits c.args.self.now.world step)) (sym c.in-Miss.is) c.check_miss.ensures.legal;
  refused = subst (λ step. IfErr c.check_miss.result (Refuses c.args.self.now.limits c.args.self.now.world step)) (sym c.in-Miss.is) c.check_miss.ensures.refused;
}

pub returns-in-Look : goal.returns-in-Look
returns-in-Look g c =
    let no : c.args.self.now.limits.threads ≤ c.in-Look.thread → ⊥ = subst (λ step. NamesNone c.args.self.now.limits step → ⊥) c.in-Look.is (λ names. let bad : false ≡ true = c.if-names_none.ensures.1 names in cc) in
    record {
      legal = subst (MayStep c.args.self.now.limits c.args.self.now.world) (sym c.in-Look.is) (record { thread = omega (arith, no) });
      refused = tt;
    }

pub check_mark-requires : goal.check_mark-requires
check_mark-requires g c = subst (λ step. NamesNone c.args.self.now.limits step → ⊥) c.in-Mark.is (λ names. let bad : false ≡ true = c.if-names_none.ensures.1 names in cc)

pub returns-in-Mark : goal.returns-in-Mark
returns-in-Mark g c = record {
  legal = subst (λ step. OnOk c.check_mark.result (MayStep c.args.self.now.limits c.args.self.now.world step)) (sym c.in-Mark.is) c.check_mark.ensures.legal;
  refused = subst (λ step. IfErr c.check_mark.result (Refuses c.args.self.now.limits c.args.self.now.world step)) (sym c.in-Mark.is) c.check_mark.ensures.refused;
}

pub check_see-requires : goal.check_see-requires
check_see-requires g c = subst (λ step. NamesNone c.args.self.now.limits step → ⊥) c.in-See.is (λ names. let bad : false ≡ true = c.if-names_none.ensures.1 names in cc)

pub returns-in-See : goal.returns-in-See
returns-in-See g c = record {
  legal = subst (λ step. OnOk c.check_see.result (MayStep c.args.self.now.limits c.args.self.now.world step)) (sym c.in-See.is) c.check_see.ensures.legal;
  refused = subst (λ step. IfErr c.check_see.result (Refuses c.args.self.now.limits c.args.self.now.world step)) (sym c.in-See.is) c.check_see.ensures.refused;
}
