-- A proof by hand, since the borrow checker does not read the trait's clauses on memory. It follows the body: `grant` is
-- called, and then the answer is `Err`, or what the inner `allocate` answers. `qed` lists what is owned at the entry, and
-- each step after it, up to the next `$`, changes that list or goes past a statement.
use Rattle.std.proofs.Common.{◌≡◌, ℕ, Bool, ◌+◌, true, false, List, [], ◌∷◌, Ok, Err, refl, ap, w64}
use Rattle.std.proofs.VecSteps.Shapes.{after}
use Rattle.std.proofs.alloc.Calls.{Al, α, seen, Answer, answer_val, Answer-typed, Answer-Ok, Answer-err, Takes, at_takes, Answered, Takes-goes, Takes-gives, answers}
use Rattle.std.proofs.raw_atomic.Walks.{proved}
use base.Fml.{ftrue, flft, fsep}
use base.Logic.{id⊢}
use contract.BorrowLft.{◌⊑◌, ⊑_trans}
use contract.Monad.{fact}
use contract.Running.{tables}
use denote.Builtin.{usize, bool, RefOf}
use denote.Exit.{yes}
use denote.Memory.{hidden_shr}
use denote.Opens.{unhide}
use denote.Param.{bounded, param}
use denote.Plain.{uint_vals, uint_Tells}
use denote.RattleType.{owns}
use denote.RawPtr.{block_ptr}
use denote.Ref.{shr_vals}
use denote.Signature.{Slot, plain, types_at}
use denote.Steps.{heard, nothing, only}
use denote.Triple.Call.{calls_at}
use denote.Triple.Spec.{triple_of}
use denote.Triple.Table.{framed}
use denote.Triple.Walked.{Stays, stay_dropped, walk_of, ends_at, Goes-dropped}
use mir.MapTy.{inst_fn}
use mir.Syntax.{Args, Fn, a_type, dnil, dcons}
use mir.Val.{Val, vint, vptr}
use prog.Memory.{size, align, capped, up}
use types.ByLocal.{alloc_all, pass_all, free_all, look_at, get, through, sets, lands_as, env}
use types.Kit.{‵, raw, prop, at_ret, Sq, ◌⊛◌, some, later, ◌$◌, ◌∵◌, !, qed, move, keep, use0, use1, use2, drop, split, join, pick, fsplit, fjoin, feq_i, feq_l, suffices, await, done}
use types.Part.{agg}
use types.Run.{stop, fld, addr, no_more, and_then, lit, un, first, branches, skips, exec, returns, returns_within, enter}
use Rattle.std.specs.contracts.cell.Cell as CE
use Rattle.klsm_test_support.proofs.rationed.grant.Met as granting
use Rattle.klsm_test_support.specs.contracts.rationed.Ration as RT
use Rattle.klsm_test_support.specs.contracts.rationed.grant as GR
use Rattle.klsm_test_support.specs.contracts.rationed.Rationed as R
use Rattle.klsm_test_support.specs.contracts.rationed.RationedAllocator.allocate as F
use Rattle.klsm_test_support.specs.contracts.rationed.RationedAllocator.allocate.Key as key
use Rattle.klsm_test_support.proofs.rationed.RationedAllocator.allocate.Statement.{statement}
use Rattle.klsm_test_support.proofs.rationed.RationedAllocator.allocate.Code as code

pub allocate_spec : {M : Type 1} → statement M
allocate_spec 𝓤 𝓛 𝓜 𝓡 wired Y L g d d' met _ =
    -- the inner allocator under its bound, the contract, and the code at that allocator
    let Z : Al = record { row = Y; laws = L; g = g; d = d; drops = d' } in
    let T = F.ended Y g d d' in
    let c = F.clauses Y g d d' 𝓛 𝓜.mem 𝓡.returns in
    let stayed : Stays T.signature.params T.kept = (stay_dropped _ yes, (stay_dropped _ yes, (stay_dropped _ yes, tt))) in
    let W = walk_of 𝓛 T stayed c in
    let 𝓣 = tables 𝓤 𝓛.H 𝓜 𝓡 𝓡.env in
    let args : Args = bounded (a_type ∷ []) (Y, tt) (dcons d (dcons d' dnil)) in
    let here : Fn = inst_fn args code.function in
    let ref : Slot 2 = RefOf (0 ∷ []) tt (plain (λ _. R.the_row (param 0 Y))) (λ _. tt) in
    let word = Goes-dropped 𝓛 2 (plain (λ _. usize)) yes (λ κs x f. refl) in
    proved 𝓛 T stayed c 𝓜 𝓡 (Goes-dropped 𝓛 2 ref yes (λ κs x f. refl), (word, (word, tt)))
    (key.name args) here (code.unfolded 𝓤 𝓛.H 𝓜 𝓡 wired (Y, tt) d d')
    (λ κs. (shr_vals, (uint_vals w64, (uint_vals w64, tt)))) (λ κs. ((λ r vs s. s.0), (uint_Tells w64, (uint_Tells w64, tt))))
    (λ κs qs bounds a τ are.
    -- the parameters, the first lifetime with its share, and where the two fields lie
    let self = a.0 in let bytes = a.1.0 in let alignment = a.1.1.0 in
    let heap : Y.Denot = self.now.inner in let κ = κs.0 in let q = qs.0 in
    let inner_at : ℕ × ℕ = (self.ref_ptr.0, self.ref_ptr.1 + up (align (α Z)) 0) in
    let ration_at : ℕ × ℕ = (self.ref_ptr.0, self.ref_ptr.1 + up 8 (up (align (α Z)) 0 + size (α Z))) in
    let y : W.Ghost = ((κs, qs, bounds, a, (shr_vals self, (vint w64 bytes ∷ [], (vint w64 alignment ∷ [], tt)))), τ) in
    let Sizes : Type 0 = (capped (size τ) ≡ bytes) × (capped (align τ) ≡ alignment) in
    let G = triple_of 𝓛 GR.signature (GR.spec 𝓛 𝓜.mem 𝓡.returns) in
    let z : G.Ghost = (((κ, tt), (q, tt), tt, (record { ref_ptr = ration_at; now = self.now.ration }, tt), (vptr ration_at.0 ration_at.1 ∷ [], tt)), tt) in
    let I = Takes Z 𝓛 𝓜.mem 𝓡.returns in
    let z' : I.Ghost = at_takes Z 𝓛 𝓜.mem 𝓡.returns κ q inner_at heap bytes alignment τ in
    -- the return with `Err`, whoever refused: the tokens of the two lifetimes go back
    let refused : Sq 𝓛 (‵ (flft κ q) ∷ (‵ (flft κs.1.0 qs.1.0) ⊛ ‵ ftrue) ∷ []) (prop (W.post y (answer_val false 0 0))) =
    nothing ! $ suffices ! _ (ends_at 𝓛 T stayed c y (answer_val false 0 0) (Err (record {})) (tt, (tt, (tt, tt))) (tt, (tt, (tt, tt)))) $
    use0 𝓛 (‵ (Answer.own_val (Err (record {})) (answer_val false 0 0 ∷ []))) (Answer-err 𝓛) $ nothing ! $ nothing ! $ fjoin ! $ nothing ! $ fjoin ! $ nothing ! $ fjoin ! $ join ! $
    move ! (2 ∷ 3 ∷ []) $ join ! $ join ! $ done ! in
    -- the parameters and the `requires`, of which this is kept: what a `&` to `ration` shows, the first token, what a `&` to `inner` shows, the second token
    qed 𝓛 (((‵ (flft κ q) ⊛ ‵ (flft κs.1.0 qs.1.0) ⊛ ‵ ftrue) ⊛ ‵ (owns (types_at T.signature.params κs) y.0.3 y.0.4)) ∷ (raw (fact 𝓤 (κs.1.0 ⊑ Y.lives)) ⊛ raw (fact 𝓤 Sizes)) ∷ []) ∵
    move ! (1 ∷ []) $ split ! $ heard ! _ (λ lives. heard ! Sizes (λ sizes. split ! $ split ! $ move ! (2 ∷ []) $
    fsplit ! $ fsplit ! $ move ! (1 ∷ []) $ unhide ! $ fsplit ! $ fsplit ! $ use1 𝓛 (‵ (seen Z κ inner_at heap)) (id⊢ 𝓤 _) $
    move ! (1 ∷ []) $ fsplit ! $ use1 𝓛 (‵ (hidden_shr (CE.the_row RT.the_row) κ self.now.ration ration_at.0 ration_at.1)) (id⊢ 𝓤 _) $ keep ! (0 ∷ 6 ∷ 2 ∷ 7 ∷ []) $
    enter ! _ _ _ _ _ $ alloc_all ! (λ l. pass_all ! refl ((tt, tt), ((tt, record { fits = are.1.0.1 }), ((tt, record { fits = are.1.1.0.1 }), tt))) $
    -- &self.ration, and the call of `grant`, which hands the token back with a truth value
    sets ! (addr ! (through ! refl (fld ! refl (stop !)))) refl (tt, tt) $
    feq_i ! (List Val) (vptr ration_at.0 ration_at.1 ∷ []) _ refl $ fjoin ! $ nothing ! $ move ! (1 ∷ []) $ fjoin ! $ nothing ! $ move ! (2 ∷ []) $ join ! $ join ! $ nothing ! $ move ! (1 ∷ []) $
    use2 𝓛 (raw (G.pre z)) (id⊢ 𝓤 _) $
    calls_at ! (framed 𝓤 𝓛.H 𝓜 𝓣) G (granting.met 𝓤 𝓛 𝓜 𝓡 (code.calls-klsm_test_support::rationed::grant 𝓡.env wired)) z (and_then ! (get ! refl) (no_more !)) (λ v.
    use1 𝓛 (later (some (λ (granted : Bool). ((‵ (flft κ q) ⊛ ‵ ftrue) ⊛ ‵ (bool.own_val granted (v ∷ []))) ⊛ some (λ (ws : Unit {0} × Unit {0}). ‵ (fsep ftrue ftrue) ⊛ ‵ ftrue)))) (id⊢ 𝓤 _) $
    await ! tt $ pick ! (λ granted. split ! $ split ! $ split ! $ move ! (2 ∷ []) $ feq_l ! (λ is_granted. move ! (1 ∷ []) $ drop ! $ move ! (1 ∷ []) $ drop ! $
    lands_as ! (ap only is_granted) refl (tt, tt) $
    -- if !granted { return Err(AllocError); }
    sets ! (un ! (get ! refl) tt) refl (tt, tt) $ first ! $ branches ! (get ! refl)
    (λ _. sets ! (agg ! (no_more !)) refl (tt, tt) $ sets ! (agg ! (and_then ! (lit ! tt) (and_then ! (get ! refl) (no_more !)))) refl (Answer-typed false 0 0) $
    returns_within ! (W.post y) refl (look_at ! 0 refl) $ free_all ! refl $ keep ! (0 ∷ 2 ∷ []) $ refused)
    -- &self.inner, and the call of the inner `allocate`
    (λ _. skips ! $ exec ! 𝓣.C 𝓣.Λ (env here.locals l) (after 4 here.body) (at_ret _ (W.post y)) $ move ! (1 ∷ []) $
    sets ! (addr ! (through ! refl (fld ! refl (stop !)))) refl (tt, tt) $
    use2 𝓛 (raw (I.pre z')) (Takes-goes Z 𝓛 𝓜.mem 𝓡.returns κ q inner_at heap (⊑_trans κ κs.1.0 Y.lives bounds.0 lives) bytes alignment τ sizes.0 sizes.1 are.1.0.1 are.1.1.0.1) $
    calls_at ! (framed 𝓤 𝓛.H 𝓜 𝓣) I (met.allocate d') z' (and_then ! (get ! refl) (and_then ! (get ! refl) (and_then ! (get ! refl) (no_more !)))) (λ w.
    use1 𝓛 (later (raw (Answered Z 𝓛 𝓜.mem 𝓡.returns heap τ w) ⊛ ‵ (flft κ q))) (Takes-gives Z 𝓛 𝓜.mem 𝓡.returns κ q inner_at heap bytes alignment τ w) $ await ! tt $ split ! $
    answers Z ! 𝓜.mem 𝓡.returns heap τ w
    -- the return with a block: the block and the right to free it are the `ensures`
    (λ b o e. fjoin ! $ lands_as ! e refl (Answer-typed true b o) $ returns ! (look_at ! 0 refl) $ free_all ! refl $
    suffices ! _ (ends_at 𝓛 T stayed c y (answer_val true b o) (Ok (block_ptr b o)) (tt, (tt, (tt, tt))) (tt, (tt, (tt, tt)))) $
    use0 𝓛 (‵ (Answer.own_val (Ok (block_ptr b o)) (answer_val true b o ∷ []))) (Answer-Ok 𝓛 b o) $ nothing ! $ nothing ! $ fjoin ! $ nothing ! $ fjoin ! $ nothing ! $ fjoin ! $ join ! $
    move ! (2 ∷ 3 ∷ []) $ join ! $ join ! $ done !)
    (λ e. lands_as ! e refl (Answer-typed false 0 0) $ returns ! (look_at ! 0 refl) $ free_all ! refl $ refused))))))))))
