-- A proof by hand, in the form of that of `allocate`. It follows the body: the inner `deallocate` is called.
use Rattle.std.proofs.Common.{◌≡◌, ℕ, ◌+◌, [], ◌∷◌, refl, w64}
use Rattle.std.proofs.alloc.Calls.{Al, α, seen, token, Gives, at_gives, Gives-goes, Gives-Gives}
use Rattle.std.proofs.raw_atomic.Walks.{proved}
use base.Fml.{ftrue, flft, fsep}
use base.Logic.{id⊢, fst∗, never}
use contract.BorrowLft.{◌⊑◌, ⊑_trans}
use contract.Monad.{fact}
use contract.Running.{tables}
use denote.Builtin.{usize, RawPtr, RefOf}
use denote.Exit.{yes}
use denote.Opens.{unhide}
use denote.Param.{bounded, param}
use denote.Plain.{uint_vals, uint_Tells}
use denote.RattleType.{owns}
use denote.RawPtr.{Ptr, block_ptr, null_ptr, room_for, in_a_block, ptr_val, rawptr_vals, rawptr_Tells}
use denote.Ref.{shr_vals}
use denote.Signature.{Slot, plain, types_at}
use denote.Steps.{heard, nothing}
use denote.Triple.Call.{calls_at}
use denote.Triple.Table.{framed}
use denote.Triple.Walked.{Stays, stay_dropped, walk_of, ends_at, Goes-dropped}
use mir.MapTy.{inst_fn}
use mir.Syntax.{Args, Fn, a_type, dnil, dcons}
use mir.Val.{vint, vptr, vunit}
use prog.Memory.{size, align, capped, up}
use prog.Wp.{WpFn}
use types.Logic.{sem}
use types.ByLocal.{alloc_all, pass_all, free_all, look_at, get, through, sets, lands_as}
use types.Kit.{‵, raw, prop, ◌⊛◌, later, given, ◌$◌, ◌∵◌, !, qed, move, keep, use1, group, split, split3, join, learn, fsplit, fjoin, feq_i, regoal, suffices, await, done}
use types.Run.{stop, fld, addr, no_more, and_then, of_opd, unit_lit, returns, enter}
use Rattle.klsm_test_support.specs.contracts.rationed.Rationed as R
use Rattle.klsm_test_support.specs.contracts.rationed.RationedAllocator.deallocate as F
use Rattle.klsm_test_support.specs.contracts.rationed.RationedAllocator.deallocate.Key as key
use Rattle.klsm_test_support.proofs.rationed.RationedAllocator.deallocate.Statement.{statement}
use Rattle.klsm_test_support.proofs.rationed.RationedAllocator.deallocate.Code as code

pub deallocate_spec : {M : Type 1} → statement M
deallocate_spec 𝓤 𝓛 𝓜 𝓡 wired Y L g d d' met _ =
    -- the inner allocator under its bound, the contract, and the code at that allocator
    let Z : Al = record { row = Y; laws = L; g = g; d = d; drops = d' } in
    let T = F.ended Y g d d' in
    let c = F.clauses Y g d d' 𝓛 𝓜.mem 𝓡.returns in
    let stayed : Stays T.signature.params T.kept = (stay_dropped _ yes, (stay_dropped _ yes, (stay_dropped _ yes, (stay_dropped _ yes, tt)))) in
    let W = walk_of 𝓛 T stayed c in
    let 𝓣 = tables 𝓤 𝓛.H 𝓜 𝓡 𝓡.env in
    let args : Args = bounded (a_type ∷ []) (Y, tt) (dcons d (dcons d' dnil)) in
    let here : Fn = inst_fn args code.function in
    let ref : Slot 2 = RefOf (0 ∷ []) tt (plain (λ _. R.the_row (param 0 Y))) (λ _. tt) in
    let word = Goes-dropped 𝓛 2 (plain (λ _. usize)) yes (λ κs x f. refl) in
    proved 𝓛 T stayed c 𝓜 𝓡 (Goes-dropped 𝓛 2 ref yes (λ κs x f. refl), (Goes-dropped 𝓛 2 (plain (λ _. RawPtr)) yes (λ κs x f. refl), (word, (word, tt))))
    (key.name args) here (code.unfolded 𝓤 𝓛.H 𝓜 𝓡 wired (Y, tt) d d')
    (λ κs. (shr_vals, (rawptr_vals, (uint_vals w64, (uint_vals w64, tt))))) (λ κs. ((λ r vs s. s.0), (rawptr_Tells, (uint_Tells w64, (uint_Tells w64, tt)))))
    (λ κs qs bounds a τ are.
    -- the parameters, the first lifetime with its share, and where the field `inner` lies
    let self = a.0 in let block : Ptr = a.1.0 in let bytes = a.1.1.0 in let alignment = a.1.1.1.0 in
    let heap : Y.Denot = self.now.inner in let κ = κs.0 in let q = qs.0 in
    let inner_at : ℕ × ℕ = (self.ref_ptr.0, self.ref_ptr.1 + up (align (α Z)) 0) in
    let y : Ptr → W.Ghost = λ p. ((κs, qs, bounds, (self, (p, a.1.1)), (shr_vals self, (rawptr_vals p, (vint w64 bytes ∷ [], (vint w64 alignment ∷ [], tt))))), τ) in
    let Sizes : Type 0 = (capped (size τ) ≡ bytes) × (capped (align τ) ≡ alignment) in
    let G = Gives Z 𝓛 𝓜.mem 𝓡.returns in
    -- the parameters and the `requires`, of which this is kept: the block and the right to free it, what the `&` to `inner` shows, the tokens of the two lifetimes
    qed 𝓛 (((‵ (flft κ q) ⊛ ‵ (flft κs.1.0 qs.1.0) ⊛ ‵ ftrue) ⊛ ‵ (owns (types_at T.signature.params κs) (y block).0.3 (y block).0.4)) ∷ (raw (fact 𝓤 (κs.1.0 ⊑ Y.lives)) ⊛ raw (fact 𝓤 Sizes) ⊛ ‵ (fsep (room_for τ block) (token Z heap τ block))) ∷ []) ∵
    move ! (1 ∷ []) $ split3 ! $ heard ! _ (λ lives. heard ! Sizes (λ sizes. move ! (1 ∷ []) $ split ! $ split ! $ move ! (2 ∷ []) $
    fsplit ! $ fsplit ! $ move ! (1 ∷ []) $ unhide ! $ fsplit ! $ fsplit ! $ use1 𝓛 (‵ (seen Z κ inner_at heap)) (id⊢ 𝓤 _) $ keep ! (7 ∷ 0 ∷ 5 ∷ 6 ∷ []) $
    -- no room lies at null, so the pointer is a block and an offset
    in_a_block ! block (λ p. fsep (room_for τ p) (token Z heap τ p)) (fst∗ 𝓤 (never 𝓤) (sem 𝓛 (token Z heap τ null_ptr))) (λ b o is_block.
    regoal ! (λ p. prop (WpFn 𝓤 𝓛.H 𝓣.C 𝓣.Λ here (vptr self.ref_ptr.0 self.ref_ptr.1 ∷ ptr_val p ∷ vint w64 bytes ∷ vint w64 alignment ∷ []) (W.post (y p)))) is_block refl $
    enter ! _ _ _ _ _ $ alloc_all ! (λ l. pass_all ! refl ((tt, tt), ((tt, tt), ((tt, record { fits = are.1.1.0.1 }), ((tt, record { fits = are.1.1.1.0.1 }), tt)))) $
    -- &self.inner, and the call
    sets ! (addr ! (through ! refl (fld ! refl (stop !)))) refl (tt, tt) $
    let z : G.Ghost = at_gives Z 𝓛 𝓜.mem 𝓡.returns κ q inner_at heap b o bytes alignment τ in
    fsplit ! $ group ! 4 $ use1 𝓛 (raw (G.pre z)) (Gives-goes Z 𝓛 𝓜.mem 𝓡.returns κ q inner_at heap (⊑_trans κ κs.1.0 Y.lives bounds.0 lives) b o bytes alignment τ sizes.0 sizes.1 are.1.1.0.1 are.1.1.1.0.1) $
    calls_at ! (framed 𝓤 𝓛.H 𝓜 𝓣) G (met.deallocate d') z (and_then ! (get ! refl) (and_then ! (get ! refl) (and_then ! (get ! refl) (and_then ! (get ! refl) (no_more !))))) (λ v.
    use1 𝓛 (later (given (v ≡ vunit) (‵ (flft κ q)))) (Gives-Gives Z 𝓛 𝓜.mem 𝓡.returns κ q inner_at heap b o bytes alignment τ v) $ await ! tt $ learn ! (λ is_unit.
    -- the return: nothing is left of the parameters, and the tokens go back
    lands_as ! is_unit refl (tt, tt) $ sets ! (of_opd ! (unit_lit !)) refl (tt, tt) $ returns ! (look_at ! 0 refl) $ free_all ! refl $
    suffices ! _ (ends_at 𝓛 T stayed c (y (block_ptr b o)) vunit tt (tt, (tt, (tt, (tt, tt)))) (tt, (tt, (tt, (tt, tt))))) $
    nothing ! $ feq_i ! _ (vunit ∷ []) _ refl $ nothing ! $ nothing ! $ fjoin ! $ nothing ! $ fjoin ! $ nothing ! $ fjoin ! $ nothing ! $ fjoin ! $ join ! $
    move ! (2 ∷ 3 ∷ []) $ join ! $ join ! $ done !)))))))
