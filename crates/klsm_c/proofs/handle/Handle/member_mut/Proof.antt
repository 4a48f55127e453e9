-- `member_mut` lends what the pointer leads to, and the handle follows it.
use Rattle.std.proofs.Common.{◌≡◌, ℕ, List, [], ◌∷◌, length, refl, sym, ap, ◌∙◌}
use seplogic.Ra.Ura.{Ura}
use base.Fraction.{full_share}
use mir.Syntax.{named}
use mir.Val.{Val, vptr}
use mir.Raw.{raw as bare}
use base.Logic.{ent, sep, id⊢, fst∗, never}
use base.Fml.{Fml, ftrue, fsep, flft}
use types.Logic.{Logic, sem}
use types.Kit.{‵, raw, ◌⊛◌, some, later, at_ret, ◌$◌, ◌∵◌, !, qed, move, keep, use1, split, split3, join, group, fsplit, fjoin, fsplit3, fpack, pick, await, suffices, frame, rewrite, done}
use types.Run.{of_opd, addr, load, stop, fld, first, blocks, exec, returns, enter}
use types.ByLocal.{alloc_all, pass_all, free_all, look_at, get, through, sets, sets_last, env}
use types.Part.{look_in, sub, whole}
use contract.Monad.{fact}
use contract.Running.{tables}
use denote.Exit.{no}
use denote.Follow.{Part, lends_Part}
use denote.Laws.{shows}
use denote.Memory.{cell_at, lone, mem, part_at, part_of}
use denote.RawPtr.{Ptr, block_ptr, null_ptr, in_a_block}
use denote.Ref.{MutBor, MutRef, mut_vals, mut_Tells}
use denote.Signature.{plain, mut_ref_to}
use denote.Steps.{nothing, opens, peeks, heard}
use denote.Struct.Struct.{Struct}
use denote.Struct.Owning.{shape}
use denote.Triple.Walked.{Stays, stay_dropped, Goes-spent_ref, walk_of, says, ends_at}
use Rattle.std.proofs.raw_atomic.Walks.{proved}
use Rattle.std.proofs.VecSteps.Shapes.{after}
use Rattle.std_heap.specs.contracts.GlobalAllocator.TheImpl.{ghosts}
use Rattle.std_alloc.specs.Box.Ownership.{box_owns}
use Rattle.klsm_owned.specs.declared.owned.OwnedMember.{OwnedMember}
use Rattle.klsm_owned.specs.contracts.owned.OwnedMember as owned
use Rattle.klsm_c.specs.declared.handle.Handle.{Handle}
use Rattle.klsm_c.specs.Held.{held_owns}
use Rattle.klsm_c.specs.Lending.{LendsMember, with_member}
use Rattle.klsm_c.specs.contracts.handle.Handle as handle
use Rattle.klsm_c.specs.contracts.handle.Handle.member_mut as f
use Rattle.klsm_c.proofs.handle.Handle.TheLaws.{lowers}
use Rattle.klsm_c.proofs.handle.Handle.member_mut.Statement.{statement}
use Rattle.klsm_c.proofs.handle.Handle.member_mut.Code as code
use Rattle.klsm_c.proofs.HeldLemmas.{one}

abbrev stayed : Stays f.ended.signature.params f.ended.kept
stayed = (stay_dropped (mut_ref_to (0 ∷ []) tt (plain (λ _. handle.the_row))) no, tt)

-- the right to free a member
abbrev freeing : Ptr → Fml
freeing = ghosts.dealloc_token (record { memory = record { seal = tt } }) (bare (lone owned.the_row.mir))

module _ {M : Type 1} {𝓤 : Ura M} (𝓛 : Logic 𝓤) (h : Handle) (us : List Val) (rb ro b o : ℕ) where
  -- all of the handle but its member
  abbrev Rest : Fml
  Rest = fsep (freeing (block_ptr b o)) (fsep ((Struct (shape handle.the_type)).own_val (h.at, tt) us) (cell_at full_share handle.the_row.mir us rb ro))

  back : h.at ≡ block_ptr b o → (w : OwnedMember)
      → ent 𝓤 (sep 𝓤 (sem 𝓛 ((mem owned.the_row).own_at w b o)) (sem 𝓛 Rest)) (sem 𝓛 ((mem handle.the_row).own_at (with_member h w) rb ro))
  unfolding part_of held_owns
  back e w =
      qed 𝓛 (‵ (part_at owned.the_row full_share w b o) ∷ ‵ Rest ∷ []) ∵ move ! (1 ∷ []) $ fsplit3 ! $ move ! (3 ∷ 0 ∷ []) $ fjoin ! $
      rewrite ! 0 (λ (p : Ptr). ‵ (held_owns p (w ∷ []))) (sym e) refl $ move ! (1 ∷ 0 ∷ []) $ fjoin ! $ move ! (1 ∷ 0 ∷ []) $ fjoin ! $
      fpack ! (List Val) (λ ws. fsep (cell_at full_share handle.the_row.mir ws rb ro) (handle.the_row.own_val (with_member h w) ws)) us $ done !

pub member_mut_spec : {M : Type 1} → statement M
unfolding held_owns
member_mut_spec 𝓤 𝓛 𝓜 𝓡 wired =
    let c = f.clauses 𝓛 𝓜.mem 𝓡.returns in let W = walk_of 𝓛 f.ended stayed c in let 𝓣 = tables 𝓤 𝓛.H 𝓜 𝓡 𝓡.env in
    proved 𝓛 f.ended stayed c 𝓜 𝓡 (Goes-spent_ref 𝓛 1 (0 ∷ []) tt (plain (λ _. handle.the_row)), tt)
    f.Key.name code.function (code.unfolded 𝓤 𝓛.H 𝓜 𝓡 wired)
    (λ κs. (mut_vals, tt)) (λ κs. (mut_Tells (named 0) κs.0 handle.the_row, tt)) (λ κs qs bounds a _ are.
    let κ = κs.0 in let q = qs.0 in let rb = a.0.ref_ptr.0 in let ro = a.0.ref_ptr.1 in let γ = a.0.ghost_name in let h = a.0.now in let vs = mut_vals a.0 in
    let y : W.Ghost = ((κs, qs, bounds, a, (vs, tt)), tt) in let code' = handle.the_row.coded.code h in
    qed 𝓛 (((‵ (flft κ q) ⊛ ‵ ftrue) ⊛ ‵ ((MutRef (named 0) κ handle.the_row).own_val a.0 vs) ⊛ ‵ ftrue) ∷ raw (fact 𝓤 (length h.held ≡ 1)) ∷ []) ∵
    split ! $ split ! $ move ! (2 ∷ []) $ split ! $ move ! (4 ∷ []) $ heard ! (length h.held ≡ 1) (λ single. let x = (one h.held single).0 in let is_x = (one h.held single).1 in
    keep ! (0 ∷ 2 ∷ []) $ enter ! _ _ _ _ _ $ alloc_all ! (λ l. pass_all ! refl ((tt, tt), tt) $
    fsplit3 ! $ move ! (1 ∷ 2 ∷ 3 ∷ []) $ opens ! tt handle.the_row {h = h} rb ro (λ us.
    move ! (1 ∷ []) $ peeks ! handle.the_row _ (shows 𝓛 handle.the_row) h us (λ is. fsplit ! $ move ! (1 ∷ []) $
    rewrite ! 0 (λ (xs : List OwnedMember). ‵ (held_owns h.at xs)) is_x refl $
    in_a_block ! h.at (λ p. box_owns (ghosts.dealloc_token (record { memory = record { seal = tt } })) owned.the_row p x) (fst∗ 𝓤 (never 𝓤) (sem 𝓛 (freeing null_ptr))) (λ b o e.
    let word = lowers.val_is h us is ∙ ap (λ (p : Ptr). lowers.lowered (record h { at = p }) ∷ []) e in
    let Cell = λ (ws : List Val). ‵ (cell_at full_share handle.the_row.mir ws rb ro) in
    fsplit ! $ rewrite ! 3 Cell word refl $
    -- [the member; the right to free it; the handle's field; its cell; the open borrow, in three entries]
    first ! $ blocks ! $
    sets ! (of_opd ! (load ! (through ! refl (fld ! refl (stop !))) (look_in ! 3 (sub ! 0 refl (whole !))))) refl (tt, tt) $
    sets ! (of_opd ! (get ! refl)) refl (tt, tt) $
    sets_last ! (addr ! (through ! refl (stop !))) refl (tt, tt) $
    exec ! 𝓣.C 𝓣.Λ (env code.Mir.locals l) (after 1 (code.function).body) (at_ret _ (W.post y)) $
    sets ! (of_opd ! (get ! refl)) refl (tt, tt) $
    rewrite ! 3 Cell (sym word) refl $ move ! (2 ∷ 3 ∷ []) $ fjoin ! $ move ! (2 ∷ 0 ∷ []) $ fjoin ! $ move ! (2 ∷ 3 ∷ 4 ∷ 1 ∷ 0 ∷ []) $ group ! 5 $
    use1 𝓛 (later (some (λ (δ : ℕ). raw (Part 𝓛 handle.the_row owned.the_row (with_member h) (named 0) κ q rb ro b o γ (sem 𝓛 (Rest 𝓛 h us rb ro b o)) (back 𝓛 h us rb ro b o e) x δ))))
    (lends_Part 𝓛 handle.the_row owned.the_row (with_member h) (named 0) κ q rb ro b o γ (sem 𝓛 (Rest 𝓛 h us rb ro b o)) (back 𝓛 h us rb ro b o e) code' code' x) $ await ! tt $ pick ! (λ δ.
    returns ! (look_at ! 0 refl) $ free_all ! refl $ keep ! (0 ∷ []) $
    let r : MutBor OwnedMember = record { ref_ptr = (b, o); ghost_name = δ; now = x } in
    suffices ! _ (ends_at 𝓛 f.ended stayed c y (vptr b o) r (tt, tt) (tt, tt)) $
    use1 𝓛 (‵ ((MutRef (named 0) κ owned.the_row).own_val r (vptr b o ∷ [])) ⊛ ‵ (flft κ q) ⊛ ‵ (LendsMember a.0 r)) (id⊢ 𝓤 _) $ split3 ! $
    nothing ! $ nothing ! $ fjoin ! $ join ! $ nothing ! $ move ! (2 ∷ 0 ∷ []) $ join ! $ join ! $ frame ! $ says ! is_x $ done !)))))))
