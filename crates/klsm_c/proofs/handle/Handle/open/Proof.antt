-- `open` gives the pointer its type again.
use Rattle.std.proofs.Common.{◌≡◌, List, [], ◌∷◌, ◌++◌, length, refl, sym, ap, subst, ◌∙◌}
use mir.Val.{Val, vptr, vstruct, vcons, vnil, of_list}
use mir.Raw.{raw as bare}
use base.Logic.{SProp, ent, id⊢, fst∗, never}
use base.Fml.{ftrue}
use prog.Wp.{WpFn}
use types.Logic.{sem}
use types.Kit.{‵, raw, ◌⊛◌, ◌$◌, ◌∵◌, !, qed, move, drop, split, join, fsplit, fjoin, fpick, fpack, suffices, feq_i, feq_l, rewrite, done}
use types.Run.{of_opd, stop, fld, no_more, and_then, returns, enter}
use types.ByLocal.{alloc_all, pass_all, free_all, look_at, get, get_in, sets}
use types.Part.{agg, sub, whole}
use contract.Running.{tables}
use denote.Exit.{yes}
use denote.RattleType.{RattleType, Valss, owns}
use denote.Signature.{plain}
use denote.Laws.{Is, shows}
use denote.Memory.{lone}
use denote.RawPtr.{Ptr, RawPtr, block_ptr, null_ptr, ptr_val, in_a_block}
use denote.Steps.{nothing, peeks, heard}
use denote.Struct.Struct.{within}
use denote.Struct.Owning.{shape}
use denote.Triple.Walked.{Stays, stay_dropped, Goes-dropped, walk_of, says, ends_at}
use Rattle.std.proofs.raw_atomic.Walks.{proved_at}
use Rattle.std_heap.specs.contracts.Global as heap
use Rattle.std_heap.specs.contracts.GlobalAllocator.TheImpl.{ghosts}
use Rattle.std_heap.proofs.Handle.{heap_val, heap_Tells}
use Rattle.std_alloc.specs.Box.Ownership.{box_owns}
use Rattle.klsm_owned.specs.declared.owned.OwnedMember.{OwnedMember}
use Rattle.klsm_owned.specs.contracts.owned.OwnedMember as owned
use Rattle.klsm_c.specs.contracts.raw_box.RawBox as raw_box
use Rattle.klsm_c.specs.Held.{held_owns}
use Rattle.klsm_c.specs.contracts.handle.Handle as handle
use Rattle.klsm_c.specs.contracts.handle.Handle.open as f
use Rattle.klsm_c.proofs.handle.Handle.open.Statement.{statement}
use Rattle.klsm_c.proofs.handle.Handle.open.Code as code
use Rattle.klsm_c.proofs.HeldLemmas.{one}

abbrev Parts : RattleType
Parts = raw_box.the_row owned.the_row heap.the_row ghosts

abbrev stayed : Stays f.ended.signature.params f.ended.kept
stayed = (stay_dropped (plain (λ _. handle.the_row)) yes, (stay_dropped (plain (λ _. heap.the_row)) yes, tt))

pub open_spec : {M : Type 1} → statement M
unfolding held_owns
open_spec 𝓤 𝓛 𝓜 𝓡 wired =
    let c = f.clauses 𝓛 𝓜.mem 𝓡.returns in let 𝓣 = tables 𝓤 𝓛.H 𝓜 𝓡 𝓡.env in let W = walk_of 𝓛 f.ended stayed c in
    proved_at 𝓛 f.ended stayed c 𝓜 𝓡 (Goes-dropped 𝓛 0 (plain (λ _. handle.the_row)) yes (λ κs x w. refl), (Goes-dropped 𝓛 0 (plain (λ _. heap.the_row)) yes (λ κs x w. refl), tt)) f.Key.name code.function (code.unfolded 𝓤 𝓛.H 𝓜 𝓡 wired) (λ z are.
    let h = z.0.3.0 in let a = z.0.3.1.0 in let Run : List Val → SProp 𝓤 = λ ws. WpFn 𝓤 𝓛.H 𝓣.C 𝓣.Λ code.function ws (W.post z) in
    qed 𝓛 ((‵ ftrue ⊛ ‵ (owns (handle.the_row ∷ heap.the_row ∷ []) z.0.3 z.0.4)) ∷ raw ((c z.0.0 z.0.3).requires z.1) ∷ []) ∵
    split ! $ drop ! $ move ! (1 ∷ []) $ heard ! (length h.held ≡ 1) (λ single. let x = (one h.held single).0 in let is_x = (one h.held single).1 in
    fsplit ! $ fsplit ! $ fpick ! (λ vss. fsplit ! $ feq_l ! (λ ev. fsplit ! $ feq_l ! (λ ep. drop ! $
    rewrite ! 0 (λ (xs : List OwnedMember). ‵ (held_owns h.at xs)) is_x refl $
    in_a_block ! h.at (λ p. box_owns (ghosts.dealloc_token a) owned.the_row p x) (fst∗ 𝓤 (never 𝓤) (sem 𝓛 (ghosts.dealloc_token a (bare (lone owned.the_row.mir)) null_ptr))) (λ b o e.
    move ! (1 ∷ []) $ fsplit ! $ peeks ! heap.the_row (Is heap.the_row) (shows 𝓛 heap.the_row) a z.0.4.1.0 (λ is.
    rewrite ! 0 (λ (us : List Val). ‵ (heap.the_row.own_val a us)) (heap_Tells a z.0.4.1.0 is) refl $ move ! (1 ∷ []) $ drop ! $
    -- [the handle of the heap; the box]
    let w : Val = vstruct (vcons (vptr b o) vnil) in
    let ws : z.0.4.0 ≡ w ∷ [] = ev ∙ (λ j. vstruct (of_list ((ep ∙ ap (λ (p : Ptr). ptr_val p ∷ []) e) j ++ [])) ∷ []) in
    suffices ! (Run (w ∷ heap_val ∷ [])) (subst (λ (us : List Val). ent 𝓤 (Run (w ∷ heap_val ∷ [])) (Run us)) (sym (λ j. ws j ++ (heap_Tells a z.0.4.1.0 is j ++ []))) (id⊢ 𝓤 (Run (w ∷ heap_val ∷ [])))) $
    enter ! _ _ _ _ _ $ alloc_all ! (λ l. pass_all ! refl ((tt, (tt, tt)), ((tt, ((tt, tt), tt)), tt)) $
    sets ! (of_opd ! (get_in ! (fld ! refl (stop !)) (sub ! 0 refl (whole !)))) refl (tt, tt) $
    sets ! (of_opd ! (get ! refl)) refl (tt, tt) $
    sets ! (agg ! (and_then ! (get ! refl) (and_then ! (get ! refl) (no_more !)))) refl (tt, (tt, (((tt, tt), tt), tt))) $
    returns ! (look_at ! 0 refl) $ free_all ! refl $
    let made : Parts.Denot = record { at = block_ptr b o; alloc = a; value = x } in let out : Val = vstruct (vcons (vptr b o) (vcons heap_val vnil)) in
    suffices ! _ (ends_at 𝓛 f.ended stayed c z out made (tt, (tt, tt)) (tt, (tt, tt))) $ says ! is_x $
    nothing ! $ move ! (1 ∷ 0 ∷ []) $ fjoin ! $ feq_i ! (List Val) (vptr b o ∷ []) (vptr b o ∷ []) refl $ fjoin ! $
    feq_i ! (List Val) (out ∷ []) (out ∷ []) refl $ fjoin ! $
    fpack ! (Valss (RawPtr ∷ heap.the_row ∷ [])) (within (shape (raw_box.the_type owned.the_row heap.the_row ghosts)) (block_ptr b o, (a, tt)) (out ∷ [])) (vptr b o ∷ [], (heap_val ∷ [], tt)) $ fjoin ! $
    nothing ! $ nothing ! $ fjoin ! $ nothing ! $ fjoin ! $ join ! $ nothing ! $ join ! $ done !))))))))
