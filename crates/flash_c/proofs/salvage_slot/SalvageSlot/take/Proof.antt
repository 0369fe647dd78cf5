-- `take` reads the session at the pointer, and leaves room. Assumes `Logic`.
use Rattle.flash_c.proofs.Steps.{◌≡◌, Bool, true, false, List, [], ◌∷◌, refl, sym, ap, ◌∙◌, proved, named, Val, vptr, vbool, full_share, id⊢, ftrue, fat, flft, fact, tables, ‵, raw, ◌⊛◌, some, at_ret, ◌$◌, ◌∵◌, !, qed, move, keep, drop, split, join, fsplit, fsplit3, fjoin, fpack, feq_i, pick, use1, rewrite, frame, group, suffices, done, whole, sub, look_in, store_in, enter, returns, of_opd, load, look, stop, fld, first, blocks, exec, well_typed, forget, assigns, false_lit, alloc_all, pass_all, free_all, look_at, get, through, sets, sets_last, env, part_out, shows, cell_at, RattleType, Valss, within, Ptr, block_ptr, lies_at, room_at, in_a_block, MutRef, mut_vals, mut_Tells, plain, nothing, heard, peeks, opens, closes, Stays, stay_ref, walk_of, ends_at, Goes-ref, after, says_two}
use denote.Struct.Owning as owning
use Rattle.flash_c.specs.SalvageHeld.{held}
use Rattle.flash_c.specs.contracts.salvage_session.SalvageSession as session
use Rattle.flash_c.specs.contracts.salvage_slot.SalvageSlot.{the_row as R, the_type as slot_type}
use Rattle.flash_c.proofs.salvage_slot.SalvageSlot.TheLaws.{lowers}
use Rattle.flash_c.specs.contracts.salvage_slot.SalvageSlot.take as f
use Rattle.flash_c.proofs.salvage_slot.SalvageSlot.take.Statement.{statement}
use Rattle.flash_c.proofs.salvage_slot.SalvageSlot.take.Code as code

abbrev stayed : Stays f.ended.signature.params f.ended.kept
stayed = (stay_ref (0 ∷ []) tt (plain (λ _. R)), tt)

pub take_spec : {M : Type 1} → statement M
take_spec 𝓤 𝓛 𝓜 𝓡 wired =
    let c = f.clauses 𝓛 𝓜.mem 𝓡.returns in let W = walk_of 𝓛 f.ended stayed c in let 𝓣 = tables 𝓤 𝓛.H 𝓜 𝓡 𝓡.env in let S : RattleType = session.the_row in proved 𝓛 f.ended stayed c 𝓜 𝓡 (Goes-ref 𝓛 1 0 tt (plain (λ _. R)), tt)
    f.Key.name code.function (code.unfolded 𝓤 𝓛.H 𝓜 𝓡 wired) (λ κs. (mut_vals, tt)) (λ κs. (mut_Tells (named 0) κs.0 R, tt)) (λ κs qs bounds a _ are.
    let b = a.0.ref_ptr.0 in let o = a.0.ref_ptr.1 in let h = a.0.now in let vs = mut_vals a.0 in let y : W.Ghost = ((κs, qs, bounds, a, (vs, tt)), tt) in
    qed 𝓛 (((‵ (flft κs.0 qs.0) ⊛ ‵ ftrue) ⊛ ‵ ((MutRef (named 0) κs.0 R).own_val a.0 vs) ⊛ ‵ ftrue) ∷ raw (fact 𝓤 (h.full ≡ true)) ∷ []) ∵ move ! (1 ∷ []) $ heard ! (h.full ≡ true) (λ full.
    split ! $ split ! $ move ! (2 ∷ []) $ split ! $ keep ! (0 ∷ 2 ∷ []) $ enter ! _ _ _ _ _ $ alloc_all ! (λ l. pass_all ! refl ((tt, tt), tt) $ fsplit3 ! $ move ! (1 ∷ 2 ∷ 3 ∷ []) $ opens ! tt R b o (λ us.
    move ! (1 ∷ []) $ peeks ! R _ (shows 𝓛 R) h us (λ is. fsplit ! $ move ! (1 ∷ []) $ rewrite ! 0 (λ (t : Bool). ‵ (held t h.at h.session)) full refl $ in_a_block ! h.at (λ p. lies_at S full_share p h.session) (id⊢ 𝓤 _) (λ b' o' e.
    use1 𝓛 (some (λ (u : Val). ‵ (fat full_share _ b' o' u) ⊛ ‵ (S.own_val h.session (u ∷ [])))) (part_out 𝓛 S refl full_share h.session b' o') $ pick ! (λ u. split ! $ well_typed ! (λ ok.
    let word = lowers.val_is h us is ∙ ap (λ (p : Ptr). lowers.lowered (record h { at = p }) ∷ []) e in let Cell = λ (ws : List Val). ‵ (cell_at full_share R.mir ws b o) in rewrite ! 3 Cell word refl $
    sets ! (of_opd ! (load ! (through ! refl (fld ! refl (stop !))) (look_in ! 3 (sub ! 0 refl (whole !))))) refl (tt, tt) $ sets ! (of_opd ! (get ! refl)) refl (tt, tt) $
    first ! $ blocks ! $ sets_last ! (of_opd ! (load ! (through ! refl (stop !)) (look ! 0 refl))) refl ok $ exec ! 𝓣.C 𝓣.Λ (env code.Mir.locals l) (after 3 (code.function).body) (at_ret _ (W.post y)) $
    sets ! (of_opd ! (get ! refl)) refl ok $ assigns ! (of_opd ! (false_lit !)) (through ! refl (fld ! refl (stop !))) (store_in ! 3 (sub ! 1 refl (whole !)) (tt, tt)) $ sets ! (of_opd ! (get ! refl)) refl ok $
    forget ! 0 refl $ rewrite ! 0 (λ (p : Ptr). ‵ (room_at S p)) (sym e) refl $ move ! (2 ∷ []) $ drop ! $
    -- [room; the session; the slot's cell; the open borrow, in three entries]
    let us' : List Val = lowers.lowered (record h { at = block_ptr b' o'; full = false }) ∷ [] in nothing ! $ feq_i ! (List Val) (vbool false ∷ []) (vbool false ∷ []) refl $ fjoin ! $
    feq_i ! (List Val) (vptr b' o' ∷ []) (vptr b' o' ∷ []) refl $ fjoin ! $ feq_i ! (List Val) us' us' refl $ fjoin ! $
    fpack ! (Valss (owning.shape slot_type).fields) (within (owning.shape slot_type) (block_ptr b' o', (false, tt)) us') (vptr b' o' ∷ [], (vbool false ∷ [], tt)) $
    rewrite ! 0 (λ (p : Ptr). ‵ ((denote.Struct.Struct.Struct (owning.shape slot_type)).own_val (p, (false, tt)) us')) (sym e) refl $ fjoin ! $
    move ! (2 ∷ 0 ∷ 3 ∷ 4 ∷ 5 ∷ []) $ closes ! tt R (record h { full = false }) us' b o $ returns ! (look_at ! 0 refl) $ free_all ! refl $ move ! (4 ∷ []) $
    -- [the slot, in three parts; the token; the session]
    suffices ! _ (ends_at 𝓛 f.ended stayed c y u h.session (record h { full = false }, tt) (tt, tt)) $ says_two ! (refl, refl) $
    group ! 3 $ nothing ! $ move ! (1 ∷ 0 ∷ []) $ join ! $ nothing ! $ move ! (2 ∷ 0 ∷ []) $ join ! $ frame ! $ frame ! $ done !))))))))
