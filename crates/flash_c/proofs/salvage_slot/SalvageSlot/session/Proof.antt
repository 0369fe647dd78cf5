-- `session` lends the session at the pointer, and the slot follows it. Assumes `Logic`.
use Rattle.flash_c.proofs.Steps.{◌≡◌, ℕ, Bool, true, List, [], ◌∷◌, refl, sym, ap, ◌∙◌, proved, named, no, Val, vptr, full_share, id⊢, ent, sep, Ura, Logic, sem, Fml, GName, fsep, ftrue, flft, fact, tables, ‵, raw, ◌⊛◌, some, later, at_ret, ◌$◌, ◌∵◌, !, qed, move, keep, split, split3, join, fsplit, fsplit3, fjoin, fpack, pick, await, use1, rewrite, frame, group, suffices, done, whole, sub, look_in, enter, returns, of_opd, load, addr, stop, fld, first, blocks, exec, alloc_all, pass_all, free_all, look_at, get, through, sets, sets_last, env, shows, cell_at, part_at, mem, RefMutOf, Ptr, block_ptr, lies_at, in_a_block, MutRef, mut_vals, mut_Tells, follows, lends_Part, plain, nothing, heard, peeks, opens, Stays, stay_dropped, walk_of, ends_at, Goes-spent_ref, says, after, Struct}
use denote.Memory.{part_of}
use denote.Struct.Owning as owning
use Rattle.flash_c.specs.SalvageHeld.{held}
use Rattle.flash_c.specs.SalvageLending.{with_session}
use Rattle.flash_c.specs.declared.salvage_session.SalvageSession.{SalvageSession}
use Rattle.flash_c.specs.declared.salvage_slot.SalvageSlot.{SalvageSlot}
use Rattle.flash_c.specs.contracts.salvage_session.SalvageSession.{the_row as S}
use Rattle.flash_c.specs.contracts.salvage_slot.SalvageSlot.{the_row as R, the_type as slot_type}
use Rattle.flash_c.proofs.salvage_slot.SalvageSlot.TheLaws.{lowers}
use Rattle.flash_c.specs.contracts.salvage_slot.SalvageSlot.session as f
use Rattle.flash_c.proofs.salvage_slot.SalvageSlot.session.Statement.{statement}
use Rattle.flash_c.proofs.salvage_slot.SalvageSlot.session.Code as code

abbrev stayed : Stays f.ended.signature.params f.ended.kept
stayed = (stay_dropped (RefMutOf (0 ∷ []) tt (plain (λ _. R)) (λ _. tt)) no, tt)

-- all of the slot but its session
abbrev Rest : SalvageSlot → List Val → ℕ → ℕ → Fml
Rest h us b o = fsep (cell_at full_share R.mir us b o) ((Struct (owning.shape slot_type)).own_val (h.at, (h.full, tt)) us)

back : {M : Type 1} {𝓤 : Ura M} (𝓛 : Logic 𝓤) (h : SalvageSlot) (us : List Val) (b o b' o' : ℕ) → h.full ≡ true → h.at ≡ block_ptr b' o' → (w : SalvageSession)
    → ent 𝓤 (sep 𝓤 (sem 𝓛 ((mem S).own_at w b' o')) (sem 𝓛 (Rest h us b o))) (sem 𝓛 ((mem R).own_at (with_session h w) b o))
unfolding part_of
back 𝓛 h us b o b' o' full e w =
    qed 𝓛 (‵ (part_at S full_share w b' o') ∷ ‵ (Rest h us b o) ∷ []) ∵ rewrite ! 0 (λ (p : Ptr). ‵ (lies_at S full_share p w)) (sym e) refl $
    rewrite ! 0 (λ (t : Bool). ‵ (held t h.at w)) (sym full) refl $ move ! (1 ∷ []) $ fsplit ! $ move ! (1 ∷ 2 ∷ 0 ∷ []) $ fjoin ! $ move ! (1 ∷ 0 ∷ []) $ fjoin ! $
    fpack ! (List Val) (λ vs. fsep (cell_at full_share R.mir vs b o) (R.own_val (with_session h w) vs)) us $ done !

pub session_spec : {M : Type 1} → statement M
session_spec 𝓤 𝓛 𝓜 𝓡 wired =
    let c = f.clauses 𝓛 𝓜.mem 𝓡.returns in let W = walk_of 𝓛 f.ended stayed c in let 𝓣 = tables 𝓤 𝓛.H 𝓜 𝓡 𝓡.env in proved 𝓛 f.ended stayed c 𝓜 𝓡 (Goes-spent_ref 𝓛 1 (0 ∷ []) tt (plain (λ _. R)), tt)
    f.Key.name code.function (code.unfolded 𝓤 𝓛.H 𝓜 𝓡 wired) (λ κs. (mut_vals, tt)) (λ κs. (mut_Tells (named 0) κs.0 R, tt)) (λ κs qs bounds a _ are.
    let b = a.0.ref_ptr.0 in let o = a.0.ref_ptr.1 in let γ = a.0.ghost_name in let h = a.0.now in let vs = mut_vals a.0 in let y : W.Ghost = ((κs, qs, bounds, a, (vs, tt)), tt) in
    qed 𝓛 (((‵ (flft κs.0 qs.0) ⊛ ‵ ftrue) ⊛ ‵ ((MutRef (named 0) κs.0 R).own_val a.0 vs) ⊛ ‵ ftrue) ∷ raw (fact 𝓤 (h.full ≡ true)) ∷ []) ∵ move ! (1 ∷ []) $ heard ! (h.full ≡ true) (λ full.
    split ! $ split ! $ move ! (2 ∷ []) $ split ! $ keep ! (0 ∷ 2 ∷ []) $ enter ! _ _ _ _ _ $ alloc_all ! (λ l. pass_all ! refl ((tt, tt), tt) $ fsplit3 ! $ move ! (1 ∷ 2 ∷ 3 ∷ []) $ opens ! tt R b o (λ us.
    move ! (1 ∷ []) $ peeks ! R _ (shows 𝓛 R) h us (λ is. fsplit ! $ move ! (1 ∷ []) $ rewrite ! 0 (λ (t : Bool). ‵ (held t h.at h.session)) full refl $ in_a_block ! h.at (λ p. lies_at S full_share p h.session) (id⊢ 𝓤 _) (λ b' o' e.
    let word = lowers.val_is h us is ∙ ap (λ (p : Ptr). lowers.lowered (record h { at = p }) ∷ []) e in let Cell = λ (ws : List Val). ‵ (cell_at full_share R.mir ws b o) in rewrite ! 2 Cell word refl $
    sets ! (of_opd ! (load ! (through ! refl (fld ! refl (stop !))) (look_in ! 2 (sub ! 0 refl (whole !))))) refl (tt, tt) $ sets ! (of_opd ! (get ! refl)) refl (tt, tt) $
    first ! $ blocks ! $ sets_last ! (addr ! (through ! refl (stop !))) refl (tt, tt) $ exec ! 𝓣.C 𝓣.Λ (env code.Mir.locals l) (after 3 (code.function).body) (at_ret _ (W.post y)) $
    sets ! (of_opd ! (get ! refl)) refl (tt, tt) $ rewrite ! 2 Cell (sym word) refl $
    -- [the session; the slot's fields; the slot's cell; the open borrow, in three entries]
    move ! (2 ∷ 1 ∷ []) $ fjoin ! $ move ! (2 ∷ 3 ∷ 4 ∷ 1 ∷ 0 ∷ []) $ group ! 5 $
    use1 𝓛 (later (some (λ (δ : GName). ‵ ((MutRef (named 0) κs.0 S).own_val (record { ref_ptr = (b', o'); ghost_name = δ; now = h.session }) (vptr b' o' ∷ [])) ⊛ ‵ (flft κs.0 qs.0) ⊛ ‵ (follows R S γ δ (with_session h)))))
    (lends_Part 𝓛 R S (with_session h) (named 0) κs.0 qs.0 b o b' o' γ (sem 𝓛 (Rest h us b o)) (back 𝓛 h us b o b' o' full e) (R.coded.code h) (R.coded.code h) h.session) $ await ! tt $ pick ! (λ δ. split3 ! $
    returns ! (look_at ! 0 refl) $ free_all ! refl $ keep ! (0 ∷ 1 ∷ 2 ∷ []) $
    -- [the lent reference; the token; what the slot follows]
    suffices ! _ (ends_at 𝓛 f.ended stayed c y (vptr b' o') (record { ref_ptr = (b', o'); ghost_name = δ; now = h.session }) (tt, tt) (tt, tt)) $
    nothing ! $ nothing ! $ fjoin ! $ join ! $ nothing ! $ move ! (2 ∷ 0 ∷ []) $ join ! $ join ! $ frame ! $ says ! refl $ done !)))))))
