-- `put` writes the session to the room at the pointer. Assumes `Logic`.
use Rattle.flash_c.proofs.Steps.{◌≡◌, Bool, true, false, List, [], ◌∷◌, ◌++◌, refl, sym, ap, subst, ◌∙◌, proved_at, named, Val, vunit, vptr, vbool, full_share, SProp, id⊢, ftrue, flft, WpFn, fact, tables, ‵, raw, ◌⊛◌, prop, at_ret, ◌$◌, ◌∵◌, !, qed, move, keep, drop, split, join, fsplit, fsplit3, fjoin, fpack, feq_i, use2, rewrite, regoal, frame, group, suffices, done, whole, sub, look_in, store_in, enter, returns, of_opd, unit_lit, true_lit, load, stop, fld, first, blocks, exec, assigns, assigns_last, init, alloc_all, pass_all, free_all, look_at, get, through, sets, env, part_in, yes, rest, shows, Typed, cell_at, part_at, RattleType, Valss, owns, Ptr, block_ptr, lies_at, room_at, in_a_block, mut_vals, mut_Tells, plain, types_at, nothing, heard, peeks, opens, closes, only, Lone, Struct, within, Stays, stay_ref, stay_dropped, walk_of, ends_at, Goes-ref, says_two, after}
use denote.Struct.Owning as owning
use Rattle.flash_c.proofs.salvage_slot.SalvageSlot.put.Kinds as kinds
use Rattle.flash_c.specs.SalvageHeld.{held}
use Rattle.flash_c.specs.contracts.salvage_session.SalvageSession as session
use Rattle.flash_c.proofs.salvage_session.SalvageSession.TheLaws as session_laws
use Rattle.flash_c.specs.contracts.salvage_slot.SalvageSlot.{the_row as R, the_type as slot_type}
use Rattle.flash_c.proofs.salvage_slot.SalvageSlot.TheLaws.{lowers}
use Rattle.flash_c.specs.contracts.salvage_slot.SalvageSlot.put as f
use Rattle.flash_c.proofs.salvage_slot.SalvageSlot.put.Statement.{statement}
use Rattle.flash_c.proofs.salvage_slot.SalvageSlot.put.Code as code

Lone-is : (vs : List Val) → Lone vs → vs ≡ only vs ∷ []
Lone-is [] l = absurd l
Lone-is (v ∷ []) l = refl
Lone-is (v ∷ u ∷ us) l = absurd l

abbrev HasTwo : {A : Type 3} → List A → Type 0
HasTwo [] = ⊥
HasTwo (x ∷ []) = ⊥
HasTwo (x ∷ y ∷ ys) = Unit {0}

abbrev second : {A : Type 3} (xs : List A) → HasTwo xs → A
second [] t = absurd t
second (x ∷ []) t = absurd t
second (x ∷ y ∷ ys) t = y

abbrev stayed : Stays f.ended.signature.params f.ended.kept
stayed = (stay_ref (0 ∷ []) tt (plain (λ _. R)), (stay_dropped (plain (λ _. session.the_row)) yes, tt))

pub put_spec : {M : Type 1} → statement M
put_spec 𝓤 𝓛 𝓜 𝓡 wired =
    let c = f.clauses 𝓛 𝓜.mem 𝓡.returns in let 𝓣 = tables 𝓤 𝓛.H 𝓜 𝓡 𝓡.env in let S : RattleType = session.the_row in proved_at 𝓛 f.ended stayed c 𝓜 𝓡 (Goes-ref 𝓛 1 0 tt (plain (λ _. R)), (((second kinds.ps tt).laws _ 𝓤 𝓛).goes, tt))
    f.Key.name code.function (code.unfolded 𝓤 𝓛.H 𝓜 𝓡 wired) (λ z are. let κs = z.0.0 in let qs = z.0.1 in let a = z.0.3 in let vss = z.0.4 in let b = a.0.ref_ptr.0 in let o = a.0.ref_ptr.1 in let h = a.0.now in let x = a.1.0 in
    let Post : Val → SProp 𝓤 = (walk_of 𝓛 f.ended stayed c).post z in let u : Val = only vss.1.0 in let loose = session_laws.the_row_laws in let eq0 : vss.0 ≡ mut_vals a.0 = mut_Tells (named 0) κs.0 R a.0 vss.0 are.0 in
    let eq1 : vss.1.0 ≡ u ∷ [] = Lone-is vss.1.0 (loose.single x vss.1.0 are.1.0) in let tu = (subst (Typed (S.mir)) eq1 ((loose.lawful 𝓛).typed x vss.1.0 are.1.0)).0 in
    qed 𝓛 (((‵ (flft κs.0 qs.0) ⊛ ‵ ftrue) ⊛ ‵ (owns (types_at f.ended.signature.params κs) a vss)) ∷ raw (fact 𝓤 (h.full ≡ false)) ∷ []) ∵ move ! (1 ∷ []) $ heard ! (h.full ≡ false) (λ empty.
    regoal ! (λ (ws : List Val). prop (WpFn 𝓤 𝓛.H 𝓣.C 𝓣.Λ code.function (ws ++ (vss.1.0 ++ [])) Post)) eq0 refl $ regoal ! (λ (ws : List Val). prop (WpFn 𝓤 𝓛.H 𝓣.C 𝓣.Λ code.function (mut_vals a.0 ++ (ws ++ [])) Post)) eq1 refl $
    split ! $ split ! $ move ! (2 ∷ []) $ fsplit ! $ move ! (1 ∷ []) $ fsplit ! $ rewrite ! 0 (λ (ws : List Val). ‵ (S.own_val x ws)) eq1 refl $ keep ! (2 ∷ 3 ∷ 0 ∷ []) $
    enter ! 𝓣.C 𝓣.Λ code.function (vptr b o ∷ u ∷ []) Post $ alloc_all ! (λ l. pass_all ! refl ((tt, tt), (tu, tt)) $ fsplit3 ! $ move ! (1 ∷ 2 ∷ 3 ∷ []) $ opens ! tt R b o (λ us.
    move ! (1 ∷ []) $ peeks ! R _ (shows 𝓛 R) h us (λ is. fsplit ! $ move ! (1 ∷ []) $ rewrite ! 0 (λ (t : Bool). ‵ (held t h.at h.session)) empty refl $ in_a_block ! h.at (λ p. room_at S p) (id⊢ 𝓤 _) (λ b' o' e.
    let word = lowers.val_is h us is ∙ ap (λ (p : Ptr). lowers.lowered (record h { at = p }) ∷ []) e in rewrite ! 2 (λ (ws : List Val). ‵ (cell_at full_share R.mir ws b o)) word refl $
    sets ! (of_opd ! (load ! (through ! refl (fld ! refl (stop !))) (look_in ! 2 (sub ! 0 refl (whole !))))) refl (tt, tt) $ sets ! (of_opd ! (get ! refl)) refl (tt, tt) $
    first ! $ blocks ! $ sets ! (of_opd ! (get ! refl)) refl tu $ assigns_last ! (of_opd ! (get ! refl)) (through ! refl (stop !)) (init ! 0 refl tu) $ exec ! 𝓣.C 𝓣.Λ (env code.Mir.locals l) (after 3 (code.function).body) (at_ret _ Post) $
    assigns ! (of_opd ! (true_lit !)) (through ! refl (fld ! refl (stop !))) (store_in ! 2 (sub ! 1 refl (whole !)) (tt, tt)) $ sets ! (of_opd ! (unit_lit !)) refl (tt, tt) $
    -- [the cell of the session; the slot's fields; the slot's cell; the open borrow, in three entries; the slot's first part; the session]
    move ! (0 ∷ 7 ∷ []) $ use2 𝓛 (‵ (part_at S full_share x b' o')) (part_in 𝓛 S refl full_share x b' o' u) $ rewrite ! 0 (λ (p : Ptr). ‵ (lies_at S full_share p x)) (sym e) refl $ move ! (1 ∷ []) $ drop ! $
    let us' : List Val = lowers.lowered (record h { at = block_ptr b' o'; full = true }) ∷ [] in nothing ! $ feq_i ! (List Val) (vbool true ∷ []) (vbool true ∷ []) refl $ fjoin ! $
    feq_i ! (List Val) (vptr b' o' ∷ []) (vptr b' o' ∷ []) refl $ fjoin ! $ feq_i ! (List Val) us' us' refl $ fjoin ! $
    fpack ! (Valss (owning.shape slot_type).fields) (within (owning.shape slot_type) (block_ptr b' o', (true, tt)) us') (vptr b' o' ∷ [], (vbool true ∷ [], tt)) $
    rewrite ! 0 (λ (p : Ptr). ‵ ((Struct (owning.shape slot_type)).own_val (p, (true, tt)) us')) (sym e) refl $ fjoin ! $ move ! (1 ∷ 0 ∷ 2 ∷ 3 ∷ 4 ∷ []) $ closes ! tt R (record h { full = true; session = x }) us' b o $
    returns ! (look_at ! 0 refl) $ free_all ! refl $ move ! (3 ∷ []) $
    -- [the slot, in three parts; the token]
    suffices ! _ (ends_at 𝓛 f.ended stayed c z vunit tt (record h { full = true; session = x }, (rest (S.exit yes) x, tt)) (tt, (tt, tt))) $ says_two ! (refl, refl) $
    group ! 3 $ nothing ! $ nothing ! $ join ! $ move ! (1 ∷ 0 ∷ []) $ join ! $ nothing ! $ move ! (2 ∷ 0 ∷ []) $ join ! $ frame ! $ frame ! $ feq_i ! _ (vunit ∷ []) _ refl $ done !))))))
