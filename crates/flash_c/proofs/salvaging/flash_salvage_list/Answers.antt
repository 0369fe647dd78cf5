use Rattle.std.proofs.Common.{◌∙◌, ℤ, sym, ap, subst, refl, to_z, of_z, w32, w64}
use Rattle.std.proofs.lemmas.Int.{to_z-of_z}
use Rattle.salvage.specs.StateOf.{state}
use Rattle.flash_c.specs.Salvaging.{IsObjectList, list_of}
use Rattle.flash_c.proofs.Salvages.{asked_in_place, empty_left}
use Rattle.flash_c.proofs.salvaging.flash_salvage_list.Goals as goal

pub returns-then-not-is_full : goal.returns-then-not-is_full
returns-then-not-is_full c = empty_left _ _ _ _ _ (sym c.is_full.ensures.full ∙ c.if-not-is_full.true) c.is_full.ensures.same
    (ap (λ (n : ℤ). to_z w64 (of_z w64 n)) (c.from.ensures ∙ ap (λ (n : ℤ). to_z w32 (of_z w32 n)) c.error_number.ensures.number)) refl

pub returns : goal.returns
returns c = asked_in_place _ _ _ _ c.session.result.now (record { salvage = c.list_left.new.left }) _ (sym c.is_full.ensures.full ∙ c.if-not-is_full.false) c.is_full.ensures.same c.session.ensures.session
    (subst (λ (n : ℤ). IsObjectList (list_of c.args.directory (c.args.buffer.now, c.args.lost.now) n (c.list_left.new.buffer, c.list_left.new.lost)) (state c.session.result.now.salvage) (state c.list_left.new.left))
    (sym (to_z-of_z w64 c.list_left.result (search (c.list_left.type_inv)))) c.list_left.ensures)
