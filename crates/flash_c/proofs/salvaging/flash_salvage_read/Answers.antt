use Rattle.std.proofs.Common.{◌∙◌, ℤ, sym, ap, subst, refl, to_z, of_z, w32, w64}
use Rattle.std.proofs.lemmas.Int.{to_z-of_z}
use Rattle.salvage.specs.StateOf.{state}
use Rattle.flash_c.specs.Salvaging.{IsObjectRead, read_of}
use Rattle.flash_c.proofs.Salvages.{asked_in_place, empty_left}
use Rattle.flash_c.proofs.salvaging.flash_salvage_read.Goals as goal

pub returns-then-not-is_full : goal.returns-then-not-is_full
returns-then-not-is_full c = empty_left _ _ _ _ _ (sym c.is_full.ensures.full ∙ c.if-not-is_full.true) c.is_full.ensures.same
    (ap (λ (n : ℤ). to_z w64 (of_z w64 n)) (c.from.ensures ∙ ap (λ (n : ℤ). to_z w32 (of_z w32 n)) c.error_number.ensures.number)) refl

pub returns : goal.returns
returns c = asked_in_place _ _ _ _ c.session.result.now (record { salvage = c.read_left.new.left }) _ (sym c.is_full.ensures.full ∙ c.if-not-is_full.false) c.is_full.ensures.same c.session.ensures.session
    (subst (λ (n : ℤ). IsObjectRead (read_of c.args.file c.args.offset c.args.buffer.now n c.read_left.new.buffer) (state c.session.result.now.salvage) (state c.read_left.new.left))
    (sym (to_z-of_z w64 c.read_left.result (search (c.read_left.type_inv)))) c.read_left.ensures)
