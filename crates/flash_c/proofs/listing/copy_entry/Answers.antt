use Rattle.std.proofs.Common.{◌≡◌, ◌+◌, ◌-◌, ◌∷◌, ◌++◌, ◌∙◌, ℕ, List, length, take, drop, ap, subst, arith}
use borrow.Rule.Slice.PartMut.{put_mid}
use Rattle.flash_c.specs.Salvaged.{object_bytes}
use Rattle.flash_c.proofs.EntryBytes.{length-entry, length-object, with_entry}
use Rattle.flash_c.proofs.listing.copy_entry.Goals as goal

pub slice_bounds-copy_from_slice-end : goal.slice_bounds-copy_from_slice-end
slice_bounds-copy_from_slice-end c = let whole = length-entry c.args.entry.now in omega (arith, c.requires, whole)

pub returns : goal.returns
returns c =
    let at : ℕ = c.args.at in
    let put : List ℕ → List ℕ = put_mid at (at + 8 - at) c.args.buffer.now in
    let one : List ℕ = put c.copy_from_slice.new.self in
    with_entry c.args.buffer.now (object_bytes c.args.entry.now.object) c.args.entry.now.name.items one c.copy_name.new.buffer at (length-object c.args.entry.now.object) c.requires
    (ap put (c.copy_from_slice.ensures.after ∙ c.object_bytes.ensures))
    (subst (λ (name : List ℕ). c.copy_name.new.buffer ≡ take (at + 8) one ++ (name ++ (0 ∷ drop (at + 8 + length name + 1) one))) c.deref.ensures.value c.copy_name.ensures)
