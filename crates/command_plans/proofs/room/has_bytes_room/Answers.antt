use Rattle.std.proofs.Common.{◌≡◌, ◌∙◌, Some, ap, ap₂, sym, nat_le}
use Rattle.std.specs.FinMap as map
use Rattle.volume_terms.specs.Rounding.{ceiling}
use Rattle.posix_profile.specs.State.{File}
use Rattle.object_store.specs.Facts.{bytes_of}
use Rattle.command_plans.specs.laws.Room.{bytes_fit}
use Rattle.command_plans.proofs.room.has_bytes_room.Goals as goal

pub returns : goal.returns
returns g c z objects has file moment new many =
    let bytes = bytes_of (map.get objects c.args.file) in
    let there : map.get objects c.args.file ≡ Some (File file.0 bytes) = file.2 ∙ ap (λ b. Some (File file.0 b)) (sym (ap bytes_of file.2)) in
    let own = c.units_of.ensures ∙ ap₂ ceiling many (ap (λ z. z.page_bytes) (c.sizes.ensures ∙ has.sizes)) in
    ap₂ nat_le own (c.units_for.ensures z objects c.args.file has file (c.length.ensures z objects has)).0 ∙ bytes_fit z objects moment c.args.file file.0 bytes new there has.fit
