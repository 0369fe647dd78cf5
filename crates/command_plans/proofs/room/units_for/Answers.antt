use Rattle.std.proofs.Common.{◌≡◌, ◌≤◌, ◌∙◌, ◌+◌, ◌-◌, ◌^◌, Some, length, ap, ap₂, sym, subst, arith}
use Rattle.std.specs.FinMap as map
use Rattle.posix_profile.specs.Charge.{charge}
use Rattle.volume_terms.specs.Rounding.{ceiling}
use Rattle.volume_terms.specs.Sizes.{capacity}
use Rattle.posix_profile.specs.State.{File}
use Rattle.object_store.specs.Facts.{bytes_of}
use Rattle.command_plans.specs.laws.Room.{units_few}
use Rattle.command_plans.proofs.room.units_for.Goals as goal

pub returns : goal.returns
returns g c z objects number has file same =
    let bytes = bytes_of (map.get objects number) in
    let there : map.get objects number ≡ Some (File file.0 bytes) = file.2 ∙ ap (λ b. Some (File file.0 b)) (sym (ap bytes_of file.2)) in
    let within_limit : capacity z - charge z objects + ceiling (length bytes) z.page_bytes ≤ 2 ^ 28 = units_few z objects number bytes has.numbers (has.forest.each number (File file.0 bytes) there).content.1 in
    let own = c.units_of.ensures ∙ ap₂ ceiling same (ap (λ z. z.page_bytes) (c.sizes.ensures ∙ has.sizes)) in
    let free = c.free_units.ensures z objects has in
    let all : c.saturating_add.result ≡ capacity z - charge z objects + ceiling (length bytes) z.page_bytes = omega (arith, c.saturating_add.ensures, own, free, within_limit) in
    (all, subst (λ n. n ≤ 2 ^ 28) (sym all) within_limit)
