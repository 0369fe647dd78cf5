use Rattle.std.proofs.Common.{◌≡◌, ◌≤◌, ◌∙◌, Some, ◌-◌, ◌*◌, ◌^◌, ℕ, min, sym, ap, ap₂, arith}
use Rattle.std.specs.FinMap as map
use Rattle.std.proofs.lemmas.Nat.{mul-le}
use Rattle.volume_terms.specs.Sizes.{most_written, greatest_length}
use Rattle.posix_profile.specs.State.{File}
use Rattle.posix_profile.specs.laws.Write.{units_for, write_count_is}
use Rattle.object_store.specs.Facts.{bytes_of}
use Rattle.command_plans.specs.Tables.{handle_of}
use Rattle.command_plans.specs.laws.Room.{page_some, page_few}
use Rattle.object_commands.proofs.writing.write_count.Goals as goal

min_of_three : (a b n : ℕ) → min (min a b) n ≡ min a (min b n)
min_of_three a b n = omega arith

pub returns-clause-count : goal.returns-clause-count
returns-clause-count g c z s holds file same moment new within_limit =
    let h = handle_of c.args.description in
    let bytes = bytes_of (map.get s.objects c.args.description.object) in
    let is = c.sizes-sizes.ensures ∙ holds.has.sizes in
    let there : map.get s.objects c.args.description.object ≡ Some (File file.0 bytes) = file.2 ∙ ap (λ b. Some (File file.0 b)) (sym (ap bytes_of file.2)) in
    let offset = c.write_offset-offset.ensures bytes same in
    let most = c.most_written.ensures.value ∙ ap most_written is in
    let greatest = c.greatest_length.ensures.value ∙ ap greatest_length is in
    let units = c.units_for.ensures z s.objects c.args.description.object holds.has file same in
    let paged = c.page_bytes.ensures ∙ ap (λ z. z.page_bytes) is in
    let wide : c.page_bytes.result ≤ 4096 = omega (arith, paged, page_few z holds.has.numbers) in
    let product : c.units_for.result * c.page_bytes.result ≤ 2 ^ 28 * 4096 = mul-le _ _ (2 ^ 28) 4096 units.1 wide in
    let exact : c.saturating_mul-room.result ≡ c.units_for.result * c.page_bytes.result = omega (arith, c.saturating_mul-room.ensures) in
    let room : c.saturating_mul-room.result ≡ units_for z s.objects bytes * z.page_bytes = exact ∙ ap₂ (λ a b. a * b) units.0 paged in
    let last = c.saturating_sub-2.ensures ∙ ap₂ (λ a b. a - b) room offset in
    let far = c.saturating_sub.ensures ∙ ap₂ (λ a b. a - b) greatest offset in
    let all = c.min-most.ensures ∙ ap₂ min (c.min.ensures ∙ ap₂ min within_limit most) far ∙ min_of_three _ _ _ in
    c.min-2.ensures ∙ ap₂ min all last ∙ sym (write_count_is z moment s h file.0 bytes new (page_some z holds.has.numbers) holds.sound.fit there)
