use Rattle.std.proofs.Common.{◌∙◌, ◌+◌, ◌<◌, sym, ap, arith}
use Rattle.volume_terms.specs.Sizes.{page_slots}
use Rattle.posix_profile.specs.Charge.{cost}
use Rattle.name_map.specs.NameEntries.{entries_in}
use Rattle.name_map.specs.laws.NameEntries.{len_entries}
use Rattle.plain_volume.specs.PlainState.{object_of}
use Rattle.volume_terms.specs.VolumeSizes.{sizes_of}
use Rattle.std.specs.FinMap as map
use Rattle.plain_volume.specs.laws.PlainState.{ceiling_at}
use Rattle.plain_volume.proofs.state.charge.cost.Goals as goal

pub returns-in-Directory : goal.returns-in-Directory
returns-in-Directory c =
    let many = c.len-in-Directory.ensures.len ∙ sym (len_entries c.in-Directory.entries c.len-in-Directory.ensures.ordered) in
    let some : 0 < page_slots (sizes_of c.args.sizes) = omega (arith, c.args.sizes.least_page) in
    ap (λ n. 1 + n) (ceiling_at c.div_ceil-in-Directory.result c.len-in-Directory.result (map.len (entries_in c.in-Directory.entries)) c.page_slots.result (page_slots (sizes_of c.args.sizes))
    c.div_ceil-in-Directory.ensures many c.page_slots.ensures some)
    ∙ ap (λ x. cost (sizes_of c.args.sizes) (object_of x)) (sym c.in-Directory.is)
