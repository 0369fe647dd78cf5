use Rattle.std.proofs.Common.{◌∙◌, sym, ap, Some, ℕ}
use Rattle.std.specs.FinMap as map
use Rattle.std.specs.Ordering.{nat_cmp}
use Rattle.std.specs.Cmp.Lexicographic.{slice_cmp}
use Rattle.posix_profile.specs.State.{entries_of}
use Rattle.plain_volume.specs.PlainState.{object_of}
use Rattle.name_map.specs.laws.NameEntries.{len_entries}
use Rattle.plain_volume.proofs.state.links.entry_count.Goals as goal

pub returns-in-File : goal.returns-in-File
returns-in-File c = sym (map.len-empty (slice_cmp nat_cmp) ℕ) ∙ ap (λ x. map.len (entries_of (Some (object_of x)))) (sym c.in-File.is)

pub returns-in-Directory : goal.returns-in-Directory
returns-in-Directory c = c.len.ensures.len ∙ sym (len_entries c.in-Directory.entries c.len.ensures.ordered) ∙ ap (λ x. map.len (entries_of (Some (object_of x)))) (sym c.in-Directory.is)
