use Rattle.std.proofs.Common.{◌∙◌, sym, ap}
use Rattle.std.specs.Prelude.{Some}
use Rattle.std.specs.FinMap as map
use Rattle.std.specs.Ordering.{nat_cmp}
use Rattle.std.specs.Cmp.Lexicographic.{slice_cmp}
use Rattle.posix_profile.specs.State.{entries_of}
use Rattle.plain_volume.specs.PlainState.{object_of}
use Rattle.name_map.specs.laws.NameEntries.{get_entry, option_map_same}
use Rattle.plain_volume.proofs.state.links.entry_of.Goals as goal

pub returns-in-File : goal.returns-in-File
returns-in-File c = sym (map.get-empty (slice_cmp nat_cmp) c.args.name.now) ∙ ap (λ x. map.get (entries_of (Some (object_of x))) c.args.name.now) (sym c.in-File.is)

pub returns-in-Directory : goal.returns-in-Directory
returns-in-Directory c = c.copied.ensures ∙ c.get.ensures.value ∙ sym (option_map_same _) ∙ sym (get_entry c.in-Directory.entries c.args.name.now)
    ∙ ap (λ x. map.get (entries_of (Some (object_of x))) c.args.name.now) (sym c.in-Directory.is)
