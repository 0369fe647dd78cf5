use Rattle.std.proofs.Common.{◌≡◌, ◌∙◌, sym, ap, Some}
use Rattle.std.proofs.lemmas.Result.{IfOk-weaker}
use Rattle.posix_profile.specs.State.{entries_of}
use Rattle.name_map.specs.NameEntries.{entries_in}
use Rattle.name_map.specs.laws.NameEntries.{empty_entries}
use Rattle.plain_volume.specs.PlainState.{object_of}
use Rattle.plain_volume.proofs.state.change.entries_of.Goals as goal

pub returns-in-File : goal.returns-in-File
returns-in-File c = empty_entries c.new.result c.new.ensures.empty ∙ ap (λ x. entries_of (Some (object_of x))) (sym c.in-File.is)

pub returns-in-Directory : goal.returns-in-Directory
returns-in-Directory c = IfOk-weaker c.copy_entries.result _ (λ entries. entries_in entries ≡ entries_of (Some (object_of c.args.object.now)))
    (λ e h. h ∙ ap (λ x. entries_of (Some (object_of x))) (sym c.in-Directory.is)) c.copy_entries.ensures
