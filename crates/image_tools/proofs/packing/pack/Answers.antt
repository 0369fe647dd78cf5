use Rattle.std.proofs.Common.{◌≡◌, ◌∙◌, sym, ap, subst, refl}
use Rattle.std.proofs.Common.{map as list_map}
use Rattle.image_tools.specs.Folders.{IsFolder, entries_of, entry_of}
use Rattle.image_tools.proofs.Going.{leaves}
use Rattle.image_tools.proofs.packing.pack.Goals as goal

pub returns-then-same_entries : goal.returns-then-same_entries
returns-then-same_entries g c =
    let same : entries_of c.in_ok-made.made ≡ entries_of c.args.folder.now =
    ap (λ k. list_map entry_of k) (sym c.deref-2.ensures.value) ∙ c.if-same_entries.ensures.0 refl ∙ ap (λ k. list_map entry_of k) c.deref-3.ensures.value in
    leaves g.V.Answers.shows c.args.volume.now c.make.new.volume c.unpack.new.volume (λ objects. IsFolder objects (entries_of c.args.folder.now)) c.in_ok-make.ensures
    (λ z read_only s shown. let reported = c.in_ok-made.ensures z read_only s shown in (subst (λ entries. IsFolder s.objects entries) same reported.0, reported.1))
