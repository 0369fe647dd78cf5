use Rattle.std.proofs.Common.{◌≡◌, ◌∙◌, sym, ap, subst}
use Rattle.std.specs.Prelude.{true}
use Rattle.std.specs.FinMap as map
use Rattle.volume_terms.specs.Sizes.{root_number}
use Rattle.volume_terms.specs.VolumeSizes.{sizes_of}
use Rattle.posix_profile.specs.Charge.{fits}
use Rattle.posix_profile.specs.State.{Dir, Objects, Entries}
use Rattle.posix_profile.specs.laws.Fresh.{fresh, fresh_fits}
use Rattle.name_map.specs.NameEntries.{entries_in}
use Rattle.name_map.specs.laws.NameEntries.{empty_entries}
use Rattle.plain_volume.specs.PlainState.{objects_in}
use Rattle.plain_volume.specs.laws.PlainState.{empty_objects}
use Rattle.plain_volume.proofs.objects.store.PlainObjects.new.Goals as goal

pub invariant_of-result : goal.invariant_of-result
invariant_of-result c =
    let none : Objects = map.empty in
    let objects : objects_in c.put_object.new.objects ≡ fresh.objects =
    c.in_ok-put_object.ensures
    ∙ ap (λ (m : Objects). map.insert m root_number (Dir 0 (entries_in c.new.result))) (empty_objects c.new-objects.result c.new-objects.ensures.empty)
    ∙ ap (λ (es : Entries). map.insert none root_number (Dir 0 es)) (empty_entries c.new.result c.new.ensures.empty) in
    record { fit = subst (λ (o : Objects). fits (sizes_of c.args.sizes) o ≡ true) (sym objects) (fresh_fits (sizes_of c.args.sizes) c.requires) }

pub returns-clause-objects : goal.returns-clause-objects
returns-clause-objects c =
    let none : Objects = map.empty in
    c.in_ok-put_object.ensures
    ∙ ap (λ (m : Objects). map.insert m root_number (Dir 0 (entries_in c.new.result))) (empty_objects c.new-objects.result c.new-objects.ensures.empty)
    ∙ ap (λ (es : Entries). map.insert none root_number (Dir 0 es)) (empty_entries c.new.result c.new.ensures.empty)
