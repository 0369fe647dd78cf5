use Rattle.std.proofs.Common.{◌≡◌, map as list_map, drop}
use Rattle.posix_profile.specs.Paths.{component, walk_from_root}
use Rattle.volume_terms.specs.Sizes.{Sizes}
use Rattle.posix_profile.specs.State.{Objects, IsDirectory}
use Rattle.object_store.specs.Stores.{Has}
use Rattle.command_plans.specs.Paths.{last_of}
use Rattle.command_plans.proofs.Walks.{going}
use Rattle.command_plans.proofs.path.walk.walk.Given as goal

-- the walk over what is left leads where that over all does
abbrev pub invariant-loop-part : goal.invariant-loop-part
invariant-loop-part g l = record {
  reads : g.S.ObjectStore.meaning.reads l.fn.store l.store;
  power : g.S.ObjectStore.meaning.has_power l.store ≡ g.S.ObjectStore.meaning.has_power l.fn.store;
  there : (z : Sizes) (objects : Objects) → Has g.S.ObjectStore.meaning z objects l.fn.store → IsDirectory objects l.directory;
  goes : (z : Sizes) (objects : Objects) → Has g.S.ObjectStore.meaning z objects l.fn.store → going objects l.slash_follows l.directory (last_of l.last) (list_map (λ part. component part.now) (drop l.part-index l.parts))
      ≡ walk_from_root objects l.fn.slash_follows (list_map (λ part. component part.now) l.fn.parts);
}
