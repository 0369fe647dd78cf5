use Rattle.posix_profile.specs.Names.{Reached}
use Rattle.volume_terms.specs.Sizes.{Sizes}
use Rattle.posix_profile.specs.State.{Objects, IsDirectory}
use Rattle.object_store.specs.Stores.{Has}
use Rattle.object_commands.proofs.Above.{Up}
use Rattle.object_commands.proofs.rename.is_below.Given as goal

-- so many steps up
abbrev pub invariant-loop-step : goal.invariant-loop-step
invariant-loop-step g l = (z : Sizes) (objects : Objects) → Has g.S.ObjectStore.meaning z objects l.store → IsDirectory objects l.fn.directory → Reached objects l.fn.directory
    → Up objects l.fn.number l.fn.directory l.here l.step
