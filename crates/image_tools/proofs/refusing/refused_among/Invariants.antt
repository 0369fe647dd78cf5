use Rattle.std.proofs.Common.{◌≡◌, ◌↔◌, [], All, take}
use Rattle.image_tools.specs.Folders.{entry_of}
use Rattle.image_tools.specs.Refusing.{CanHave}
use Rattle.image_tools.proofs.refusing.refused_among.Given as goal

-- none is refused so far exactly where the volume can have all so far
abbrev pub invariant-loop-entry : goal.invariant-loop-entry
invariant-loop-entry l = (l.refused.items ≡ []) ↔ All (λ entry. CanHave l.greatest (entry_of entry)) (take l.entry-index l.entries)
