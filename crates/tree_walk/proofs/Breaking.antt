-- What breaks a rule is wrong with the tree.
use Rattle.std.specs.Prelude.{◌≡◌, ℕ}
use Rattle.std.proofs.Common.{refl, sym, subst, inl, inr}
use Rattle.page_tags.specs.Headers.{Fields}
use Rattle.page_tags.specs.declared.header.ObjectKind.TheVariants as kinds
use Rattle.flash_tree.specs.Mount.{IsDamaged, LacksSlots}
use Rattle.flash_tree.specs.Tree.{NewestMap, HasHeader}
use Rattle.flash_tree.specs.declared.place.Key.{Key}
use Rattle.volume_terms.specs.Sizes.{Sizes}
use Rattle.tree_walk.specs.Broken.{Breaks, BreaksSlots, wrong_of}
use Rattle.tree_walk.specs.declared.broken.Rule.{Rule}
use Rattle.tree_walk.specs.declared.broken.Rule.TheVariants as rules

module _ (z : Sizes) (m : NewestMap) (count : ℕ) (key : Key) where
  -- a directory whose slots break a rule lacks one
  pub lacks_slots : (rule : Rule) → BreaksSlots z m count key rule → LacksSlots z m key.object count
  lacks_slots rules.ChunkMissing (none, (i, within, chunk)) = inl (i, within, λ e s. none s.0 (subst (λ c. m key.object c s.0) (sym chunk) s.1))
  lacks_slots (rules.NoSlot place) (i, at, lacks) = inl (i, at.within, lacks.none)
  lacks_slots (rules.NameTwice place) (i, at, e) = inr (e.j, i, e.earlier, at.within, e.first, e.second, e.first_is, e.second_is, e.same)
  lacks_slots rules.HeaderMissing b = absurd b
  lacks_slots (rules.NoHeader fault) b = absurd b
  lacks_slots rules.RootIsFile b = absurd b
  lacks_slots (rules.TooManySpare spare) b = absurd b
  lacks_slots rules.DirectoryTwice b = absurd b

  -- and is damaged
  pub slots_damage : (rule : Rule) → BreaksSlots z m count key rule → wrong_of rule ≡ IsDamaged
  slots_damage rules.ChunkMissing b = refl
  slots_damage (rules.NoSlot place) b = refl
  slots_damage (rules.NameTwice place) b = refl
  slots_damage rules.HeaderMissing b = refl
  slots_damage (rules.NoHeader fault) b = absurd b
  slots_damage rules.RootIsFile b = refl
  slots_damage (rules.TooManySpare spare) b = refl
  slots_damage rules.DirectoryTwice b = refl

-- what the slots of a directory break the tree breaks
pub slots_break : (z : Sizes) (m : NewestMap) (key : Key) (f : Fields) → HasHeader z m key.object f → f.kind ≡ kinds.Directory → (rule : Rule)
    → BreaksSlots z m f.length key rule → Breaks z m key rule
slots_break z m key f has kind rules.ChunkMissing (none, i) = (none, (f, has, inr (inr (kind, i))))
slots_break z m key f has kind (rules.NoSlot place) b = (f, has, kind, b)
slots_break z m key f has kind (rules.NameTwice place) b = (f, has, kind, b)
slots_break z m key f has kind rules.HeaderMissing b = absurd b
slots_break z m key f has kind (rules.NoHeader fault) b = absurd b
slots_break z m key f has kind rules.RootIsFile b = absurd b
slots_break z m key f has kind (rules.TooManySpare spare) b = absurd b
slots_break z m key f has kind rules.DirectoryTwice b = absurd b
