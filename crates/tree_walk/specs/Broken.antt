-- Which rules of a tree a flash breaks, and where.
use Rattle.std.specs.Prelude.{◌≡◌, ◌⊎◌, ◌<◌, ℕ, ◌+◌, ◌/◌, ◌%◌, List, [], ◌∷◌, Some, slice_get}
use Rattle.page_tags.specs.Headers.{Fields}
use Rattle.page_tags.specs.Slots.{Entry}
use Rattle.page_tags.specs.declared.header.ObjectKind.TheVariants as kinds
use Rattle.flash_tree.specs.Tree.{NewestMap, HasHeader, SlotIs, LooksUp}
use Rattle.flash_tree.specs.Mount.{Wrong, IsDamaged, wrong_by, HasNone, HasHeaderFault, Stops, Leads, Finds, with_new, Wholly, GoesThrough, NamesTwice}
use Rattle.flash_tree.specs.declared.place.Key.{Key}
use Rattle.pages.specs.Maps.{PageMap, has}
use Rattle.volume_terms.specs.Sizes.{Sizes, page_slots, root_number}
use Rattle.tree_walk.specs.declared.broken.Broken.{Broken}
use Rattle.tree_walk.specs.declared.broken.Rule.{Rule}
use Rattle.tree_walk.specs.declared.broken.Rule.TheVariants as rules

-- what a broken rule is to a mount: a newer format, or damage
abbrev pub wrong_of : Rule → Wrong
wrong_of rules.HeaderMissing = IsDamaged
wrong_of (rules.NoHeader fault) = wrong_by fault
wrong_of rules.RootIsFile = IsDamaged
wrong_of (rules.TooManySpare spare) = IsDamaged
wrong_of rules.ChunkMissing = IsDamaged
wrong_of (rules.NoSlot place) = IsDamaged
wrong_of (rules.NameTwice place) = IsDamaged
wrong_of rules.DirectoryTwice = IsDamaged

-- the key of the header of an object
abbrev pub header_of : ℕ → Key
header_of object = record { object = object; chunk = 0 }

-- slot i is one of so many, and is in this place of this chunk
pub record IsSlotAt (z : Sizes) (count chunk place i : ℕ) : Type 0 where
  pub within : i < count
  pub in_chunk : chunk ≡ 1 + i / page_slots z
  pub at : place ≡ i % page_slots z

-- slot i of a directory has a name that an earlier one has
pub record IsNamedEarlier (z : Sizes) (m : NewestMap) (d i : ℕ) : Type 0 where
  pub j : ℕ
  pub earlier : j < i
  pub first : Entry
  pub second : Entry
  pub first_is : SlotIs z m d j first
  pub second_is : SlotIs z m d i second
  pub same : first.name ≡ second.name

-- no entry is in slot i of a directory, whose page is there
pub record IsNoSlot (z : Sizes) (m : NewestMap) (key : Key) (i : ℕ) : Type 0 where
  pub page : List ℕ
  pub there : m key.object key.chunk page
  pub none : (entry : Entry) → SlotIs z m key.object i entry → ⊥

-- the first slots of a directory, of so many, break the rule in this chunk
abbrev pub BreaksSlots : Sizes → NewestMap → (count : ℕ) → Key → Rule → Type 0
BreaksSlots z m count key rules.ChunkMissing = HasNone m key.object key.chunk × ((i : ℕ) × (i < count) × (key.chunk ≡ 1 + i / page_slots z))
BreaksSlots z m count key (rules.NoSlot place) = (i : ℕ) × IsSlotAt z count key.chunk place i × IsNoSlot z m key i
BreaksSlots z m count key (rules.NameTwice place) = (i : ℕ) × IsSlotAt z count key.chunk place i × IsNamedEarlier z m key.object i
BreaksSlots z m count key rules.HeaderMissing = ⊥
BreaksSlots z m count key (rules.NoHeader fault) = ⊥
BreaksSlots z m count key rules.RootIsFile = ⊥
BreaksSlots z m count key (rules.TooManySpare spare) = ⊥
BreaksSlots z m count key rules.DirectoryTwice = ⊥

-- a directory's slots break the rule in this chunk
abbrev pub BreaksDirectory : Sizes → NewestMap → Key → Rule → Type 0
BreaksDirectory z m key rule = (f : Fields) × HasHeader z m key.object f × (f.kind ≡ kinds.Directory) × BreaksSlots z m f.length key rule

-- the first slots of the directory, of so many, break the rule
abbrev pub IsBrokenIn : Sizes → PageMap → (d count : ℕ) → Broken → Type 0
IsBrokenIn z m d count b = (b.key.object ≡ d) × BreaksSlots z (has m) count b.key b.rule

-- all objects are there whole, and two slots name this directory
pub record IsNamedAgain (z : Sizes) (m : NewestMap) (d : ℕ) : Type 0 where
  pub list : List ℕ
  pub through : GoesThrough z m (root_number ∷ []) 0 (Wholly list)
  pub twice : NamesTwice z m list
  pub named : twice.named ≡ d

-- The newest pages break this rule of a tree, by the chunk of this key.
abbrev pub Breaks : Sizes → NewestMap → Key → Rule → Type 0
Breaks z m key rules.HeaderMissing = (key.chunk ≡ 0) × HasNone m key.object 0
Breaks z m key (rules.NoHeader fault) = (key.chunk ≡ 0) × HasHeaderFault m key.object fault
Breaks z m key rules.RootIsFile = (key ≡ header_of root_number) × ((f : Fields) × HasHeader z m root_number f × (f.kind ≡ kinds.File))
Breaks z m key (rules.TooManySpare spare) =
    (key ≡ header_of root_number) × ((f : Fields) × HasHeader z m root_number f × (f.kind ≡ kinds.Directory) × (f.spare ≡ spare) × (z.blocks < spare + 4))
Breaks z m key rules.ChunkMissing = HasNone m key.object key.chunk × ((f : Fields) × HasHeader z m key.object f × LooksUp z f key.chunk)
Breaks z m key (rules.NoSlot place) = BreaksDirectory z m key (rules.NoSlot place)
Breaks z m key (rules.NameTwice place) = BreaksDirectory z m key (rules.NameTwice place)
Breaks z m key rules.DirectoryTwice = (key.chunk ≡ 0) × IsNamedAgain z m key.object

-- going through this object stops at it, since it breaks the rule
abbrev pub StopsAt : Sizes → NewestMap → ℕ → Broken → Type 0
StopsAt z m o b = (b.key.object ≡ o) × Breaks z m b.key b.rule × Finds z m o (Stops (wrong_of b.rule))

-- The list is gone through in order from place n on, as by a mount, and comes to this object: those before it are there whole.
pub data ComesTo (z : Sizes) (m : NewestMap) : List ℕ → ℕ → ℕ → Type 0 where
  comes_here : {list : List ℕ} {n o : ℕ} → slice_get list n ≡ Some o → ComesTo z m list n o
  comes_after : {list : List ℕ} {n o : ℕ} (before : ℕ) (named : List ℕ) → slice_get list n ≡ Some before → Finds z m before (Leads named)
      → ComesTo z m (with_new list named) (n + 1) o → ComesTo z m list n o

-- The rule is broken, and a mount that goes through the objects comes to this one, or finds all of them whole and the directory named twice.
abbrev pub IsFirstBroken : Sizes → NewestMap → Broken → Type 0
IsFirstBroken z m b = Breaks z m b.key b.rule × ((b.rule ≡ rules.DirectoryTwice) ⊎ ComesTo z m (root_number ∷ []) 0 b.key.object)
