-- A table that is being made of a tree.
use Rattle.std.specs.Prelude.{◌≡◌, ℕ, List, true, Some, Result, OnOk}
use Rattle.std.specs.FinMap as map
use Rattle.page_tags.specs.declared.header.ObjectKind.{ObjectKind}
use Rattle.page_tags.specs.declared.header.ObjectKind.TheVariants as headers
use Rattle.volume_terms.specs.Sizes.{Sizes, IsSizes}
use Rattle.posix_profile.specs.State.{Name, Entries, Object, File, Dir, Objects}
use Rattle.posix_profile.specs.Names.{Names}
use Rattle.posix_profile.specs.Changes.{with_name}
use Rattle.posix_profile.specs.Charge.{fits}
use Rattle.posix_profile.specs.declared.reply.Kind.{Kind}
use Rattle.posix_profile.specs.declared.reply.Kind.TheVariants as kinds
use Rattle.flash_tree.specs.Tree.{Shows}
use Rattle.pages.specs.Maps.{PageMap, has}
use Rattle.object_store.specs.Built.{sizes_built, Builds, IsBare, CanCome}
use Rattle.object_store.specs.Totaled.{GetsName}
use Rattle.object_store.specs.declared.table_builder.TableBuilder.{TableBuilder}
use Rattle.tree_walk.specs.Trees.{IsTreeThrough, head_at}
use Rattle.tree_walk.specs.declared.head.Head.{Head}
use Rattle.tree_walk.specs.declared.tree.NamedObject.{NamedObject}
use Rattle.tree_walk.specs.declared.tree.Tree.{Tree}

-- the kind that a header says
abbrev pub kind_as : ObjectKind → Kind
kind_as headers.File = kinds.File
kind_as headers.Directory = kinds.Directory

-- the pages show these objects, which a volume can have, and the tree of the pages was gone through
pub record IsShown (z : Sizes) (m : PageMap) (tree : Tree) (objects : Objects) : Type 0 where
  pub sizes : IsSizes z
  pub tree_of : IsTreeThrough z (has m) tree
  pub shows : Shows z (has m) objects
  pub fit : fits z objects ≡ true

-- this holds of the objects that pages show whose tree was gone through
abbrev pub OfThrough : Sizes → Tree → (Objects → Type 0) → Type 0
OfThrough z tree A = (m : PageMap) (objects : Objects) → IsTreeThrough z (has m) tree → Shows z (has m) objects → A objects

-- and this if they fit a volume of these sizes
abbrev pub OfFitting : Sizes → Tree → (Objects → Type 0) → Type 0
OfFitting z tree A = (m : PageMap) (objects : Objects) → IsSizes z → IsTreeThrough z (has m) tree → Shows z (has m) objects → fits z objects ≡ true → A objects

-- the same, in one
abbrev pub OfShown : Sizes → Tree → (Objects → Type 0) → Type 0
OfShown z tree A = (m : PageMap) (objects : Objects) → IsShown z m tree objects → A objects

-- of an object what came of it so far: a file, or a directory of the same moment with some of the entries
abbrev pub IsPartOf : Object → Object → Type 0
IsPartOf (File moment bytes) part = part ≡ File moment bytes
IsPartOf (Dir moment entries) part =
    (some : Entries) × (part ≡ Dir moment some) × ((name : Name) (o : ℕ) → map.get some name ≡ Some o → map.get entries name ≡ Some o)

-- each object of these is a part of one that is there
abbrev pub ArePartOf : Objects → Objects → Type 0
ArePartOf objects part = (o : ℕ) (y : Object) → map.get part o ≡ Some y → (x : Object) × (map.get objects o ≡ Some x) × IsPartOf x y

-- all objects, and no name of any
pub record IsNameless (objects part : Objects) : Type 0 where
  pub part_of : ArePartOf objects part
  pub all : (o : ℕ) (x : Object) → map.get objects o ≡ Some x → (y : Object) × (map.get part o ≡ Some y)
  pub unnamed : (directory o : ℕ) (name : Name) → Names part directory name o → ⊥

-- the table that is being made has all objects, and no name of any
abbrev pub BuildsNameless : TableBuilder → Objects → Type 0
BuildsNameless builder objects = (part : Objects) × IsNameless objects part × Builds builder part

-- where the directory of the name has a header, and gets an entry of some bytes for the object, the table has that name too
abbrev pub InsertsName : Tree → NamedObject → TableBuilder → TableBuilder → Type 0
InsertsName tree name old new =
    (head : Head) (objects : Objects) (bytes : List ℕ) → head_at tree name.directory ≡ Some head → Builds old objects
    → GetsName (sizes_built old) objects head.moment name.directory bytes name.object
    → Builds new (with_name objects head.moment name.directory bytes name.object)

-- where the object has a header, and can come as that says, the table has it too
abbrev pub InsertsObject : {E : Type 0} → Tree → ℕ → TableBuilder → TableBuilder → Result (Unit {0}) E → Type 0
InsertsObject tree o old new result =
    (head : Head) (objects : Objects) (x : Object) → head_at tree o ≡ Some head → Builds old objects
    → IsBare (kind_as head.kind) head.moment head.length x → CanCome (sizes_built old) objects o x
    → OnOk result (Builds new (map.insert objects o x))
