-- What a table that is being made represents.
use Rattle.std.specs.Prelude.{◌≡◌, ℕ, length, None}
use Rattle.std.specs.FinMap as map
use Rattle.volume_terms.specs.Sizes.{Sizes}
use Rattle.posix_profile.specs.State.{Name, Object, File, Dir, Objects}
use Rattle.posix_profile.specs.Changes.{with_name}
use Rattle.posix_profile.specs.WellFormed.{IsNamed}
use Rattle.posix_profile.specs.declared.reply.Kind.{Kind}
use Rattle.posix_profile.specs.declared.reply.Kind.TheVariants as kinds
use Rattle.object_store.specs.Totaled.{sizes_in, Counts, GetsName, IsCountable}
use Rattle.object_store.specs.declared.table_builder.TableBuilder.{TableBuilder}

-- the numbers of the volume
abbrev pub sizes_built : TableBuilder → Sizes
sizes_built builder = sizes_in builder.totaled

-- the objects that came so far, with those of their names that were returned
abbrev pub Builds : TableBuilder → Objects → Type 0
Builds builder objects = Counts builder.totaled objects

-- a file of this moment and length, or a directory of this moment without entries
abbrev pub IsBare : Kind → ℕ → ℕ → Object → Type 0
IsBare kinds.File moment n (File m bytes) = (m ≡ moment) × (length bytes ≡ n)
IsBare kinds.File moment n (Dir m entries) = ⊥
IsBare kinds.Directory moment n (File m bytes) = ⊥
IsBare kinds.Directory moment n (Dir m entries) = (m ≡ moment) × (entries ≡ map.empty)

-- An object may come that is not there, and to which no name leads yet.
pub record CanCome (z : Sizes) (objects : Objects) (o : ℕ) (x : Object) : Type 0 where
  pub free : map.get objects o ≡ None
  pub unnamed : IsNamed objects o → ⊥
  pub countable : IsCountable z (map.insert objects o x)

-- what is true of whatever objects came, and of whatever object is to come
abbrev pub OfBuilt : TableBuilder → (Objects → Object → Type 0) → Type 0
OfBuilt builder A = (objects : Objects) (x : Object) → Builds builder objects → A objects x

-- where a directory may get a name of the object, the objects have it now
abbrev pub BuildsNamed : TableBuilder → TableBuilder → ℕ → ℕ → ℕ → Type 0
BuildsNamed old new moment d number = (objects : Objects) (name : Name) → Builds old objects → GetsName (sizes_built old) objects moment d name number → Builds new (with_name objects moment d name number)
