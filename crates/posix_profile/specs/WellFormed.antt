-- Which states a volume can have.
-- From: POSIX: the file hierarchy; the ranges are this project's.
use Rattle.std.specs.Prelude.{◌≡◌, ◌⊎◌, ◌<◌, ◌≤◌, ◌-◌, ◌^◌, ℕ, true, length, Some}
use Rattle.std.specs.FinMap as map
use Rattle.volume_terms.specs.Sizes.{Sizes, greatest_length, descriptors, offset_limit, root_number}
use Rattle.volume_terms.specs.Names.{AreBytes, IsName}
use Rattle.posix_profile.specs.State.{Name, Object, File, Dir, Objects, Handle, Handles, State, IsFile, IsDirectory, moment_of}
use Rattle.posix_profile.specs.Names.{Names, Reached}
use Rattle.posix_profile.specs.HandleSteps.{may_write}

-- a file is of bytes, not too many; the entries of a directory have names
abbrev pub HasContent : Sizes → Object → Type 0
HasContent z (File moment bytes) = AreBytes bytes × (length bytes ≤ greatest_length z)
HasContent z (Dir moment entries) = (name : Name) (o : ℕ) → map.get entries name ≡ Some o → IsName name

-- an object has a number from 1 up that is below the last one, which no object may have, and a moment and a content that fit
pub record IsObject (z : Sizes) (o : ℕ) (object : Object) : Type 0 where
  pub numbered : 1 ≤ o
  pub number : o < 2 ^ 64 - 1
  pub moment : moment_of object < 2 ^ 64
  pub content : HasContent z object

-- the objects hang together: the root is a directory that has no name, names lead to objects, a directory with an entry is reached from the root, and a directory has one name at most
pub record IsForest (z : Sizes) (objects : Objects) : Type 0 where
  pub each : (o : ℕ) (object : Object) → map.get objects o ≡ Some object → IsObject z o object
  pub root : IsDirectory objects root_number
  pub root_unnamed : (directory : ℕ) (name : Name) → Names objects directory name root_number → ⊥
  pub leads : (directory o : ℕ) (name : Name) → Names objects directory name o → (object : Object) × (map.get objects o ≡ Some object)
  pub reached : (directory o : ℕ) (name : Name) → Names objects directory name o → Reached objects directory
  pub one_name : (o a b : ℕ) (m n : Name) → IsDirectory objects o → Names objects a m o → Names objects b n o → (a ≡ b) × (m ≡ n)

-- what an open descriptor refers to: an object that is there, a file where it may write, and an offset
pub record IsHandle (objects : Objects) (fd : ℕ) (handle : Handle) : Type 0 where
  pub descriptor : fd < descriptors
  pub offset : handle.offset ≤ offset_limit
  pub there : (object : Object) × (map.get objects handle.object ≡ Some object)
  pub writes : may_write handle.flags.access ≡ true → IsFile objects handle.object

-- each descriptor that is open
abbrev pub AreHandles : Objects → Handles → Type 0
AreHandles objects handles = (fd : ℕ) (handle : Handle) → map.get handles fd ≡ Some handle → IsHandle objects fd handle

-- some directory names the object
abbrev pub IsNamed : Objects → ℕ → Type 0
IsNamed objects o = (directory : ℕ) × (name : Name) × Names objects directory name o

-- some descriptor refers to the object
abbrev pub IsOpen : Handles → ℕ → Type 0
IsOpen handles o = (fd : ℕ) × (handle : Handle) × (map.get handles fd ≡ Some handle) × (handle.object ≡ o)

-- a state that a volume can have: its objects hang together, its descriptors refer to some of them, and no object is left that has neither name nor descriptor
pub record IsWellFormed (z : Sizes) (s : State) : Type 0 where
  pub forest : IsForest z s.objects
  pub handles : AreHandles s.objects s.handles
  pub committed : (o : ℕ) (object : Object) → map.get s.objects o ≡ Some object → (o ≡ root_number) ⊎ IsNamed s.objects o ⊎ IsOpen s.handles o

-- the object is a directory that is reached from the root
abbrev pub IsReachedDirectory : Objects → ℕ → Type 0
IsReachedDirectory objects o = IsDirectory objects o × Reached objects o

-- objects that a mount can show: all of them are reached from the root
pub record IsTree (z : Sizes) (objects : Objects) : Type 0 where
  pub forest : IsForest z objects
  pub all_reached : (o : ℕ) (object : Object) → map.get objects o ≡ Some object → Reached objects o
