-- What commands that read return of a state, and leave.
use Rattle.std.specs.Prelude.{◌≡◌, ◌≢◌, ℕ, Bool, List, Some, None}
use Rattle.std.specs.FinMap as map
use Rattle.posix_profile.specs.State.{Object, File, Objects, Handle, State}
use Rattle.posix_profile.specs.Steps.{step}
use Rattle.posix_profile.specs.declared.command.Stamped.{Stamped}
use Rattle.posix_profile.specs.declared.reply.Reply.{Reply}
use Rattle.posix_profile.specs.laws.Sound.{IsSound}
use Rattle.volume_terms.specs.Sizes.{Sizes}
use Rattle.plain_volume.specs.Items.{IsFound}

-- the reply is the profile's, and the state after it is shown
pub record IsStated {V : Type 0} (shows : V → Sizes → Bool → State → Type 0) (z : Sizes) (read_only : Bool) (s : State) (command : Stamped) (reply : Reply) (new : V) : Type 0 where
  pub reply_is : reply ≡ (step z read_only s command).reply
  pub shown : shows new z read_only (step z read_only s command).state

-- so it is from each state that is shown
abbrev pub IsReportedBy : {V : Type 0} → (V → Sizes → Bool → State → Type 0) → V → Stamped → V → Reply → Type 0
IsReportedBy shows old command new reply = (z : Sizes) (read_only : Bool) (s : State) → shows old z read_only s → IsStated shows z read_only s command reply new

-- this is reported of the objects of each state that is shown, and the state is shown afterwards
abbrev pub Reports : {V : Type 0} → (V → Sizes → Bool → State → Type 0) → V → V → (Objects → Type 0) → Type 0
Reports shows old new reported = (z : Sizes) (read_only : Bool) (s : State) → shows old z read_only s → reported s.objects × shows new z read_only s

-- of the one state the other has the same, but that a descriptor refers to an object, at an offset
pub record HasOpen (s : State) (fd o offset : ℕ) (t : State) : Type 0 where
  pub objects : t.objects ≡ s.objects
  pub handle : Handle
  pub is : map.get t.handles fd ≡ Some handle
  pub object_is : handle.object ≡ o
  pub offset_is : handle.offset ≡ offset
  pub others : (q : ℕ) → q ≢ fd → map.get t.handles q ≡ map.get s.handles q

-- a free descriptor refers to the object to which the path leads
pub record Opens (s : State) (path : List ℕ) (fd : ℕ) (t : State) : Type 0 where
  pub number : ℕ
  pub opened : HasOpen s fd number 0 t
  pub free : map.get s.handles fd ≡ None
  pub found : (object : Object) → map.get s.objects number ≡ Some object → IsFound s.objects path number object

-- the descriptor is opened on what the path leads to
abbrev pub OpensBy : {V : Type 0} → (V → Sizes → Bool → State → Type 0) → V → V → List ℕ → ℕ → Type 0
OpensBy shows old new path fd = (z : Sizes) (read_only : Bool) (s : State) → shows old z read_only s → (t : State) × Opens s path fd t × shows new z read_only t

-- the bytes are those of the file, and the descriptor stays open on it
pub record Drains {V : Type 0} (shows : V → Sizes → Bool → State → Type 0) (new : V) (z : Sizes) (read_only : Bool) (s : State) (fd o : ℕ) (bytes : List ℕ) : Type 0 where
  pub moment : ℕ
  pub file : map.get s.objects o ≡ Some (File moment bytes)
  pub offset : ℕ
  pub state : State
  pub opened : HasOpen s fd o offset state
  pub shown : shows new z read_only state

-- the bytes that are read of a descriptor at offset 0 are those of its file
abbrev pub DrainsBy : {V : Type 0} → (V → Sizes → Bool → State → Type 0) → V → V → ℕ → List ℕ → Type 0
DrainsBy shows old new fd bytes = (z : Sizes) (read_only : Bool) (s t : State) (o : ℕ) → HasOpen s fd o 0 t → shows old z read_only t → Drains shows new z read_only s fd o bytes

-- the descriptor is closed, and nothing else
abbrev pub ClosesBy : {V : Type 0} → (V → Sizes → Bool → State → Type 0) → V → V → ℕ → Type 0
ClosesBy shows old new fd =
    (z : Sizes) (read_only : Bool) (s t : State) (o offset : ℕ) → IsSound z s → map.get s.handles fd ≡ None → HasOpen s fd o offset t → shows old z read_only t → shows new z read_only s
