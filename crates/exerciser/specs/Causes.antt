-- Why sessions end before the last one.
use Rattle.std.specs.Prelude.{◌≡◌, ◌≢◌, ℕ, Bool, List, Some, None, Result, Ok, Err}
use Rattle.nand_model.specs.Calls.{Device}
use Rattle.nand_model.specs.Changes.{PowersUp, OnlyReads}
use Rattle.flash_tree.specs.Mount.{Answers, IsTreeOf}
use Rattle.lives.specs.Lives.{at_mount}
use Rattle.page_store.specs.Checked.{HasTrueFlash}
use Rattle.plain_volume.specs.Lists.{shown_of}
use Rattle.plain_volume.specs.Views.{PlainView}
use Rattle.posix_profile.specs.State.{Objects, State}
use Rattle.volume_terms.specs.Sizes.{Sizes}
use Rattle.mounting.specs.Faults.{WhyNotMounted}
use Rattle.mounting.specs.declared.fault.MountFault.{MountFault}
use Rattle.mounting.specs.declared.fault.MountFault.TheVariants as mounts
use Rattle.posix_profile.specs.declared.command.Stamped.{Stamped}
use Rattle.posix_profile.specs.declared.reply.Reply.{Reply}
use Rattle.posix_profile.specs.declared.reply.Reply.TheVariants as replies
use Rattle.powercut.specs.Sessions.{IsEnded}
use Rattle.powercut.specs.declared.session.Session.{Session}
use Rattle.powercut.specs.declared.session.SessionEnd.{SessionEnd}
use Rattle.exerciser.specs.Keeping.{IsLeast}
use Rattle.exerciser.specs.declared.fault.CutFault.{CutFault}
use Rattle.exerciser.specs.declared.fault.CutFault.TheVariants as faults
use Rattle.exerciser.specs.declared.seen.Seen.{Seen}
use Rattle.exerciser.specs.declared.seen.Seen.TheVariants as seens

-- a mount of the device, which powers it up and only reads it, has this fault for its reason
abbrev pub IsAnswered : Device → MountFault → Type 0
IsAnswered device fault = (up : Device) × (back : Device) × PowersUp device up × OnlyReads up back × WhyNotMounted back fault

-- A volume shows the tree that the device's flash represents, with no descriptor open.
pub record ShowsFlash {V : Type 0} (shows : V → Sizes → Bool → State → Type 0) (device : Device) (v : V) : Type 0 where
  pub spare : ℕ
  pub objects : Objects
  pub sizes : Sizes
  pub read_only : Bool
  pub answers : Answers device.geometry device.flash (IsTreeOf spare objects)
  pub shown : shows v sizes read_only (at_mount objects)

-- what a mount shows of the tree is what the device's flash represents, where that flash is true
abbrev pub IsTreeOn : Device → PlainView → Type 0
IsTreeOn device tree = HasTrueFlash device → (spare : ℕ) × Answers device.geometry device.flash (IsTreeOf spare (shown_of tree))

-- Where the device's flash is true it represents a tree that a session on the tree before, whose commands were answered so, may not leave.
abbrev pub IsTornOn : Device → PlainView → List Stamped → List Reply → Type 0
IsTornOn device before commands answered =
    HasTrueFlash device → (spare : ℕ) × (objects : Objects) × Answers device.geometry device.flash (IsTreeOf spare objects) × IsLeast before commands answered (λ x. x ≡ objects) None

-- The tree that is seen is the one on the device; where it cannot be made again the one on the device is torn; and a mount that fails has
-- its reason, and was not refused memory.
abbrev pub MountsAs : Device → PlainView → List Stamped → List Reply → Seen → Type 0
MountsAs device before commands answered (seens.Committed count tree) = IsTreeOn device tree
MountsAs device before commands answered (seens.Torn (Some tree)) = IsTreeOn device tree
MountsAs device before commands answered (seens.Torn None) = IsTornOn device before commands answered
MountsAs device before commands answered (seens.Mount fault) = (fault ≢ mounts.NoMemory) × IsAnswered device fault

-- How the calls of a session that is not cut are numbered: by its calls exactly where it was mounted and unmounted; NoMemory where its mount was
-- refused memory; else Unmount.
abbrev pub CountsCalls : SessionEnd → (calls : ℕ) → Result ℕ CutFault → Type 0
CountsCalls end calls (Ok count) = (count ≡ calls) × (end.mounted ≡ Ok tt) × (end.unmounted ≡ Some replies.Done)
CountsCalls end calls (Err faults.NoMemory) = end.mounted ≡ Err mounts.NoMemory
CountsCalls end calls (Err (faults.Mount fault)) = ⊥
CountsCalls end calls (Err faults.Unmount) = (end.mounted ≢ Err mounts.NoMemory) × (end.mounted ≡ Ok tt → end.unmounted ≢ Some replies.Done)
CountsCalls end calls (Err faults.Unread) = ⊥
CountsCalls end calls (Err faults.Torn) = ⊥
CountsCalls end calls (Err faults.Write) = ⊥

-- where the device's flash is true it represents a tree
abbrev pub HasTree : Device → Type 0
HasTree device = HasTrueFlash device → (spare : ℕ) × (objects : Objects) × Answers device.geometry device.flash (IsTreeOf spare objects)

-- the session with no call that is cut
abbrev pub uncut : Session → Session
uncut session = record session { fuse = None }

-- The session on the device may end so that it was not mounted, and memory was not refused; or so that its unmount is not done.
pub record IsUndone (first : Device) (session : Session) : Type 0 where
  pub last : Device
  pub end : SessionEnd
  pub ended : IsEnded session end first last
  pub refused : end.mounted ≢ Err mounts.NoMemory
  pub undone : end.mounted ≡ Ok tt → end.unmounted ≢ Some replies.Done

-- The session, cut or not, may leave a device that represents a tree.
pub record IsUnread (first : Device) (session : Session) : Type 0 where
  pub now : Session
  pub last : Device
  pub end : SessionEnd
  pub like : uncut now ≡ uncut session
  pub ended : IsEnded now end first last
  pub tree : HasTree last

-- Why there is no number of the calls of a session: memory was refused, or it is not mounted and unmounted.
abbrev pub WhyUncounted : Device → Session → CutFault → Type 0
WhyUncounted first session faults.NoMemory = Unit {0}
WhyUncounted first session (faults.Mount fault) = ⊥
WhyUncounted first session faults.Unmount = IsUndone first session
WhyUncounted first session faults.Unread = ⊥
WhyUncounted first session faults.Torn = ⊥
WhyUncounted first session faults.Write = ⊥

-- Why a session was not done that is to be cut: memory was refused; it is not mounted and unmounted where it is not cut; or a tree was not
-- read after it, of a volume that was mounted.
abbrev pub WhyUndone : Device → Session → CutFault → Type 0
WhyUndone first session faults.NoMemory = Unit {0}
WhyUndone first session (faults.Mount fault) = ⊥
WhyUndone first session faults.Unmount = IsUndone first (uncut session)
WhyUndone first session faults.Unread = IsUnread first session
WhyUndone first session faults.Torn = ⊥
WhyUndone first session faults.Write = ⊥

-- why nothing is seen of a device: memory was refused, or its tree was not read, of a volume that was mounted
abbrev pub WhyUnseen : Device → CutFault → Type 0
WhyUnseen device faults.NoMemory = Unit {0}
WhyUnseen device (faults.Mount fault) = ⊥
WhyUnseen device faults.Unmount = ⊥
WhyUnseen device faults.Unread = HasTree device
WhyUnseen device faults.Torn = ⊥
WhyUnseen device faults.Write = ⊥

-- no session was begun on this device: memory was refused; the first tree was not read, of a volume that was mounted; or a mount has this
-- fault, for its reason
abbrev pub WhyNotBegun : Device → CutFault → Type 0
WhyNotBegun device faults.NoMemory = Unit {0}
WhyNotBegun device (faults.Mount fault) = (fault ≢ mounts.NoMemory) × IsAnswered device fault
WhyNotBegun device faults.Unmount = ⊥
WhyNotBegun device faults.Unread = HasTree device
WhyNotBegun device faults.Torn = ⊥
WhyNotBegun device faults.Write = ⊥

-- Why sessions ended, from this device on: a mount's fault is what a mount of this device answers, for its reason, and not want of
-- memory. Of a torn tree, and of a writer that failed, the lines tell; of a session that was not done, and of a tree that was not read, what is
-- said of the lines; of want of memory nothing is said.
abbrev pub HasCause : Device → CutFault → Type 0
HasCause first faults.NoMemory = Unit {0}
HasCause first (faults.Mount fault) = (fault ≢ mounts.NoMemory) × IsAnswered first fault
HasCause first faults.Unmount = Unit {0}
HasCause first faults.Unread = Unit {0}
HasCause first faults.Torn = Unit {0}
HasCause first faults.Write = Unit {0}
