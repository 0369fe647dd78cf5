-- What sessions tell that are cut in turn.
use Rattle.std.specs.Prelude.{◌≡◌, ℕ, zero, suc, ◌<◌, ◌+◌, ◌⊎◌, true, List, [], ◌++◌, length, Option, Some, Result, Ok, Err}
use Rattle.std.specs.Io.KnownBytes.{Appends}
use Rattle.line_shell.specs.Written.{AppendsPart}
use Rattle.nand_model.specs.Calls.{Device}
use Rattle.plain_volume.specs.Views.{PlainView}
use Rattle.posix_profile.specs.declared.command.Stamped.{Stamped}
use Rattle.powercut.specs.Living.{IsTrueOn}
use Rattle.powercut.specs.Sessions.{IsEnded}
use Rattle.powercut.specs.Starting.{fuse_of}
use Rattle.powercut.specs.declared.session.Session.{Session}
use Rattle.powercut.specs.declared.session.SessionEnd.{SessionEnd}
use Rattle.exerciser.specs.Causes.{HasTree, IsTreeOn, IsUndone, IsUnread, MountsAs, uncut}
use Rattle.exerciser.specs.Draws.{IsDrawnAmong, drawn_fates, session_word, words_after}
use Rattle.exerciser.specs.Keeping.{IsLeast, IsShownOf}
use Rattle.exerciser.specs.Lines.{session_line}
use Rattle.exerciser.specs.Seen.{finding_of, IsSeen, IsTorn}
use Rattle.exerciser.specs.declared.fault.CutFault.{CutFault}
use Rattle.exerciser.specs.declared.fault.CutFault.TheVariants as faults
use Rattle.exerciser.specs.declared.finding.Finding.TheVariants as findings
use Rattle.exerciser.specs.declared.seen.Seen.{Seen}

-- what is wanted: so many sessions of these commands in turn on the device, with calls and fates that the seed draws
pub record Exercise : Type 0 where
  pub first : Device
  pub seed : ℕ
  pub commands : List Stamped
  pub sessions : ℕ

-- The session after so many, which made the one device the other. It has the commands, no call that fails, and an unmount; the seed draws
-- the call at which it is cut, among those that it makes where it is not cut, and the fates. A true flash stays true.
pub record IsCutSession (x : Exercise) (before : ℕ) (first last : Device) : Type 0 where
  pub session : Session
  pub end : SessionEnd
  pub operation : ℕ
  pub commands_are : session.commands.items ≡ x.commands
  pub fuse_is : fuse_of session.fuse ≡ Some (operation, drawn_fates x.first.geometry.pages (words_after x.seed x.first.geometry.pages before))
  pub failures_are : session.failures.items ≡ []
  pub unmounts : session.unmount ≡ true
  pub random : IsDrawnAmong first (uncut session) (session_word x.seed x.first.geometry.pages before) operation
  pub ended : IsEnded session end first last
  pub truth : IsTrueOn first → IsTrueOn last

-- The text is the lines of so many sessions, from the first on, which left this device, and this is the tree that lies on it: each keeps,
-- of the tree before it, the first commands that its line counts, as it answered them; and no fewer.
unfoldable pub AreCommitted : Exercise → (sessions : ℕ) → (last : Device) → (tree : PlainView) → List ℕ → Type 0
AreCommitted x zero last tree text = (last ≡ x.first) × (text ≡ [])
AreCommitted x (suc before) last tree text =
    (lines : List ℕ) × (first : Device) × (old : PlainView) × (count : ℕ) × AreCommitted x before first old lines × IsTreeOn first old × (done : IsCutSession x before first last)
    × IsLeast old x.commands done.end.replies.items (IsShownOf tree) (Some count) × IsTreeOn last tree × (text ≡ lines ++ session_line (suc before) done.operation (findings.Committed count) (length x.commands))

-- the lines of sessions that held a tree, and of one after them, of which this is seen
pub record AreCommittedBefore (x : Exercise) (seen : Seen) (text : List ℕ) : Type 0 where
  pub before : ℕ
  pub lines : List ℕ
  pub first : Device
  pub last : Device
  pub tree : PlainView
  pub within_limit : before < x.sessions
  pub committed : AreCommitted x before first tree lines
  pub on : IsTreeOn first tree
  pub done : IsCutSession x before first last
  pub is_seen : IsSeen tree x.commands done.end.replies.items seen
  pub mounts : MountsAs last tree x.commands done.end.replies.items seen
  pub text_is : text ≡ lines ++ session_line (before + 1) done.operation (finding_of seen) (length x.commands)

-- a session of the exercise: it has these commands, no call that fails, and an unmount
pub record IsAsked (x : Exercise) (session : Session) : Type 0 where
  pub commands_are : session.commands.items ≡ x.commands
  pub failures_are : session.failures.items ≡ []
  pub unmounts : session.unmount ≡ true

-- Why the session after so many was not reported of: memory was refused; a mount of the first device failed; the session is not mounted and
-- unmounted where it is not cut; or a tree was not read, of a volume that was mounted, before the first session or after this one.
abbrev pub WhyStopped : Exercise → (before : ℕ) → (last : Device) → CutFault → Type 0
WhyStopped x before last faults.NoMemory = Unit {0}
WhyStopped x before last (faults.Mount fault) = before ≡ 0
WhyStopped x before last faults.Unmount = (session : Session) × IsAsked x session × IsUndone last (uncut session)
WhyStopped x before last faults.Unread = ((before ≡ 0) × HasTree last) ⊎ ((session : Session) × IsAsked x session × IsUnread last session)
WhyStopped x before last faults.Torn = ⊥
WhyStopped x before last faults.Write = ⊥

-- The lines of fewer sessions, all of which held a tree, are out; none where the first tree was not read. The fault has its cause.
pub record IsStopped (x : Exercise) (fault : CutFault) (old new : Option (List ℕ)) : Type 0 where
  pub before : ℕ
  pub text : List ℕ
  pub last : Device
  pub tree : PlainView
  pub within_limit : before < x.sessions ⊎ (before ≡ 0)
  pub committed : AreCommitted x before last tree text
  pub reported : Appends old new text
  pub why : WhyStopped x before last fault

-- What is reported of sessions: where all is well a line for each, which says that a tree is held. Where a tree is torn its line comes
-- last. Where the writer failed the last line may be written in part.
abbrev pub Cuts : Exercise → Option (List ℕ) → Option (List ℕ) → Result (Unit {0}) CutFault → Type 0
Cuts x old new (Ok done) = (last : Device) × (tree : PlainView) × (text : List ℕ) × AreCommitted x x.sessions last tree text × Appends old new text
Cuts x old new (Err faults.Torn) = (seen : Seen) × (text : List ℕ) × IsTorn seen × AreCommittedBefore x seen text × Appends old new text
Cuts x old new (Err faults.Write) = (seen : Seen) × (text : List ℕ) × AreCommittedBefore x seen text × AppendsPart old new text
Cuts x old new (Err fault) = IsStopped x fault old new
