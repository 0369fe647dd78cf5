-- The lines of sessions, one after another.
use Rattle.std.proofs.Common.{◌≡◌, ◌<◌, ℕ, ◌+◌, List, [], ◌++◌, length, Option, Some, Result, Ok, Err, refl, sym, ap, ◌∙◌, subst, inl, inr, append_assoc}
use Rattle.std.specs.Prelude.{◌⊎◌, false}
use native.Mathlib.Numerals.{unary_clauses}
use Rattle.std.proofs.KnownBytes.{Appends-nil, Appends-trans}
use Rattle.std.specs.Io.KnownBytes.{Appends}
use Rattle.exerciser.specs.Faults.{IsOfReading, of_tree}
use Rattle.exerciser.specs.Causes.{IsTreeOn, MountsAs, WhyNotBegun, WhyUndone}
use Rattle.powercut.specs.declared.session.Session.{Session}
use Rattle.nand_model.specs.Calls.{Device}
use Rattle.plain_volume.specs.Views.{PlainView}
use Rattle.posix_profile.specs.laws.Fresh.{fresh}
use Rattle.exerciser.specs.Keeping.{IsLeast, IsShownOf}
use Rattle.exerciser.specs.Lines.{session_line, IsStated}
use Rattle.exerciser.specs.Seen.{finding_of, IsSeen, IsTorn}
use Rattle.exerciser.specs.Cutting.{Exercise, IsAsked, IsCutSession, AreCommitted, AreCommittedBefore, Cuts, WhyStopped}
use Rattle.exerciser.specs.declared.fault.CutFault.{CutFault}
use Rattle.exerciser.specs.declared.fault.CutFault.TheVariants as faults
use Rattle.exerciser.specs.declared.finding.Finding.{Finding}
use Rattle.exerciser.specs.declared.finding.Finding.TheVariants as findings
use Rattle.exerciser.specs.declared.seen.Seen.{Seen}
use Rattle.plain_volume.specs.declared.fault.TreeFault.{TreeFault}
use Rattle.plain_volume.specs.declared.fault.TreeFault.TheVariants as trees

-- a tree that is not read is a fault of the reading
pub of_tree_is_reading : (fault : TreeFault) → IsOfReading (of_tree fault)
of_tree_is_reading trees.NoMemory = tt
of_tree_is_reading (trees.Refused error) = tt
of_tree_is_reading trees.Unlike = tt

-- a session that was not done stops the sessions
pub not_done_stops : (x : Exercise) (before : ℕ) (last : Device) (session : Session) (fault : CutFault) → IsAsked x session → WhyUndone last session fault → WhyStopped x before last fault
not_done_stops x before last session faults.NoMemory issued why = tt
not_done_stops x before last session (faults.Mount fault) issued why = absurd why
not_done_stops x before last session faults.Unmount issued why = (session, issued, why)
not_done_stops x before last session faults.Unread issued why = inr (session, issued, why)
not_done_stops x before last session faults.Torn issued why = why
not_done_stops x before last session faults.Write issued why = why

-- and so does a device on which none was begun
pub not_begun_stops : (x : Exercise) (device : Device) (fault : CutFault) → WhyNotBegun device fault → WhyStopped x 0 device fault
not_begun_stops x device faults.NoMemory why = tt
not_begun_stops x device (faults.Mount fault) why = refl
not_begun_stops x device faults.Unmount why = absurd why
not_begun_stops x device faults.Unread why = inl (refl, why)
not_begun_stops x device faults.Torn why = why
not_begun_stops x device faults.Write why = why

-- a tree, where none was read
abbrev pub some_tree : PlainView
some_tree = record { sizes = record { page_bytes = 0; block_pages = 0; blocks = 0; spare_blocks = 0 }; read_only = false; state = fresh }

-- what sessions have reported so far, all of which held a tree, the last one this
pub record SoFar (x : Exercise) (before : ℕ) (last : Device) (tree : PlainView) (old new : Option (List ℕ)) : Type 0 where
  pub text : List ℕ
  pub committed : AreCommitted x before last tree text
  pub reported : Appends old new text

pub starts : (x : Exercise) (last : Device) (tree : PlainView) (old : Option (List ℕ)) → last ≡ x.first → SoFar x 0 last tree old old
unfolding AreCommitted
starts x last tree old is = record { text = []; committed = (is, refl); reported = Appends-nil old }

-- one line more
one_more : (x : Exercise) (before : ℕ) (first last : Device) (old tree : PlainView) (text : List ℕ) (count : ℕ) → AreCommitted x before first old text → IsTreeOn first old
    → (done : IsCutSession x before first last) → IsLeast old x.commands done.end.replies.items (IsShownOf tree) (Some count) → IsTreeOn last tree
    → AreCommitted x (before + 1) last tree (text ++ session_line (before + 1) done.operation (findings.Committed count) (length x.commands))
unfolding AreCommitted
one_more x before first last old tree text count committed was done least on = simp unary_clauses (text, first, old, count, committed, was, done, least, on, refl)

module _ (x : Exercise) (before : ℕ) (first last : Device) (tree : PlainView) (old now later : Option (List ℕ)) (so_far : SoFar x before first tree old now) (done : IsCutSession x before first last) (was : IsTreeOn first tree) where
  pub goes_further : (count : ℕ) (next : PlainView) → IsLeast tree x.commands done.end.replies.items (IsShownOf next) (Some count) → IsTreeOn last next
      → IsStated now later (session_line (before + 1) done.operation (findings.Committed count) (length x.commands)) (Ok tt) → SoFar x (before + 1) last next old later
  goes_further count next least on reported = record {
    text = so_far.text ++ session_line (before + 1) done.operation (findings.Committed count) (length x.commands);
    committed = one_more x before first last tree next so_far.text count so_far.committed was done least on;
    reported = Appends-trans old now later so_far.text (session_line (before + 1) done.operation (findings.Committed count) (length x.commands)) so_far.reported reported;
  }

  module _ (seen : Seen) (within_limit : before < x.sessions) (is_seen : IsSeen tree x.commands done.end.replies.items seen) (mounts : MountsAs last tree x.commands done.end.replies.items seen) where
    -- the line of the session
    abbrev line : List ℕ
    line = session_line (before + 1) done.operation (finding_of seen) (length x.commands)

    -- the lines so far and one more
    with_line : AreCommittedBefore x seen (so_far.text ++ line)
    with_line =
        record { before = before; lines = so_far.text; first = first; last = last; tree = tree; within_limit = within_limit; committed = so_far.committed; on = was; done = done; is_seen = is_seen; mounts = mounts; text_is = refl }

    -- a line that was not reported whole
    pub stops_reporting : (fault : CutFault) → IsStated now later line (Err fault) → Cuts x old later (Err fault)
    stops_reporting faults.Write reported = (
      seen,
      so_far.text ++ line,
      with_line,
      record {
        part = so_far.text ++ reported.part;
        rest = reported.rest;
        whole = ap (λ l. so_far.text ++ l) reported.whole ∙ sym (append_assoc so_far.text reported.part reported.rest);
        short = reported.short;
        appended = Appends-trans old now later so_far.text reported.part so_far.reported reported.appended;
      },
    )
    stops_reporting faults.NoMemory reported = absurd reported
    stops_reporting (faults.Mount fault) reported = absurd reported
    stops_reporting faults.Unmount reported = absurd reported
    stops_reporting faults.Unread reported = absurd reported
    stops_reporting faults.Torn reported = absurd reported

    -- a session that left a tree that it may not leave
    pub stops_torn : (fault : CutFault) → IsStated now later line (Ok tt) → IsTorn seen → fault ≡ faults.Torn → Cuts x old later (Err fault)
    stops_torn fault reported torn is = subst (λ f. Cuts x old later (Err f)) (sym is) (
      seen,
      so_far.text ++ line,
      torn,
      with_line,
      Appends-trans old now later so_far.text line so_far.reported reported,
    )

-- a line, by what it reports on
pub reported_as : (old new : Option (List ℕ)) (number operation : ℕ) (finding reported : Finding) (count commands : ℕ) (result : Result (Unit {0}) CutFault) → finding ≡ reported → count ≡ commands
    → IsStated old new (session_line number operation finding count) result → IsStated old new (session_line number operation reported commands) result
reported_as old new number operation finding reported count commands result is totaled line =
    subst (λ n. IsStated old new (session_line number operation reported n) result) totaled (subst (λ f. IsStated old new (session_line number operation f count) result) is line)

-- a session that was not done
pub stops_silently : (x : Exercise) (before : ℕ) (last : Device) (tree : PlainView) (old now : Option (List ℕ)) (fault : CutFault) → before < x.sessions ⊎ (before ≡ 0)
    → SoFar x before last tree old now → WhyStopped x before last fault → Cuts x old now (Err fault)
stops_silently x before last tree old now faults.NoMemory within_limit so_far why = record { before = before; text = so_far.text; last = last; tree = tree; within_limit = within_limit; committed = so_far.committed; reported = so_far.reported; why = why }
stops_silently x before last tree old now (faults.Mount fault) within_limit so_far why = record { before = before; text = so_far.text; last = last; tree = tree; within_limit = within_limit; committed = so_far.committed; reported = so_far.reported; why = why }
stops_silently x before last tree old now faults.Unmount within_limit so_far why = record { before = before; text = so_far.text; last = last; tree = tree; within_limit = within_limit; committed = so_far.committed; reported = so_far.reported; why = why }
stops_silently x before last tree old now faults.Unread within_limit so_far why = record { before = before; text = so_far.text; last = last; tree = tree; within_limit = within_limit; committed = so_far.committed; reported = so_far.reported; why = why }
stops_silently x before last tree old now faults.Torn within_limit so_far why = absurd why
stops_silently x before last tree old now faults.Write within_limit so_far why = absurd why

pub ends : (x : Exercise) (before : ℕ) (last : Device) (tree : PlainView) (old now : Option (List ℕ)) → before ≡ x.sessions → SoFar x before last tree old now → Cuts x old now (Ok tt)
ends x before last tree old now all so_far = (last, tree, so_far.text, subst (λ n. AreCommitted x n last tree so_far.text) all so_far.committed, so_far.reported)
