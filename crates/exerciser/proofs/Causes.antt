-- Why sessions end.
use Rattle.std.proofs.Common.{◌≡◌, ℕ, List, Option, Result, Ok, Err, sym, subst}
use Rattle.std.specs.Prelude.{◌≢◌, IfOk, IfErr}
use Rattle.plain_volume.specs.Views.{PlainView}
use Rattle.posix_profile.specs.declared.command.Stamped.{Stamped}
use Rattle.posix_profile.specs.declared.reply.Reply.{Reply}
use Rattle.nand_model.specs.Calls.{Device}
use Rattle.mounting.specs.declared.fault.MountFault.{MountFault}
use Rattle.mounting.specs.declared.fault.MountFault.TheVariants as mounts
use Rattle.powercut.specs.Sessions.{IsEnded}
use Rattle.powercut.specs.declared.session.Session.{Session}
use Rattle.powercut.specs.declared.session.SessionEnd.{SessionEnd}
use Rattle.exerciser.specs.Faults.{IsOfReading, of_mount}
use Rattle.exerciser.specs.Seen.{IsSeen}
use Rattle.exerciser.specs.declared.seen.Seen.{Seen}
use Rattle.exerciser.specs.declared.seen.Seen.TheVariants as seens
use Rattle.exerciser.specs.Causes.{IsAnswered, CountsCalls, HasCause, HasTree, MountsAs, WhyNotBegun, WhyUncounted, WhyUndone, WhyUnseen, uncut}
use Rattle.exerciser.specs.Lines.{IsStated}
use Rattle.exerciser.specs.declared.fault.CutFault.{CutFault}
use Rattle.exerciser.specs.declared.fault.CutFault.TheVariants as faults

-- a session that is not in the count is not mounted and unmounted
not_counted : (first last : Device) (session : Session) (calls : ℕ) (end : SessionEnd) (fault : CutFault) → IsEnded session end first last → CountsCalls end calls (Err fault)
    → WhyUncounted first session fault
not_counted first last session calls end faults.NoMemory ended counts = tt
not_counted first last session calls end (faults.Mount fault) ended counts = absurd counts
not_counted first last session calls end faults.Unmount ended counts = record { last = last; end = end; ended = ended; refused = counts.0; undone = counts.1 }
not_counted first last session calls end faults.Unread ended counts = absurd counts
not_counted first last session calls end faults.Torn ended counts = absurd counts
not_counted first last session calls end faults.Write ended counts = absurd counts

pub uncounted : (first last : Device) (session : Session) (calls : ℕ) (end : SessionEnd) (result : Result ℕ CutFault) → IsEnded session end first last → CountsCalls end calls result
    → IfErr result (WhyUncounted first session)
uncounted first last session calls end (Ok count) ended counts = tt
uncounted first last session calls end (Err fault) ended counts = not_counted first last session calls end fault ended counts

-- memory was refused
pub no_memory : (first : Device) (session : Session) (fault : CutFault) → fault ≡ faults.NoMemory → WhyUndone first session fault
no_memory first session fault is = subst (WhyUndone first session) (sym is) tt

-- nothing was seen after the session, cut or not
pub not_seen : (first last : Device) (session now : Session) (end : SessionEnd) (fault : CutFault) → uncut now ≡ uncut session → IsEnded now end first last → WhyUnseen last fault → WhyUndone first session fault
not_seen first last session now end faults.NoMemory like ended why = tt
not_seen first last session now end (faults.Mount fault) like ended why = why
not_seen first last session now end faults.Unmount like ended why = absurd why
not_seen first last session now end faults.Unread like ended why = record { now = now; last = last; end = end; like = like; ended = ended; tree = why }
not_seen first last session now end faults.Torn like ended why = why
not_seen first last session now end faults.Write like ended why = why

-- a tree was not read of a volume that was mounted
pub not_reported : (device : Device) (fault : CutFault) → HasTree device → IsOfReading fault → WhyUnseen device fault
not_reported device faults.NoMemory tree of = tt
not_reported device (faults.Mount fault) tree of = of
not_reported device faults.Unmount tree of = of
not_reported device faults.Unread tree of = tree
not_reported device faults.Torn tree of = of
not_reported device faults.Write tree of = of

pub fails_reporting : (device : Device) (result : Result Seen CutFault) → HasTree device → IfErr result IsOfReading → IfErr result (WhyUnseen device)
fails_reporting device (Ok seen) tree of = tt
fails_reporting device (Err fault) tree of = not_reported device fault tree of

pub begins_unreported : (device : Device) (fault : CutFault) → HasTree device → IsOfReading fault → WhyNotBegun device fault
begins_unreported device faults.NoMemory tree of = tt
begins_unreported device (faults.Mount fault) tree of = absurd of
begins_unreported device faults.Unmount tree of = of
begins_unreported device faults.Unread tree of = tree
begins_unreported device faults.Torn tree of = of
begins_unreported device faults.Write tree of = of

-- a mount that has this fault is seen as that
pub seen_as : (tree : PlainView) (commands : List Stamped) (reported : List Reply) (fault : MountFault) (result : Result Seen CutFault) → IfOk result (λ seen. (seen ≡ seens.Mount fault) × (fault ≢ mounts.NoMemory))
    → IfOk result (IsSeen tree commands reported)
seen_as tree commands reported fault (Ok seen) is = subst (IsSeen tree commands reported) (sym is.0) tt
seen_as tree commands reported fault (Err other) is = tt

pub seen_failed : (device : Device) (tree : PlainView) (commands : List Stamped) (reported : List Reply) (fault : MountFault) (result : Result Seen CutFault) → IsAnswered device fault
    → IfOk result (λ seen. (seen ≡ seens.Mount fault) × (fault ≢ mounts.NoMemory)) → IfOk result (MountsAs device tree commands reported)
seen_failed device tree commands reported fault (Ok seen) why is = subst (MountsAs device tree commands reported) (sym is.0) (is.1, why)
seen_failed device tree commands reported fault (Err other) why is = tt

pub fails_reading : (device : Device) (result : Result Seen CutFault) → IfErr result (λ e. e ≡ faults.NoMemory) → IfErr result (WhyUnseen device)
fails_reading device (Ok seen) is = tt
fails_reading device (Err fault) is = subst (WhyUnseen device) (sym is) tt

-- two faults of a mount
abbrev Same : MountFault → MountFault → Type 0
Same one other = one ≡ other

pub begins_for : (device : Device) (fault : MountFault) → IsAnswered device fault → WhyNotBegun device (of_mount fault)
begins_for device mounts.Gone why = (λ (e : Same mounts.Gone mounts.NoMemory). cc, why)
begins_for device mounts.NoMemory why = tt
begins_for device mounts.NotAVolume why = (λ (e : Same mounts.NotAVolume mounts.NoMemory). cc, why)
begins_for device (mounts.Newer format) why = (λ (e : Same (mounts.Newer format) mounts.NoMemory). cc, why)
begins_for device mounts.Damaged why = (λ (e : Same mounts.Damaged mounts.NoMemory). cc, why)

-- a session was not done
pub not_done : (first here : Device) (session : Session) (fault : CutFault) → WhyUndone here session fault → HasCause first fault
not_done first here session faults.NoMemory why = tt
not_done first here session (faults.Mount fault) why = absurd why
not_done first here session faults.Unmount why = tt
not_done first here session faults.Unread why = tt
not_done first here session faults.Torn why = tt
not_done first here session faults.Write why = tt

pub not_begun : (first : Device) (fault : CutFault) → WhyNotBegun first fault → HasCause first fault
not_begun first faults.NoMemory why = tt
not_begun first (faults.Mount fault) why = why
not_begun first faults.Unmount why = absurd why
not_begun first faults.Unread why = tt
not_begun first faults.Torn why = absurd why
not_begun first faults.Write why = absurd why

-- the writer failed
pub not_written : (first : Device) (old new : Option (List ℕ)) (text : List ℕ) (fault : CutFault) → IsStated old new text (Err fault) → HasCause first fault
not_written first old new text faults.NoMemory reported = tt
not_written first old new text (faults.Mount fault) reported = absurd reported
not_written first old new text faults.Unmount reported = tt
not_written first old new text faults.Unread reported = tt
not_written first old new text faults.Torn reported = tt
not_written first old new text faults.Write reported = tt

-- a tree is torn
pub not_committed : (first : Device) (fault : CutFault) → fault ≡ faults.Torn → HasCause first fault
not_committed first fault is = subst (λ f. HasCause first f) (sym is) tt
