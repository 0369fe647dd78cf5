-- What ended the use of a volume in a call of it, or in its unmount, reported of the pages that are left.
use Rattle.std.specs.Prelude.{◌≡◌, true, false}
use Rattle.nand_model.specs.Calls.{Device}
use Rattle.volume_terms.specs.Sizes.{Sizes}
use Rattle.posix_profile.specs.Runs.{is_stop}
use Rattle.posix_profile.specs.State.{State}
use Rattle.posix_profile.specs.declared.command.Stamped.{Stamped}
use Rattle.posix_profile.specs.declared.reply.Errno.TheVariants as errors
use Rattle.posix_profile.specs.declared.reply.Reply.{Reply}
use Rattle.posix_profile.specs.declared.reply.Reply.TheVariants as replies
use Rattle.pages.specs.State.{PagesState}
use Rattle.paged_objects.specs.Ending.{HasEndedAt}
use Rattle.paged_objects.specs.laws.Going.{ended_at}
use Rattle.posix_calls.specs.PageVolumes.{pages_of, is_stopped, IsVolumeOf}
use Rattle.posix_calls.specs.declared.page_volume.PageVolume.{PageVolume}
use Rattle.posix_calls.specs.Calls.{IsCalled, IsReplied}
use Rattle.posix_calls.specs.Endings.{IsUnmounted}
use Rattle.powercut.specs.Commands.{OfRunning, DoesOne, meaning_of}

pub call_ended : {P : Type 0} {state : P → PagesState} {z : Sizes} {s : State} {old : PageVolume P} {command : Stamped} {reply : Reply} {new : PageVolume P} → IsReplied state z s old command reply new
    → is_stop reply ≡ true → HasEndedAt (state (pages_of new))
call_ended {P} {state} {z} {s} {old} {command} {reply} {new} replied stop = ended_at (state (pages_of old)) (state (pages_of new)) (replied.cause stop)

pub call_does : {V P : Type 0} (state : P → PagesState) (volume : V → PageVolume P) (a b : V) (command : Stamped) (reply : Reply) → IsCalled state (volume a) command reply (volume b)
    → OfRunning (meaning_of state volume) a (λ z s. DoesOne (meaning_of state volume) z s command reply a b)
call_does state volume a b command reply called = λ goes z s represents.
    let replied = called.replied goes z s represents in
    record {
      right = replied.reply_is;
      represents = replied.state_is;
      tree = replied.tree;
      synced = replied.synced;
      cause = call_ended replied;
      failed = replied.only_failed;
    }

pub unmount_ended : {P : Type 0} {state : P → PagesState} {v : PageVolume P} {device : Device} {reply : Reply} (ends : IsUnmounted state v device reply)
    → is_stopped v ≡ false → (z : Sizes) (s : State) → IsVolumeOf state z s v → reply ≡ replies.Error errors.EIO → HasEndedAt ends.pages
unmount_ended {P} {state} {v} {device} {reply} ends runs z s represents reported = ended_at (state (pages_of v)) ends.pages (ends.cause runs z s represents reported)
