-- What a volume on a device answers, from the state that it stands for.
use Rattle.std.specs.Prelude.{◌≡◌, Bool}
use Rattle.std.proofs.Common.{◌∙◌, subst}
use Rattle.posix_profile.specs.Answering.{IsAnswered}
use Rattle.posix_calls.specs.PageVolumes.{IsVolumeOf}
use Rattle.posix_calls.specs.declared.page_volume.PageVolume.{PageVolume}
use Rattle.pages.specs.State.{PagesState}
use Rattle.posix_calls.specs.Answering.{ShowsState}
use Rattle.posix_calls.specs.Calls.{IsCalled}
use Rattle.posix_profile.specs.Runs.{Replies, after_one}
use Rattle.posix_profile.specs.State.{State}
use Rattle.posix_profile.specs.declared.command.Stamped.{Stamped}
use Rattle.posix_profile.specs.declared.reply.Reply.{Reply}
use Rattle.volume_terms.specs.Sizes.{Sizes}

pub call_answered : {P : Type 0} (state : P → PagesState) (old : PageVolume P) (c : Stamped) (r : Reply) (new : PageVolume P) → IsCalled state old c r new
    → (z : Sizes) (read_only : Bool) (s : State) → ShowsState state old z read_only s → IsAnswered (ShowsState state) z read_only s c r new
call_answered state old c r new called z read_only s shown =
    let reported = called.replied shown.0 z s shown.2 in
    record {
      reply_is = subst (λ only. Replies z only s c r) shown.1 reported.reply_is;
      shown = λ goes. (called.stops shown.0 ∙ goes, called.read_only ∙ shown.1, subst (λ only. IsVolumeOf state z (after_one z only s c r) new) shown.1 (reported.state_is goes));
    }

-- of the same command
pub called_as : {P : Type 0} (state : P → PagesState) (old : PageVolume P) (c k : Stamped) (r : Reply) (new : PageVolume P) → c ≡ k → IsCalled state old c r new
    → IsCalled state old k r new
called_as state old c k r new same called = subst (λ x. IsCalled state old x r new) same called
