-- One call of a volume over pages, by that of the volume over their objects.
use Rattle.std.specs.Prelude.{◌≡◌, false, not}
use Rattle.std.proofs.Common.{◌∙◌, sym, ap}
use Rattle.std.proofs.lemmas.Bool.{not-true}
use Rattle.volume_terms.specs.Sizes.{Sizes}
use Rattle.posix_profile.specs.Runs.{is_no_memory}
use Rattle.posix_profile.specs.State.{State}
use Rattle.posix_profile.specs.declared.command.Stamped.{Stamped}
use Rattle.posix_profile.specs.declared.reply.Reply.{Reply}
use Rattle.object_commands.specs.Serving.{IsServed}
use Rattle.object_commands.specs.laws.Steps.{One}
use Rattle.pages.specs.State.{PagesState}
use Rattle.posix_calls.specs.Calls.{IsCalled, IsReplied}
use Rattle.posix_calls.specs.PageVolumes.{is_read_only, is_stopped, IsVolumeOf}
use Rattle.posix_calls.specs.declared.page_volume.PageVolume.{PageVolume}
use Rattle.posix_calls.proofs.Calls.{FewLaw, meaning_of, is_at, is_volume, one_call, reads_device, tree_after, synced_after}

module _ {P : Type 0} (state : P → PagesState) (within_limit : FewLaw state) (a b : PageVolume P) (command : Stamped) (reply : Reply) (served : IsServed (meaning_of state) a.volume command reply b.volume) where
  ends : is_stopped a ≡ false → (z : Sizes) (s : State) → IsVolumeOf state z s a → One (meaning_of state) z (is_read_only a) s command reply a.volume b.volume
  ends goes z s is = one_call state z s command reply a b is (served.ends goes z s (is_at state z s a is))

  replied : is_stopped a ≡ false → (z : Sizes) (s : State) → IsVolumeOf state z s a → IsReplied state z s a command reply b
  replied goes z s is =
      let one = ends goes z s is in
      record {
        reply_is = one.replies;
        state_is = λ still. is_volume state z _ b within_limit (served.lasts.0.worn ∙ is.worn ∙ sym served.keeps) (one.state still);
        tree = tree_after state z s (is_read_only a) command reply a b is.sizes served.lasts.1 one;
        synced = synced_after state z s (is_read_only a) command reply a b is.sizes served.lasts.1 one;
        cause = λ stop. (one.fails stop).0.cause;
        power = λ refused. not-true _ (one.power (ap is_no_memory refused));
        reads = λ only. (one.reads only).pages;
        only_reads = λ only. reads_device state a.volume.store b.volume.store (served.only only z s (is_at state z s a is));
        only_failed = λ only stop. (served.unread only goes z s (is_at state z s a is) stop).1;
      }

  pub called : IsCalled state a command reply b
  called = record {
    goes_on = served.lasts.0;
    read_only = served.keeps;
    sizes = served.lasts.1;
    leaves = served.leaves;
    keeps_power = λ goes was. not-true _ (served.power goes (ap not was));
    stopped = λ stop. let reported = served.stopped stop in (reported.0, ap (λ v. record { volume = v }) reported.1);
    stops = served.stops;
    refuses = λ refusal. let stays = served.refuses refusal in record { pages = stays.store.pages; table = stays.store.table; handles = stays.handles };
    replied = replied;
  }
