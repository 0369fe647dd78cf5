-- What a volume over maps answers, from its state.
use Rattle.std.specs.Prelude.{◌≡◌, Bool, true, false}
use Rattle.std.proofs.Common.{sym, ◌∙◌, subst, inl, inr}
use Rattle.std.proofs.lemmas.Bool.{cases_Bool, cond-true, cond-false}
use Rattle.posix_profile.specs.Answering.{IsAnswered}
use Rattle.plain_volume.specs.Answering.{ShowsPlain}
use Rattle.plain_volume.specs.Views.{PlainView}
use Rattle.posix_profile.specs.Runs.{is_no_memory, is_stop, takes_no_memory}
use Rattle.posix_profile.specs.State.{State}
use Rattle.posix_profile.specs.Steps.{step}
use Rattle.posix_profile.specs.declared.command.Stamped.{Stamped}
use Rattle.posix_profile.specs.declared.reply.Reply.{Reply}
use Rattle.posix_profile.specs.laws.Sound.{IsSound}
use Rattle.volume_terms.specs.Sizes.{Sizes}

module _ (old new : PlainView) (c : Stamped) (r : Reply) (sizes : new.sizes ≡ old.sizes) (only : new.read_only ≡ old.read_only)
    (reply : is_no_memory r ≡ false → r ≡ (step old.sizes old.read_only old.state c).reply)
    (state : is_no_memory r ≡ false → new.state ≡ (step old.sizes old.read_only old.state c).state)
    (memory : is_no_memory r ≡ true → (new.state ≡ old.state) × (takes_no_memory c.command ≡ false))
    (goes : is_stop r ≡ false) (sound : IsSound new.sizes new.state) where
  shown_as : (s : State) → new.state ≡ s → ShowsPlain new old.sizes old.read_only s
  shown_as s is = ((λ i. record { sizes = sizes i; read_only = only i; state = is i }), subst (λ z. IsSound z s) sizes (subst (IsSound new.sizes) is sound))

  own_answered : IsAnswered ShowsPlain old.sizes old.read_only old.state c r new
  own_answered = elim (cases_Bool (is_no_memory r)) [
    | inl want ↦ record {
      reply_is = inr (inl (want, (memory want).1));
      shown = λ _. shown_as _ ((memory want).0 ∙ sym (cond-true _ _ _ want));
    }
    | inr other ↦ record {
      reply_is = inl (reply other);
      shown = λ _. shown_as _ (state other ∙ sym (cond-false _ _ _ other ∙ cond-false _ _ _ goes));
    }
  ]

  pub call_answered : (z : Sizes) (read_only : Bool) (s : State) → ShowsPlain old z read_only s → IsAnswered ShowsPlain z read_only s c r new
  call_answered z read_only s shown = subst (λ (v : PlainView). IsAnswered ShowsPlain v.sizes v.read_only v.state c r new) shown.0 own_answered
