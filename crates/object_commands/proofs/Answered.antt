-- What a volume answers, from the state that it stands for.
use Rattle.std.specs.Prelude.{◌≡◌, Bool, true, false}
use Rattle.std.proofs.Common.{sym, ◌∙◌, ap, subst, inl, inr}
use Rattle.std.proofs.lemmas.Bool.{true≢false, cond-true, cond-false}
use Rattle.posix_profile.specs.Answering.{IsAnswered}
use Rattle.command_plans.specs.Classes.{class_of}
use Rattle.object_commands.specs.Answering.{ShowsState}
use Rattle.object_commands.specs.Endings.{IsAt, CommandEnds}
use Rattle.object_commands.specs.Volumes.{is_read_only, is_stopped}
use Rattle.object_commands.specs.declared.volume.Volume.{Volume}
use Rattle.object_store.specs.Stores.{Meaning}
use Rattle.posix_profile.specs.Runs.{is_no_memory, is_stop, takes_no_memory, after_one}
use Rattle.posix_profile.specs.State.{State}
use Rattle.posix_profile.specs.Steps.{step}
use Rattle.posix_profile.specs.declared.command.Stamped.{Stamped}
use Rattle.posix_profile.specs.declared.reply.Reply.{Reply}
use Rattle.posix_profile.specs.laws.Own.{command_own}
use Rattle.volume_terms.specs.Sizes.{Sizes}

ends_answered : {S : Type 0} (m : Meaning S) (z : Sizes) (read_only : Bool) (s : State) (c : Stamped) (r : Reply) (a b : Volume S) → is_read_only b ≡ read_only
    → CommandEnds m z (class_of read_only s c.command) (takes_no_memory c.command) s (step z read_only s c) a b r → IsAnswered (ShowsState m) z read_only s c r b
ends_answered m z read_only s c r a b keeps (inl done) =
    let own = command_own s z read_only c.moment c.command in
    let is : after_one z read_only s c r ≡ (step z read_only s c).state = cond-false _ _ _ (ap is_no_memory done.reply ∙ own.memory) ∙ cond-false _ _ _ (ap is_stop done.reply ∙ own.goes) in
    record { reply_is = inl done.reply; shown = λ _. (done.goes_on, keeps, subst (λ x. IsAt m z x b) (sym is) done.state) }
ends_answered m z read_only s c r a b keeps (inr (inl passed)) =
    let memory : is_no_memory r ≡ true = ap is_no_memory passed.1.reply in
    record { reply_is = inr (inl (memory, passed.0)); shown = λ _. (passed.1.goes_on, keeps, subst (λ x. IsAt m z x b) (sym (cond-true _ _ _ memory)) passed.1.state) }
ends_answered m z read_only s c r a b keeps (inr (inr stopped)) =
    record { reply_is = inr (inr (ap is_stop stopped.reply)); shown = λ goes. absurd (true≢false (sym (ap is_stop stopped.reply) ∙ goes)) }

-- of a call
pub call_answered : {S : Type 0} (m : Meaning S) (z : Sizes) (read_only : Bool) (s : State) (c : Stamped) (r : Reply) (a b : Volume S) → ShowsState m a z read_only s
    → is_read_only b ≡ is_read_only a
    → (is_stopped a ≡ false → (z : Sizes) (s : State) → IsAt m z s a → CommandEnds m z (class_of (is_read_only a) s c.command) (takes_no_memory c.command) s (step z (is_read_only a) s c) a b r)
    → IsAnswered (ShowsState m) z read_only s c r b
call_answered m z read_only s c r a b shown keeps ends = ends_answered m z read_only s c r a b (keeps ∙ shown.1)
    (subst (λ only. CommandEnds m z (class_of only s c.command) (takes_no_memory c.command) s (step z only s c) a b r) shown.1 (ends shown.0 z s shown.2))
