-- What commands over maps answer and leave.
use Rattle.std.specs.Prelude.{◌≡◌, ℕ, Bool, true, false, List, Some, None}
use Rattle.std.specs.FinMap as map
use Rattle.std.specs.Ordering.{nat_cmp}
use Rattle.std.proofs.Common.{refl, sym, ◌∙◌, ap, subst, inl, inr}
use Rattle.std.proofs.lemmas.Bool.{false_from_ne_true, true≢false}
use Rattle.volume_terms.specs.Sizes.{Sizes, IsSizes}
use Rattle.posix_profile.specs.Runs.{is_no_memory, is_stop, takes_no_memory, after}
use Rattle.posix_profile.specs.State.{Objects, State}
use Rattle.posix_profile.specs.Steps.{step}
use Rattle.posix_profile.specs.laws.Own.{command_own}
use Rattle.posix_profile.specs.laws.Sound.{IsSound}
use Rattle.posix_profile.specs.declared.command.Stamped.{Stamped}
use Rattle.posix_profile.specs.declared.reply.Reply.{Reply}
use Rattle.command_plans.specs.Classes.{class_of}
use Rattle.object_commands.specs.Endings.{AreReading, IsAt, CommandEnds}
use Rattle.object_commands.specs.Running.{Runs}
use Rattle.object_commands.specs.Volumes.{store_of, is_read_only, is_stopped}
use Rattle.object_commands.specs.declared.volume.Volume.{Volume}
use Rattle.object_store.specs.Stores.{settled}
use Rattle.plain_volume.specs.PlainMeaning.{numbers_of, plain_meaning}
use Rattle.plain_volume.specs.declared.objects.store.PlainObjects.{PlainObjects}
use Rattle.plain_volume.specs.Views.{PlainView}
use Rattle.plain_volume.specs.Representing.{state_of, view_of, IsPlain}
use Rattle.plain_volume.specs.Runs.{RunsPlain}

-- the volume stands for its state
pub plain_at : (v : Volume PlainObjects) → IsPlain v → IsAt plain_meaning (numbers_of (store_of v)) (state_of v) v
plain_at v is = record {
  has = record { numbers = is.numbers; sizes = refl; represents = refl; forest = is.sound.well_formed.forest; fit = is.sound.fit };
  handles = refl;
  sound = is.sound;
  only_read = λ only. record { handles = is.reading only; named = is.named only; shown = tt };
}

-- and for no other
pub at_state : (z : Sizes) (s : State) (v : Volume PlainObjects) → IsAt plain_meaning z s v → state_of v ≡ s
at_state z s v at = λ i. record { objects = at.has.represents i; handles = at.handles i }

-- a volume that stands for a state, and goes on, is a plain one
pub at_plain : (z : Sizes) (s : State) (v : Volume PlainObjects) → IsAt plain_meaning z s v → is_stopped v ≡ false → IsPlain v
at_plain z s v at goes = record {
  numbers = subst IsSizes (sym at.has.sizes) at.has.numbers;
  sound = subst (λ (n : Sizes). IsSound n (state_of v)) (sym at.has.sizes) (subst (IsSound z) (sym (at_state z s v at)) at.sound);
  goes_on = goes;
  reading = λ only. subst AreReading (sym at.handles) (at.only_read only).handles;
  named = λ only. subst (λ (o : Objects). settled o ≡ o) (sym at.has.represents) (at.only_read only).named;
}

-- a volume over such maps with such descriptors is a plain one
pub plain_from : (z : Sizes) (s : State) (v : Volume PlainObjects) → IsSizes z → IsSound z s → numbers_of (store_of v) ≡ z → state_of v ≡ s → is_stopped v ≡ false → AreReading s.handles → settled s.objects ≡ s.objects → IsPlain v
plain_from z s v numbers sound sizes state goes reading named = record {
  numbers = subst IsSizes (sym sizes) numbers;
  sound = subst (λ (n : Sizes). IsSound n (state_of v)) (sym sizes) (subst (IsSound z) (sym state) sound);
  goes_on = goes;
  reading = λ _. subst AreReading (sym (ap (λ (x : State). x.handles) state)) reading;
  named = λ _. subst (λ (o : Objects). settled o ≡ o) (sym (ap (λ (x : State). x.objects) state)) named;
}

-- no descriptor is open
pub none_open : AreReading map.empty
none_open fd handle is = let two : None ≡ Some handle = sym (map.get-empty nat_cmp fd) ∙ is in absurd cc

-- How a command over maps ends: as its step does, or passed over for want of memory.
pub record Called (z : Sizes) (read_only : Bool) (s : State) (c : Stamped) (r : Reply) (b : Volume PlainObjects) : Type 0 where
  pub reply : is_no_memory r ≡ false → r ≡ (step z read_only s c).reply
  pub state : is_no_memory r ≡ false → state_of b ≡ (step z read_only s c).state
  pub memory : is_no_memory r ≡ true → (state_of b ≡ s) × (takes_no_memory c.command ≡ false)
  pub goes_on : is_stop r ≡ false
  pub plain : IsPlain b

pub called : (z : Sizes) (read_only : Bool) (s : State) (c : Stamped) (r : Reply) (a b : Volume PlainObjects)
    → CommandEnds plain_meaning z (class_of read_only s c.command) (takes_no_memory c.command) s (step z read_only s c) a b r → Called z read_only s c r b
called z read_only s c r a b (inl done) =
    let own = command_own s z read_only c.moment c.command in
    let memory : is_no_memory r ≡ false = ap is_no_memory done.reply ∙ own.memory in
    record {
      reply = λ _. done.reply;
      state = λ _. at_state z (step z read_only s c).state b done.state;
      memory = λ want. absurd (true≢false (sym want ∙ memory));
      goes_on = ap is_stop done.reply ∙ own.goes;
      plain = at_plain z (step z read_only s c).state b done.state done.goes_on;
    }
called z read_only s c r a b (inr (inl passed)) =
    let memory : is_no_memory r ≡ true = ap is_no_memory passed.1.reply in
    record {
      reply = λ other. absurd (true≢false (sym memory ∙ other));
      state = λ other. absurd (true≢false (sym memory ∙ other));
      memory = λ _. (at_state z s b passed.1.state, passed.0);
      goes_on = ap is_stop passed.1.reply;
      plain = at_plain z s b passed.1.state passed.1.goes_on;
    }
called z read_only s c r a b (inr (inr stopped)) = absurd stopped.left

-- the same, for what the volume is seen as
pub call_ends : (view : PlainView) (c : Stamped) (r : Reply) (a b : Volume PlainObjects) → IsPlain a → view_of a ≡ view
    → (is_stopped a ≡ false → (z : Sizes) (s : State) → IsAt plain_meaning z s a → CommandEnds plain_meaning z (class_of (is_read_only a) s c.command) (takes_no_memory c.command) s (step z (is_read_only a) s c) a b r)
    → Called view.sizes view.read_only view.state c r b
call_ends view c r a b is same ends = subst (λ (v : PlainView). Called v.sizes v.read_only v.state c r b) same
    (called (numbers_of (store_of a)) (is_read_only a) (state_of a) c r a b (ends is.goes_on (numbers_of (store_of a)) (state_of a) (plain_at a is)))

-- a run over maps does not stop
pub run_goes : (cs : List Stamped) (n : ℕ) (before now : List Reply) (a b : Volume PlainObjects) → IsPlain a → Runs plain_meaning cs n before now a b → is_stopped b ≡ false
run_goes cs n before now a b is runs =
    let ran = runs.ran is.goes_on (numbers_of (store_of a)) (state_of a) (plain_at a is) in
    false_from_ne_true (is_stopped b) (λ stop. (ran.failure stop).fails)

pub run_plain : (cs : List Stamped) (n : ℕ) (before now : List Reply) (a b : Volume PlainObjects) → IsPlain a → Runs plain_meaning cs n before now a b → IsPlain b
run_plain cs n before now a b is runs =
    let ran = runs.ran is.goes_on (numbers_of (store_of a)) (state_of a) (plain_at a is) in
    let goes = run_goes cs n before now a b is runs in
    at_plain (numbers_of (store_of a)) (after (numbers_of (store_of a)) (is_read_only a) (state_of a) cs runs.answered) b (ran.state goes) goes

pub runs_plain : (cs : List Stamped) (n : ℕ) (before now : List Reply) (a b : Volume PlainObjects) → IsPlain a → Runs plain_meaning cs n before now a b
    → RunsPlain (view_of a) (view_of b) cs n before now
runs_plain cs n before now a b is runs =
    let ran = runs.ran is.goes_on (numbers_of (store_of a)) (state_of a) (plain_at a is) in
    let goes = run_goes cs n before now a b is runs in
    record {
      answered = runs.answered;
      count = runs.count;
      behind = runs.behind;
      holds = ran.holds;
      goes_on = sym ran.stops ∙ goes;
      state = at_state (numbers_of (store_of a)) (after (numbers_of (store_of a)) (is_read_only a) (state_of a) cs runs.answered) b (ran.state goes);
    }

-- what a volume is seen as, by its parts
pub view_is : (v : Volume PlainObjects) (z : Sizes) (read_only : Bool) (s : State) → numbers_of (store_of v) ≡ z → is_read_only v ≡ read_only → state_of v ≡ s
    → view_of v ≡ record { sizes = z; read_only = read_only; state = s }
view_is v z read_only s sizes same state = λ i. record { sizes = sizes i; read_only = same i; state = state i }
