-- A run goes on by one command.
use Rattle.std.specs.Prelude.{◌≡◌, ℕ, Bool, true, false, List, [], ◌∷◌, ◌++◌, length, Option, Some, None, slice_get}
use Rattle.std.specs.List.{list_any}
use Rattle.std.proofs.Common.{refl, sym, ap, subst, ◌∙◌, inl, inr}
use Rattle.std.proofs.lemmas.Bool.{or_left, or_right, cond-false}
use Rattle.std.specs.FinMap as map
use Rattle.volume_terms.specs.Sizes.{Sizes}
use Rattle.posix_profile.specs.State.{Handle, State}
use Rattle.posix_profile.specs.HandleSteps.{at_handle}
use Rattle.posix_profile.specs.Outcomes.{answer}
use Rattle.posix_profile.specs.Steps.{step_at, step}
use Rattle.posix_profile.specs.Runs.{is_no_memory, is_stop, after_one, after, Replies, AllStopped, RunHolds}
use Rattle.posix_profile.specs.Losses.{is_synced}
use Rattle.posix_profile.specs.declared.command.Command.{Command}
use Rattle.posix_profile.specs.declared.command.Command.TheVariants as commands
use Rattle.posix_profile.specs.declared.command.Stamped.{Stamped}
use Rattle.posix_profile.specs.declared.reply.Reply.{Reply}
use Rattle.posix_profile.specs.declared.reply.Reply.TheVariants as replies

-- the state after one reply more
pub after_more : (z : Sizes) (read_only : Bool) (s : State) (cs : List Stamped) (rs : List Reply) (c : Stamped) (r : Reply) → slice_get cs (length rs) ≡ Some c
    → after z read_only s cs (rs ++ r ∷ []) ≡ after_one z read_only (after z read_only s cs rs) c r
after_more z read_only s [] [] c r is = cc
after_more z read_only s [] (x ∷ rs) c r is = cc
after_more z read_only s (k ∷ cs) [] c r is = let same : k ≡ c = cc in ap (λ v. after_one z read_only s v r) same
after_more z read_only s (k ∷ cs) (x ∷ rs) c r is = after_more z read_only (after_one z read_only s k x) cs rs c r is

stopped_more : (rs : List Reply) (r : Reply) → AllStopped rs → is_stop r ≡ true → AllStopped (rs ++ r ∷ [])
stopped_more [] r all stop = (stop, tt)
stopped_more (x ∷ rs) r all stop = (all.0, stopped_more rs r all.1 stop)

-- a run holds with one reply more that is right, and that is a stop where one was before
pub holds_more : (z : Sizes) (read_only : Bool) (s : State) (cs : List Stamped) (rs : List Reply) (c : Stamped) (r : Reply) → slice_get cs (length rs) ≡ Some c
    → RunHolds z read_only s cs rs → Replies z read_only (after z read_only s cs rs) c r → (list_any is_stop rs ≡ true → is_stop r ≡ true)
    → RunHolds z read_only s cs (rs ++ r ∷ [])
holds_more z read_only s [] [] c r is holds one stops = absurd cc
holds_more z read_only s [] (x ∷ rs) c r is holds one stops = absurd holds
holds_more z read_only s (k ∷ cs) [] c r is holds one stops = let same : k ≡ c = cc in (subst (λ v. Replies z read_only s v r) (sym same) one, (λ _. tt), tt)
holds_more z read_only s (k ∷ cs) (x ∷ rs) c r is holds one stops = (
  holds.0,
  (λ stop. stopped_more rs r (holds.1 stop) (stops (or_left (is_stop x) (list_any is_stop rs) stop))),
  holds_more z read_only (after_one z read_only s k x) cs rs c r is holds.2 one (λ stop. stops (or_right (is_stop x) (list_any is_stop rs) stop)),
)

fsync_keeps : (s : State) (h : Option Handle) → (at_handle s h (λ handle. answer s replies.Done)).state ≡ s
unfolding at_handle
fsync_keeps s None = refl
fsync_keeps s (Some handle) = refl

synced_at : (z : Sizes) (read_only : Bool) (s : State) (moment : ℕ) (command : Command) (r : Reply) → is_synced command r ≡ true
    → after_one z read_only s (record { moment = moment; command = command }) r ≡ s
unfolding step_at
synced_at z read_only s moment commands.Sync replies.Done is = refl
synced_at z read_only s moment (commands.Fsync fd) replies.Done is = fsync_keeps s (map.get s.handles fd)
synced_at z read_only s moment command r is = let two : false ≡ true = is in cc

-- a sync that is done leaves the state
pub synced_keeps : (z : Sizes) (read_only : Bool) (s : State) (c : Stamped) (r : Reply) → is_synced c.command r ≡ true → after_one z read_only s c r ≡ s
synced_keeps z read_only s c r is = synced_at z read_only s c.moment c.command r is

-- a reply that is neither want of memory nor a stop is the step's, and so is the state after it
pub replied_step : (z : Sizes) (read_only : Bool) (s : State) (c : Stamped) (r : Reply) → Replies z read_only s c r → is_no_memory r ≡ false → is_stop r ≡ false
    → (r ≡ (step z read_only s c).reply) × (after_one z read_only s c r ≡ (step z read_only s c).state)
replied_step z read_only s c r (inl is) memory goes = (is, cond-false _ _ _ memory ∙ cond-false _ _ _ goes)
replied_step z read_only s c r (inr (inl none)) memory goes = let two : true ≡ false = sym none.0 ∙ memory in absurd cc
replied_step z read_only s c r (inr (inr stop)) memory goes = let two : true ≡ false = sym stop ∙ goes in absurd cc
