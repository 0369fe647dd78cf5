-- One command of a volume: its reply, what it leaves, and the state after it.
use Rattle.std.specs.Prelude.{◌≡◌, ◌⊎◌, Bool, true, false}
use Rattle.std.proofs.Common.{refl, sym, ◌∙◌, ap, subst, inl, inr}
use Rattle.std.proofs.lemmas.Bool.{cond-true, cond-false, true≢false}
use Rattle.posix_profile.specs.Losses.{is_synced}
use Rattle.posix_profile.specs.laws.Own.{command_own}
use Rattle.posix_profile.specs.Runs.{is_no_memory, is_stop, takes_no_memory, after_one, Replies}
use Rattle.volume_terms.specs.Sizes.{Sizes}
use Rattle.posix_profile.specs.State.{Objects, State}
use Rattle.posix_profile.specs.Steps.{step}
use Rattle.posix_profile.specs.declared.command.Command.{Command}
use Rattle.posix_profile.specs.declared.command.Command.TheVariants as commands
use Rattle.posix_profile.specs.declared.command.Stamped.{Stamped}
use Rattle.posix_profile.specs.declared.reply.Errno.{Errno}
use Rattle.posix_profile.specs.declared.reply.Errno.TheVariants as errors
use Rattle.posix_profile.specs.declared.reply.Reply.{Reply}
use Rattle.posix_profile.specs.declared.reply.Reply.TheVariants as replies
use Rattle.object_store.specs.Stores.{Meaning, IsLawful, KeepsOrSettles, settled}
use Rattle.command_plans.specs.Classes.{Class, Reporting, Changing, Syncing, reports_if, class_of, is_error}
use Rattle.object_commands.specs.Endings.{IsAt, Leaves, CommandEnds}
use Rattle.object_commands.specs.Running.{OnlyReports}
use Rattle.object_commands.specs.declared.volume.Volume.{Volume}

-- what a done command leaves keeps the tree that a mount shows or settles it
pub leaves_shows : {S : Type 0} (m : Meaning S) (law : IsLawful m) (class : Class) (reply : Reply) (old new : Objects) (a b : S) → Leaves m class reply old new a b → KeepsOrSettles m old a b
leaves_shows m law Reporting reply old new a b left = λ t shown. inl (law.reads_shows a b t left.1 shown)
leaves_shows m law Changing reply old new a b (inl same) = λ t shown. inl (law.reads_shows a b t same.1 shown)
leaves_shows m law Changing reply old new a b (inr made) = law.changes_shows a b old new made.1
leaves_shows m law Syncing reply old new a b left = go left.1
  where
    go : ((is_error reply ≡ true) × m.reads a b) ⊎ ((reply ≡ replies.Done) × m.commits old a b) → KeepsOrSettles m old a b
    go (inl same) = λ t shown. inl (law.reads_shows a b t same.1 shown)
    go (inr done) = λ t shown. inr (law.commits_shows a b old done.1)

-- a sync that is done settles it
sync_done : {S : Type 0} (m : Meaning S) (law : IsLawful m) (reply : Reply) (old new : Objects) (a b : S) → reply ≡ replies.Done → Leaves m Syncing reply old new a b → m.shows b (settled old)
sync_done m law reply old new a b is left = go left.1
  where
    go : ((is_error reply ≡ true) × m.reads a b) ⊎ ((reply ≡ replies.Done) × m.commits old a b) → m.shows b (settled old)
    go (inl same) = let two : false ≡ true = sym (ap is_error is) ∙ same.0 in absurd cc
    go (inr done) = law.commits_shows a b old done.1

-- so does one of a read-only volume, which a mount shows as it is
sync_leaves : {S : Type 0} (m : Meaning S) (law : IsLawful m) (read_only : Bool) (reply : Reply) (old new : Objects) (a b : S) → reply ≡ replies.Done → (read_only ≡ true → m.shows a (settled old))
    → Leaves m (reports_if read_only Syncing) reply old new a b → m.shows b (settled old)
sync_leaves m law true reply old new a b is shown left = law.reads_shows a b (settled old) left.1 (shown refl)
sync_leaves m law false reply old new a b is shown left = sync_done m law reply old new a b is left

-- of a read-only volume a mount shows the objects
pub at_shown : {S : Type 0} (m : Meaning S) (z : Sizes) (s : State) (v : Volume S) → IsAt m z s v → v.read_only ≡ true → m.shows v.store (settled s.objects)
at_shown m z s v at is = let only = at.only_read is in subst (m.shows v.store) (sym only.named) only.shown

-- what reports, and what is answered by an error, only reads
leaves_reads : {S : Type 0} (m : Meaning S) (class : Class) (reply : Reply) (old new : Objects) (a b : S) → Leaves m class reply old new a b → (class ≡ Reporting) ⊎ (is_error reply ≡ true) → m.reads a b
leaves_reads m Reporting reply old new a b left why = left.1
leaves_reads m Changing reply old new a b (inl same) why = same.1
leaves_reads m Changing reply old new a b (inr made) (inl reports) = absurd cc
leaves_reads m Changing reply old new a b (inr made) (inr error) = absurd (true≢false (sym error ∙ made.0))
leaves_reads m Syncing reply old new a b left why = go left.1 why
  where
    go : ((is_error reply ≡ true) × m.reads a b) ⊎ ((reply ≡ replies.Done) × m.commits old a b) → (Syncing ≡ Reporting) ⊎ (is_error reply ≡ true) → m.reads a b
    go (inl same) why' = same.1
    go (inr done) (inl reports) = absurd cc
    go (inr done) (inr error) = absurd (true≢false (sym error ∙ ap is_error done.0))

synced_is : (read_only : Bool) (s : State) (command : Command) (reply : Reply) → is_synced command reply ≡ true → (class_of read_only s command ≡ reports_if read_only Syncing) × (reply ≡ replies.Done)
synced_is read_only s commands.Sync replies.Done is = (refl, refl)
synced_is read_only s (commands.Fsync fd) replies.Done is = (refl, refl)
synced_is read_only s command reply is = let two : false ≡ true = is in absurd cc

pub error_unsynced : (command : Command) (e : Errno) → is_synced command (replies.Error e) ≡ true → ⊥
error_unsynced (commands.Fsync fd) e is = let two : false ≡ true = is in absurd cc
error_unsynced commands.Sync e is = let two : false ≡ true = is in absurd cc
error_unsynced command e is = let two : false ≡ true = is in absurd cc

-- One command, from the state that the volume represents: its reply, what it leaves of the tree that a mount shows, and the
-- state. One that reports, one that is meant to be answered by an error, and one that is answered by want of memory only read, and
-- the last leaves a device with power.
pub record One {S : Type 0} (m : Meaning S) (z : Sizes) (read_only : Bool) (s : State) (c : Stamped) (r : Reply) (a b : Volume S) : Type 0 where
  pub replies : Replies z read_only s c r
  pub power_loss : KeepsOrSettles m s.objects a.store b.store
  pub sync : is_synced c.command r ≡ true → m.shows b.store (settled s.objects)
  pub stops : b.stopped ≡ is_stop r
  pub fails : is_stop r ≡ true → m.fails s.objects (step z read_only s c).state.objects a.store b.store
  pub state : is_stop r ≡ false → IsAt m z (after_one z read_only s c r) b
  pub reads : OnlyReports z read_only s c r → m.reads a.store b.store
  pub power : is_no_memory r ≡ true → m.has_power b.store ≡ true

pub one_ends : {S : Type 0} (m : Meaning S) (law : IsLawful m) (z : Sizes) (read_only : Bool) (s : State) (c : Stamped) (r : Reply) (a b : Volume S) → (read_only ≡ true → m.shows a.store (settled s.objects))
    → CommandEnds m z (class_of read_only s c.command) (takes_no_memory c.command) s (step z read_only s c) a b r → One m z read_only s c r a b
one_ends m law z read_only s c r a b shown (inl done) =
    let own = command_own s z read_only c.moment c.command in
    let memory : is_no_memory r ≡ false = ap is_no_memory done.reply ∙ own.memory in
    let goes : is_stop r ≡ false = ap is_stop done.reply ∙ own.goes in
    let is : after_one z read_only s c r ≡ (step z read_only s c).state = cond-false _ _ _ memory ∙ cond-false _ _ _ goes in
    let o = step z read_only s c in
    let class = class_of read_only s c.command in
    let left_reads : (class ≡ Reporting) ⊎ (is_error o.reply ≡ true) → m.reads a.store b.store = leaves_reads m class o.reply s.objects o.state.objects a.store b.store done.left in
    record {
      replies = inl done.reply;
      power_loss = leaves_shows m law class o.reply s.objects o.state.objects a.store b.store done.left;
      sync = λ synced.
          let reported = synced_is read_only s c.command r synced in
          sync_leaves m law read_only o.reply s.objects o.state.objects a.store b.store (sym done.reply ∙ reported.1) shown (subst (λ k. Leaves m k o.reply s.objects o.state.objects a.store b.store) reported.0 done.left);
      stops = done.goes_on ∙ sym goes;
      fails = λ stop. absurd (true≢false (sym stop ∙ goes));
      state = λ _. subst (λ x. IsAt m z x b) (sym is) done.state;
      reads = λ why. elim why [
        | inl reports ↦ left_reads (inl reports)
        | inr (inl error) ↦ left_reads (inr error)
        | inr (inr want) ↦ absurd (true≢false (sym want ∙ memory))
      ];
      power = λ refused. absurd (true≢false (sym refused ∙ memory));
    }
one_ends m law z read_only s c r a b shown (inr (inl passed)) =
    let memory : is_no_memory r ≡ true = ap is_no_memory passed.1.reply in
    record {
      replies = inr (inl (memory, passed.0));
      power_loss = λ t shown. inl (law.reads_shows a.store b.store t passed.1.left shown);
      sync = λ synced. absurd (error_unsynced c.command errors.ENOMEM (ap (is_synced c.command) (sym passed.1.reply) ∙ synced));
      stops = passed.1.goes_on ∙ sym (ap is_stop passed.1.reply);
      fails = λ stop. absurd (true≢false (sym stop ∙ ap is_stop passed.1.reply));
      state = λ _. subst (λ x. IsAt m z x b) (sym (cond-true _ _ _ memory)) passed.1.state;
      reads = λ _. passed.1.left;
      power = λ _. passed.1.power;
    }
one_ends m law z read_only s c r a b shown (inr (inr stopped)) = record {
  replies = inr (inr (ap is_stop stopped.reply));
  power_loss = law.fails_shows a.store b.store s.objects (step z read_only s c).state.objects stopped.left;
  sync = λ synced. absurd (error_unsynced c.command errors.EIO (ap (is_synced c.command) (sym stopped.reply) ∙ synced));
  stops = stopped.stops ∙ sym (ap is_stop stopped.reply);
  fails = λ stop. stopped.left;
  state = λ goes. absurd (true≢false (sym (ap is_stop stopped.reply) ∙ goes));
  reads = λ why. elim why [
    | inl reports ↦ law.unread_reads a.store b.store (stopped.unread (inl reports))
    | inr (inl error) ↦ law.unread_reads a.store b.store (stopped.unread (inr error))
    | inr (inr want) ↦ absurd (true≢false (sym want ∙ ap is_no_memory stopped.reply))
  ];
  power = λ refused. absurd (true≢false (sym refused ∙ ap is_no_memory stopped.reply));
}
