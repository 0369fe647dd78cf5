-- How a plan that is carried out ends, and a command.
use Rattle.std.specs.Prelude.{◌≡◌, ◌⊎◌, Bool, true, false, Result}
use Rattle.std.proofs.Common.{refl, sym, ◌∙◌, ap, subst, inl, inr}
use Rattle.std.proofs.lemmas.Bool.{false_from_ne_true, true≢false}
use Rattle.posix_profile.specs.Outcomes.{Outcome, refuse}
use Rattle.volume_terms.specs.Sizes.{Sizes}
use Rattle.posix_profile.specs.laws.Sound.{IsSound}
use Rattle.posix_profile.specs.Runs.{is_stop}
use Rattle.posix_profile.specs.State.{Objects, State}
use Rattle.posix_profile.specs.Steps.{step_at, step}
use Rattle.posix_profile.specs.declared.command.Command.{Command}
use Rattle.posix_profile.specs.declared.command.Stamped.{Stamped}
use Rattle.posix_profile.specs.declared.reply.Errno.{Errno}
use Rattle.posix_profile.specs.declared.reply.Reply.{Reply}
use Rattle.posix_profile.specs.declared.reply.Reply.TheVariants as replies
use Rattle.object_store.specs.Stores.{Meaning, IsLawful, Has, KeepsOrSettles, settled}
use Rattle.object_store.specs.laws.Store.{has_on}
use Rattle.object_store.specs.declared.refusal.Refusal.{Refusal}
use Rattle.command_plans.specs.Classes.{Class, Reporting, Changing, Syncing, class_of, is_error}
use Rattle.object_commands.specs.Endings.{IsAt, IsOnlyRead, StaysReading, Leaves, IsDone, CommandEnds, ReportsRefusal}
use Rattle.object_commands.specs.laws.Steps.{leaves_shows}
use Rattle.command_plans.specs.Plans.{IsPlan, Plans, Suits, Did, worked, planned, handles_after, does_nothing, frees}
use Rattle.command_plans.specs.Tables.{handles_in}
use Rattle.command_plans.specs.declared.plan.Plan.{Plan}
use Rattle.command_plans.specs.declared.plan.StoreWork.{StoreWork}
use Rattle.command_plans.specs.declared.plan.StoreWork.TheVariants as work
use Rattle.object_commands.specs.declared.volume.Volume.{Volume}
use Rattle.command_plans.specs.laws.Plan.{plans_is}

-- a plan for a command is one for the stamped command that it is
pub plans_step : {S : Type 0} (m : Meaning S) (z : Sizes) (read_only : Bool) (s : State) (stamped : Stamped) (command : Command) (meant : Outcome) (a b : S) → stamped.command ≡ command
    → meant ≡ step_at z read_only s stamped.moment command → (r : Result Plan Refusal) → Plans m z (class_of read_only s command) s meant a b r → Plans m z (class_of read_only s stamped.command) s (step z read_only s stamped) a b r
plans_step m z read_only s stamped command meant a b is means r reported =
    subst (λ c. Plans m z (class_of read_only s c) s (step_at z read_only s stamped.moment c) a b r) (sym is) (plans_is m z (class_of read_only s command) s meant (step_at z read_only s stamped.moment command) a b means r reported)

work_leaves : {S : Type 0} (m : Meaning S) (class : Class) (reply : Reply) (objects : Objects) (w : StoreWork) (a b : S) → Suits class reply w → Did m objects w a b → Leaves m class reply objects (worked objects w) a b
work_leaves m Reporting reply objects work.Nothing a b suits did = (refl, did)
work_leaves m Reporting reply objects (work.Change change) a b suits did = absurd suits
work_leaves m Reporting reply objects work.Commit a b suits did = absurd suits
work_leaves m Changing reply objects work.Nothing a b suits did = inl (refl, did)
work_leaves m Changing reply objects (work.Change change) a b suits did = inr (suits, did)
work_leaves m Changing reply objects work.Commit a b suits did = absurd suits
work_leaves m Syncing reply objects work.Nothing a b suits did = absurd suits
work_leaves m Syncing reply objects (work.Change change) a b suits did = absurd suits
work_leaves m Syncing reply objects work.Commit a b suits did = (refl, inr (suits, did))

error_leaves : {S : Type 0} (m : Meaning S) (class : Class) (e : Errno) (objects : Objects) (a b : S) → m.reads a b → Leaves m class (replies.Error e) objects objects a b
error_leaves m Reporting e objects a b reads = (refl, reads)
error_leaves m Changing e objects a b reads = inl (refl, reads)
error_leaves m Syncing e objects a b reads = (refl, inl (refl, reads))

leaves_on : {S : Type 0} (m : Meaning S) (law : IsLawful m) (class : Class) (reply : Reply) (old new : Objects) (a b c : S) → m.reads a b → Leaves m class reply old new b c → Leaves m class reply old new a c
leaves_on m law Reporting reply old new a b c reads left = (left.0, law.reads_on a b c reads left.1)
leaves_on m law Changing reply old new a b c reads (inl same) = inl (same.0, law.reads_on a b c reads same.1)
leaves_on m law Changing reply old new a b c reads (inr made) = inr (made.0, law.changes_on a b c old new reads made.1)
leaves_on m law Syncing reply old new a b c reads left = (left.0, go left.1)
  where
    go : ((is_error reply ≡ true) × m.reads b c) ⊎ ((reply ≡ replies.Done) × m.commits old b c) → ((is_error reply ≡ true) × m.reads a c) ⊎ ((reply ≡ replies.Done) × m.commits old a c)
    go (inl same) = inl (same.0, law.reads_on a b c reads same.1)
    go (inr done) = inr (done.0, law.commits_on a b c old reads done.1)

-- the store has what it stands for after a call
has_after : {S : Type 0} (m : Meaning S) (law : IsLawful m) (z : Sizes) (old : Objects) (s : State) (a b : S) → Has m z old a → m.lasts a b → m.represents b s.objects → IsSound z s → Has m z s.objects b
has_after m law z old s a b has lasts represents sound = record {
  numbers = has.numbers;
  sizes = law.lasts_sizes a b lasts ∙ has.sizes;
  represents = represents;
  forest = sound.well_formed.forest;
  fit = sound.fit;
}

-- the volume goes on to stand for a state
pub at_on : {S : Type 0} (m : Meaning S) (law : IsLawful m) (z : Sizes) (s : State) (a b : Volume S) → m.reads a.store b.store → b.table ≡ a.table → b.read_only ≡ a.read_only → IsAt m z s a → IsAt m z s b
at_on m law z s a b reads same committed at = record {
  has = has_on m law z s.objects a.store b.store reads at.has;
  handles = ap handles_in same ∙ at.handles;
  sound = at.sound;
  only_read = λ is.
      let only = at.only_read (sym committed ∙ is) in
      record { handles = only.handles; named = only.named; shown = law.reads_shows a.store b.store s.objects reads only.shown };
}

-- a mount shows the objects of a read-only volume after a command too
shown_on : {S : Type 0} (m : Meaning S) (objects : Objects) (a b : S) → settled objects ≡ objects → m.shows a objects → KeepsOrSettles m objects a b → m.shows b objects
shown_on m objects a b named shown turns = elim (turns objects shown) [ inl same ↦ same | inr settles ↦ subst (m.shows b) named settles ]

-- nothing of a read-only volume can be changed or lost after a command
still_only_read : {S : Type 0} (m : Meaning S) (old new : State) (a b : S) → IsOnlyRead m old a → StaysReading old new → KeepsOrSettles m old.objects a b → IsOnlyRead m new b
still_only_read m old new a b only stays turns = record {
  handles = stays.handles;
  named = subst (λ objects. settled objects ≡ objects) (sym stays.objects) only.named;
  shown = subst (m.shows b) (sym stays.objects) (shown_on m old.objects a b only.named only.shown turns);
}

pub is_done : {S : Type 0} (m : Meaning S) (law : IsLawful m) (z : Sizes) (class : Class) (s : State) (meant : Outcome) (plan : Plan) (a b : Volume S) → IsAt m z s a → IsPlan z class s meant plan → IsSound z meant.state → b.read_only ≡ a.read_only → (a.read_only ≡ true → StaysReading s meant.state)
    → m.lasts a.store b.store → m.represents b.store (worked s.objects plan.work) → Did m s.objects plan.work a.store b.store → handles_in b.table ≡ handles_after (handles_in a.table) plan.handles → b.stopped ≡ false
    → IsDone m z class s meant a b plan.reply
is_done m law z class s meant plan a b at is sound committed stays lasts represents did same goes =
    let left = work_leaves m class plan.reply s.objects plan.work a.store b.store is.suits did in
    let stays' : a.read_only ≡ true → StaysReading s (planned s plan).state = subst (λ (o : Outcome). a.read_only ≡ true → StaysReading s o.state) (sym is.means) stays in
    let sound' : IsSound z (planned s plan).state = subst (λ (o : Outcome). IsSound z o.state) (sym is.means) sound in
    subst (λ o. IsDone m z class s o a b plan.reply) is.means (record {
      reply = refl;
      state = record {
        has = has_after m law z s.objects (planned s plan).state a.store b.store at.has lasts represents sound';
        handles = same ∙ ap (λ h. handles_after h plan.handles) at.handles;
        sound = sound';
        only_read = λ only.
            let was = sym committed ∙ only in
            still_only_read m s (planned s plan).state a.store b.store (at.only_read was) (stays' was) (leaves_shows m law class plan.reply s.objects (worked s.objects plan.work) a.store b.store left);
      };
      left = left;
      goes_on = goes;
    })

-- a plan of a command that reports, or that is meant to be answered by an error, is to do nothing
suits_nothing : (class : Class) (reply : Reply) (w : StoreWork) → Suits class reply w → (class ≡ Reporting) ⊎ (is_error reply ≡ true) → does_nothing w ≡ true
suits_nothing class reply work.Nothing suits why = refl
suits_nothing Reporting reply (work.Change change) suits why = absurd suits
suits_nothing Changing reply (work.Change change) suits (inl reports) = absurd cc
suits_nothing Changing reply (work.Change change) suits (inr error) = absurd (true≢false (sym error ∙ suits))
suits_nothing Syncing reply (work.Change change) suits why = absurd suits
suits_nothing Reporting reply work.Commit suits why = absurd suits
suits_nothing Changing reply work.Commit suits why = absurd suits
suits_nothing Syncing reply work.Commit suits (inl reports) = absurd cc
suits_nothing Syncing reply work.Commit suits (inr error) = let two : true ≡ false = sym error ∙ ap is_error suits in absurd cc

pub plan_nothing : (z : Sizes) (class : Class) (s : State) (meant : Outcome) (plan : Plan) → IsPlan z class s meant plan → (class ≡ Reporting) ⊎ (is_error meant.reply ≡ true) → does_nothing plan.work ≡ true
plan_nothing z class s meant plan is why = suits_nothing class plan.reply plan.work is.suits (elim why [ inl reports ↦ inl reports | inr error ↦ inr (ap (λ (o : Outcome). is_error o.reply) is.means ∙ error) ])

-- a command that is answered by an error
pub error_ends : {S : Type 0} (m : Meaning S) (law : IsLawful m) (z : Sizes) (class : Class) (s : State) (meant : Outcome) (e : Errno) (a b : Volume S) → IsAt m z s a → refuse s e ≡ meant
    → m.reads a.store b.store → b.table ≡ a.table → b.read_only ≡ a.read_only → b.stopped ≡ false → IsDone m z class s meant a b (replies.Error e)
error_ends m law z class s meant e a b at is reads same committed goes = subst (λ o. IsDone m z class s o a b (replies.Error e)) is (record {
  reply = refl;
  state = at_on m law z s a b reads same committed at;
  left = error_leaves m class e s.objects a.store b.store reads;
  goes_on = goes;
})

-- a command for which memory was refused, from a volume whose store only read
pub refused_ends : {S : Type 0} (m : Meaning S) (law : IsLawful m) (z : Sizes) (class : Class) (takes_none : Bool) (s : State) (meant : Outcome) (a b : Volume S) (reported : Reply) → IsAt m z s a → takes_none ≡ false
    → m.reads a.store b.store → b.table ≡ a.table → b.read_only ≡ a.read_only → ReportsRefusal m b.store reported → b.stopped ≡ is_stop reported → CommandEnds m z class takes_none s meant a b reported
refused_ends m law z class takes_none s meant a b reported at takes reads same committed (inl refused) stops = inr (inl (
  takes,
  record { reply = refused.0; state = at_on m law z s a b reads same committed at; left = reads; power = refused.1; goes_on = stops ∙ ap is_stop refused.0 },
))
refused_ends m law z class takes_none s meant a b reported at takes reads same committed (inr lost) stops = inr (inr (record {
  reply = lost.0;
  left = law.unread_fails a.store b.store s.objects meant.state.objects (law.powerless_unread a.store b.store reads lost.1);
  unread = λ _. law.powerless_unread a.store b.store reads lost.1;
  stops = stops ∙ ap is_stop lost.0;
}))

-- such a store, where that stops the volume
pub refused_unread : {S : Type 0} (m : Meaning S) (law : IsLawful m) (a b : S) (reported : Reply) → m.reads a b → ReportsRefusal m b reported → is_stop reported ≡ true → m.unread a b
refused_unread m law a b reported reads (inl refused) stop = absurd (true≢false (sym stop ∙ ap is_stop refused.0))
refused_unread m law a b reported reads (inr lost) stop = law.powerless_unread a b reads lost.1

-- a plan that is carried out after calls that read; it takes memory only where the command may
pub ends_on : {S : Type 0} (m : Meaning S) (law : IsLawful m) (z : Sizes) (class : Class) (frees takes_none : Bool) (s : State) (meant : Outcome) (a b c : Volume S) (reported : Reply)
    → m.reads a.store b.store → (takes_none ≡ true → frees ≡ true) → CommandEnds m z class frees s meant b c reported → CommandEnds m z class takes_none s meant a c reported
ends_on m law z class frees takes_none s meant a b c reported reads none (inl done) = inl (record {
  reply = done.reply;
  state = done.state;
  left = leaves_on m law class meant.reply s.objects meant.state.objects a.store b.store c.store reads done.left;
  goes_on = done.goes_on;
})
ends_on m law z class frees takes_none s meant a b c reported reads none (inr (inl passed)) = inr (inl (
  false_from_ne_true takes_none (λ yes'. true≢false (sym (none yes') ∙ passed.0)),
  record { reply = passed.1.reply; state = passed.1.state; left = law.reads_on a.store b.store c.store reads passed.1.left; power = passed.1.power; goes_on = passed.1.goes_on },
))
ends_on m law z class frees takes_none s meant a b c reported reads none (inr (inr stopped)) = inr (inr (record {
  reply = stopped.reply;
  left = law.fails_on a.store b.store c.store s.objects meant.state.objects reads stopped.left;
  unread = λ why. law.unread_on a.store b.store c.store reads (stopped.unread why);
  stops = stopped.stops;
}))

-- a command that reports, and that stops the volume, was ended by a read that failed
pub stop_unread : {S : Type 0} (m : Meaning S) (z : Sizes) (takes_none : Bool) (s : State) (meant : Outcome) (a b : Volume S) (reported : Reply) → is_stop meant.reply ≡ false → is_stop reported ≡ true
    → CommandEnds m z Reporting takes_none s meant a b reported → m.unread a.store b.store
stop_unread m z takes_none s meant a b reported goes stop (inl done) = absurd (true≢false (sym stop ∙ ap is_stop done.reply ∙ goes))
stop_unread m z takes_none s meant a b reported goes stop (inr (inl passed)) = absurd (true≢false (sym stop ∙ ap is_stop passed.1.reply))
stop_unread m z takes_none s meant a b reported goes stop (inr (inr stopped)) = stopped.unread (inl refl)

-- a plan that is to do nothing is one of a command that reports
pub nothing_reports : (z : Sizes) (class : Class) (s : State) (meant : Outcome) (plan : Plan) → IsPlan z class s meant plan → does_nothing plan.work ≡ true → IsPlan z Reporting s meant plan
nothing_reports z class s meant plan is none = record { means = is.means; can = is.can; range = is.range; suits = go plan.work none }
  where
    go : (w : StoreWork) → does_nothing w ≡ true → Suits Reporting plan.reply w
    go work.Nothing none = tt
    go (work.Change change) none = let two : false ≡ true = none in absurd cc
    go work.Commit none = let two : false ≡ true = none in absurd cc
