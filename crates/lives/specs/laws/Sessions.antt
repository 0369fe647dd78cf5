-- What follows of one session.
use Rattle.std.specs.Prelude.{◌≡◌, ◌⊎◌, ◌<◌, ◌≤◌, ℕ, suc, Bool, true, false, ◌||◌, List, [], ◌∷◌, ◌++◌, length, take, Some, None}
use Rattle.std.specs.List.{list_any}
use Rattle.std.proofs.Common.{refl, sym, ap, subst, ◌∙◌, inl, inr, arith}
use Rattle.std.proofs.lemmas.Bool.{cases_Bool, or_right}
use Rattle.std.proofs.lemmas.List.{take_all}
use Rattle.std.proofs.lemmas.List.Folds.{list_any-append}
use Rattle.std.proofs.lemmas.Option.{slice_get_within}
use Rattle.volume_terms.specs.Sizes.{Sizes, IsSizes}
use Rattle.posix_profile.specs.State.{Objects, State}
use Rattle.posix_profile.specs.Names.{settle}
use Rattle.posix_profile.specs.Steps.{step}
use Rattle.posix_profile.specs.Runs.{is_no_memory, is_stop, after_one, after, RunHolds}
use Rattle.posix_profile.specs.Losses.{Covers, settled_after, PowerLossLeaves}
use Rattle.posix_profile.specs.laws.Own.{command_own}
use Rattle.posix_profile.specs.laws.Prune.{prune_same}
use Rattle.posix_profile.specs.laws.Run.{replied_step}
use Rattle.posix_profile.specs.laws.Sound.{IsSound}
use Rattle.posix_profile.specs.laws.Step.{AreStamped, after_sound, settle_sound}
use Rattle.posix_profile.specs.declared.command.Stamped.{Stamped}
use Rattle.posix_profile.specs.declared.reply.Errno.TheVariants as errors
use Rattle.posix_profile.specs.declared.reply.Reply.{Reply}
use Rattle.posix_profile.specs.declared.reply.Reply.TheVariants as replies
use Rattle.lives.specs.LawTerms.{IsNotStopped, EndsSynced}
use Rattle.lives.specs.Lives.{Mounted, NoMemory, Gone, Faulty, SessionRecord, at_mount, tree_after, Serves, IsSessionFrom, FailsToMount}
use Rattle.lives.specs.PlainLives.{step_replies, step_state, plain_tree, plain_session, IsUndisturbed, IsWhole}

-- no session finds a fault on the flash
pub no_fault : (z : Sizes) (before : Objects) (session : SessionRecord) (after : Objects) → IsSessionFrom z before session after → session.mounted ≡ Faulty → ⊥
no_fault z before session after is fault = elim is.ends [
  | inl fails ↦ elim fails.mounted [
    | inl memory ↦ let two : NoMemory ≡ Faulty = sym memory ∙ fault in absurd cc
    | inr gone ↦ let two : Gone ≡ Faulty = sym gone ∙ fault in absurd cc
  ]
  | inr serves ↦ let two : Mounted ≡ Faulty = sym serves.mounted ∙ fault in absurd cc
]

-- where the mount was done the session serves its commands
pub serves_mounted : (z : Sizes) (before : Objects) (session : SessionRecord) (after : Objects) → IsSessionFrom z before session after → session.mounted ≡ Mounted → Serves z before session after
serves_mounted z before session after is mounted = elim is.ends [
  | inl fails ↦ elim fails.mounted [
    | inl memory ↦ let two : NoMemory ≡ Mounted = sym memory ∙ mounted in absurd cc
    | inr gone ↦ let two : Gone ≡ Mounted = sym gone ∙ mounted in absurd cc
  ]
  | inr serves ↦ serves
]

-- where it was not the tree stays
pub stays_unmounted : (z : Sizes) (before : Objects) (session : SessionRecord) (after : Objects) → IsSessionFrom z before session after → (session.mounted ≡ Mounted → ⊥) → after ≡ before
stays_unmounted z before session after is not = elim is.ends [
  | inl fails ↦ fails.tree
  | inr serves ↦ absurd (not serves.mounted)
]

-- a run has no more replies than commands
run_within : (z : Sizes) (s : State) (cs : List Stamped) (rs : List Reply) → RunHolds z false s cs rs → length rs ≤ length cs
run_within z s [] [] holds = omega arith
run_within z s (c ∷ cs) [] holds = omega arith
run_within z s [] (r ∷ rs) holds = absurd holds
run_within z s (c ∷ cs) (r ∷ rs) holds = omega (arith, run_within z (after_one z false s c r) cs rs holds.2)

-- each command that was begun has its reply
pub replies_begun : (z : Sizes) (before after : Objects) (session : SessionRecord) → IsSessionFrom z before session after → length session.replies ≡ session.begun
replies_begun z before after session is = elim is.ends [ inl fails ↦ ap length fails.replies ∙ sym fails.begun | inr serves ↦ serves.answered ]

-- and it is one of those that were handed in
pub begun_within : (z : Sizes) (before after : Objects) (session : SessionRecord) → IsSessionFrom z before session after → session.begun ≤ length session.commands
begun_within z before after session is = elim is.ends [
  | inl fails ↦ omega (arith, fails.begun)
  | inr serves ↦ omega (arith, serves.answered, run_within z (at_mount before) session.commands session.replies serves.run)
]

-- without a cut no command is answered by the stop
pub goes_on : (session : SessionRecord) → (list_any is_stop session.replies ≡ true → session.cut ≡ true) → session.cut ≡ false → list_any is_stop session.replies ≡ false
goes_on session cuts uncut = elim (cases_Bool (list_any is_stop session.replies)) [
  | inl stops ↦ let two : true ≡ false = sym (cuts stops) ∙ uncut in absurd cc
  | inr goes ↦ goes
]

-- without a cut a mount fails for want of memory alone, no command is answered by the stop, and an unmount is done
pub uncut_session : (z : Sizes) (before after : Objects) (session : SessionRecord) → IsSessionFrom z before session after → session.cut ≡ false → IsNotStopped session
uncut_session z before after session is uncut = record { mount = mount is.ends; commands = goes_on session is.cuts.commands uncut; unmount = done is.ends }
  where
    mount : FailsToMount before session after ⊎ Serves z before session after → (session.mounted ≡ Mounted) ⊎ (session.mounted ≡ NoMemory)
    mount (inl fails) = elim fails.mounted [
      | inl memory ↦ inr memory
      | inr gone ↦ let two : true ≡ false = sym (is.cuts.mount gone) ∙ uncut in absurd cc
    ]
    mount (inr serves) = inl serves.mounted

    done : FailsToMount before session after ⊎ Serves z before session after → (reply : Reply) → session.unmounted ≡ Some reply → reply ≡ replies.Done
    done (inl fails) reply reported = let two : None ≡ Some reply = sym fails.unmounted ∙ reported in absurd cc
    done (inr serves) reply reported = elim (serves.unmounted reply reported) [
      | inl is_done ↦ is_done
      | inr stop ↦ let two : true ≡ false = sym (is.cuts.unmount (reported ∙ ap Some stop)) ∙ uncut in absurd cc
    ]

-- a stop at the end is a stop
stop_there : (before : List Reply) → list_any is_stop (before ++ replies.Error errors.EIO ∷ []) ≡ true
stop_there before = list_any-append is_stop before (replies.Error errors.EIO ∷ []) ∙ or_right (list_any is_stop before) true refl

-- then all of them are begun
pub all_begun : (z : Sizes) (before : Objects) (session : SessionRecord) (after : Objects) → Serves z before session after → list_any is_stop session.replies ≡ false → session.begun ≡ length session.commands
all_begun z before session after serves goes = elim serves.begun [
  | inl all ↦ all
  | inr ends ↦ let two : true ≡ false = sym (stop_there ends.0) ∙ sym (ap (list_any is_stop) ends.1) ∙ goes in absurd cc
]

none_first : (a b : Bool) → (a || b) ≡ false → a ≡ false
none_first false b is = refl
none_first true b is = let two : true ≡ false = is in absurd cc

none_then : (a b : Bool) → (a || b) ≡ false → b ≡ false
none_then false b is = is
none_then true b is = let two : true ≡ false = is in absurd cc

-- a run that passes nothing over and is not stopped is that of the steps
pub run_steps : (z : Sizes) (s : State) (cs : List Stamped) (rs : List Reply) → RunHolds z false s cs rs → length rs ≡ length cs
    → list_any is_no_memory rs ≡ false → list_any is_stop rs ≡ false
    → (rs ≡ step_replies z s cs) × (after z false s cs rs ≡ step_state z s cs)
run_steps z s [] [] holds len memory goes = (refl, refl)
run_steps z s (c ∷ cs) [] holds len memory goes = absurd (omega (arith, len))
run_steps z s [] (r ∷ rs) holds len memory goes = absurd holds
run_steps z s (c ∷ cs) (r ∷ rs) holds len memory goes =
    let one = replied_step z false s c r holds.0 (none_first (is_no_memory r) (list_any is_no_memory rs) memory) (none_first (is_stop r) (list_any is_stop rs) goes) in
    let rest = run_steps z (after_one z false s c r) cs rs holds.2 (omega (arith, len)) (none_then (is_no_memory r) (list_any is_no_memory rs) memory) (none_then (is_stop r) (list_any is_stop rs) goes) in (
      ap (λ x. x ∷ rs) one.0 ∙ ap (λ (x : List Reply). (step z false s c).reply ∷ x) (rest.0 ∙ ap (λ (t : State). step_replies z t cs) one.1),
      rest.1 ∙ ap (λ (t : State). step_state z t cs) one.1,
    )

pub steps_length : (z : Sizes) (s : State) (cs : List Stamped) → length (step_replies z s cs) ≡ length cs
steps_length z s [] = refl
steps_length z s (c ∷ cs) = ap suc (steps_length z (step z false s c).state cs)

pub steps_memory : (z : Sizes) (s : State) (cs : List Stamped) → list_any is_no_memory (step_replies z s cs) ≡ false
steps_memory z s [] = refl
steps_memory z s (c ∷ cs) = ap (λ b. b || list_any is_no_memory (step_replies z (step z false s c).state cs)) (command_own s z false c.moment c.command).memory ∙ steps_memory z (step z false s c).state cs

pub steps_go : (z : Sizes) (s : State) (cs : List Stamped) → list_any is_stop (step_replies z s cs) ≡ false
steps_go z s [] = refl
steps_go z s (c ∷ cs) = ap (λ b. b || list_any is_stop (step_replies z (step z false s c).state cs)) (command_own s z false c.moment c.command).goes ∙ steps_go z (step z false s c).state cs

-- the replies of the steps are a run
pub steps_hold : (z : Sizes) (s : State) (cs : List Stamped) → RunHolds z false s cs (step_replies z s cs)
steps_hold z s [] = tt
steps_hold z s (c ∷ cs) =
    let own = command_own s z false c.moment c.command in
    let reply : Reply = (step z false s c).reply in (
      inl refl,
      (λ stop. let two : true ≡ false = sym stop ∙ own.goes in absurd cc),
      subst (λ (t : State). RunHolds z false t cs (step_replies z (step z false s c).state cs)) (sym (replied_step z false s c reply (inl refl) own.memory own.goes).1) (steps_hold z (step z false s c).state cs),
    )

pub steps_after : (z : Sizes) (s : State) (cs : List Stamped) → after z false s cs (step_replies z s cs) ≡ step_state z s cs
steps_after z s cs = (run_steps z s cs (step_replies z s cs) (steps_hold z s cs) (steps_length z s cs) (steps_memory z s cs) (steps_go z s cs)).1

-- the replies of a session that was mounted, without a cut or want of memory, are those of the steps
pub undisturbed_replies : (z : Sizes) (before : Objects) (session : SessionRecord) (after : Objects) → IsSessionFrom z before session after → IsUndisturbed session
    → session.replies ≡ step_replies z (at_mount before) session.commands
undisturbed_replies z before session after is calm =
    let serves = serves_mounted z before session after is calm.mounted in
    let goes = goes_on session is.cuts.commands calm.cut in
    (run_steps z (at_mount before) session.commands session.replies serves.run (serves.answered ∙ all_begun z before session after serves goes) calm.memory goes).0

-- where all that was begun is in the tree, it is the one after all replies
pub whole_prefix : (z : Sizes) (s : State) (cs : List Stamped) (rs : List Reply) (k : ℕ) → k ≡ length rs → settled_after z false s cs rs k ≡ (settle (after z false s cs rs)).objects
whole_prefix z s cs rs k all = ap (λ (x : List Reply). (settle (after z false s cs x)).objects) (take_all k rs (omega (arith, all)))

-- a session in which nothing goes wrong is the plain one
pub whole_is_plain : (z : Sizes) (before : Objects) (session : SessionRecord) (after : Objects) → IsSessionFrom z before session after → IsWhole session
    → (session ≡ plain_session z before session.commands) × (after ≡ plain_tree z before session.commands)
whole_is_plain z before session after is (calm, unmounted) =
    let serves = serves_mounted z before session after is calm.mounted in
    let goes = goes_on session is.cuts.commands calm.cut in
    let all : session.begun ≡ length session.commands = all_begun z before session after serves goes in
    let steps = run_steps z (at_mount before) session.commands session.replies serves.run (serves.answered ∙ all) calm.memory goes in
    let mounted : session.mounted ≡ Mounted = calm.mounted in
    let uncut : session.cut ≡ false = calm.cut in (
      (λ i. record { mounted = mounted i; commands = session.commands; begun = all i; replies = steps.0 i; unmounted = unmounted i; cut = uncut i }),
      serves.keeps.tree
          ∙ whole_prefix z (at_mount before) session.commands session.replies serves.keeps.count (serves.keeps.unmounted unmounted ∙ sym serves.answered)
          ∙ ap (λ (t : State). (settle t).objects) steps.1,
    )

-- and the plain one is a session
pub plain_is_session : (z : Sizes) (before : Objects) (commands : List Stamped) → IsSessionFrom z before (plain_session z before commands) (plain_tree z before commands)
plain_is_session z before commands =
    let reported : List Reply = step_replies z (at_mount before) commands in
    let long : length reported ≡ length commands = steps_length z (at_mount before) commands in
    record {
      ends = inr (record {
        mounted = refl;
        answered = long;
        run = steps_hold z (at_mount before) commands;
        begun = inl refl;
        unmounted = λ reply is. let one : Some replies.Done ≡ Some reply = is in let same : reply ≡ replies.Done = cc in inl same;
        keeps = record {
          count = length commands;
          covers = λ i (command, reply, there, is, done). omega (arith, slice_get_within commands i command there);
          within = omega arith;
          unmounted = λ is. refl;
          tree = ap (λ (t : State). (settle t).objects) (sym (steps_after z (at_mount before) commands)) ∙ sym (whole_prefix z (at_mount before) commands reported (length commands) (sym long));
        };
      });
      cuts = record {
        mount = λ gone. let two : Mounted ≡ Gone = gone in absurd cc;
        commands = λ stops. let two : true ≡ false = sym stops ∙ steps_go z (at_mount before) commands in absurd cc;
        unmount = λ is. let two : Some replies.Done ≡ Some (replies.Error errors.EIO) = is in absurd cc;
      };
    }

-- a done sync after which no command was begun leaves the whole
pub synced_whole : (z : Sizes) (before after : Objects) (session : SessionRecord) → IsSessionFrom z before session after → EndsSynced session → after ≡ tree_after z before session session.begun
synced_whole z before after session is ends = elim is.ends [
  | inl fails ↦
      let none : ends.at < 0 = (let (command, reply, there, reported, done) = ends.synced in subst (λ (x : List Reply). ends.at < length x) fails.replies (slice_get_within session.replies ends.at reply reported)) in
      absurd (omega (arith, none))
  | inr serves ↦
      let all : serves.keeps.count ≡ session.begun = omega (arith, serves.keeps.covers ends.at ends.synced, serves.keeps.within, ends.last) in
      serves.keeps.tree ∙ ap (tree_after z before session) all
]

-- what a mount shows after a session is sound where it was before
pub session_sound : (z : Sizes) (before : Objects) (session : SessionRecord) (left : Objects) → IsSizes z → AreStamped session.commands → IsSessionFrom z before session left
    → IsSound z (at_mount before) → IsSound z (at_mount left)
session_sound z before session left sizes stamped is sound = elim is.ends [
  | inl fails ↦ subst (λ (t : Objects). IsSound z (at_mount t)) (sym fails.tree) sound
  | inr serves ↦
      let k = serves.keeps.count in
      subst (λ (t : Objects). IsSound z (at_mount t)) (sym serves.keeps.tree)
      (settle_sound z (after z false (at_mount before) session.commands (take k session.replies)) (after_sound z false (at_mount before) session.commands (take k session.replies) sizes stamped sound))
]

-- What a loss leaves of a run is the tree of some of its commands: from the tree of a mount, none of them is such a tree too.
pub loss_keeps : (tree : Objects → Type 0) (z : Sizes) (before : Objects) (cs : List Stamped) (rs : List Reply) → IsSound z (at_mount before) → PowerLossLeaves tree before z false (at_mount before) cs rs
    → (k : ℕ) × Covers cs rs k × (k ≤ length rs) × tree (settled_after z false (at_mount before) cs rs k)
loss_keeps tree z before cs rs sound (inl some) = some
loss_keeps tree z before cs rs sound (inr none) =
    let same : (settle (at_mount before)).objects ≡ before = ap (λ (s : State). s.objects) (prune_same z (at_mount before) sound.well_formed) in
    (0, none.0, omega arith, subst tree (sym same) none.1)
