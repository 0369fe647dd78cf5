-- The commands of a session, one more at a time.
use Rattle.std.specs.Prelude.{◌≡◌, ◌⊎◌, ◌||◌, ◌++◌, ℕ, Bool, true, false, List, [], ◌∷◌, length, Some, None, slice_get}
use Rattle.std.specs.List.{list_any}
use Rattle.std.proofs.Common.{refl, sym, ◌∙◌, ap, subst, inl, inr, arith}
use Rattle.std.proofs.lemmas.Bool.{cases_Bool, true≢false}
use Rattle.std.proofs.lemmas.List.{take_all}
use Rattle.std.proofs.lemmas.List.Folds.{list_any-append}
use Rattle.std.proofs.lemmas.Option.{slice_get_within}
use Rattle.volume_terms.specs.Sizes.{Sizes}
use Rattle.object_store.specs.Stores.{settled}
use Rattle.posix_profile.specs.Losses.{Covers, PowerLossLeaves, settled_after}
use Rattle.posix_profile.specs.Runs.{Replies, after_one, after, is_stop, RunHolds}
use Rattle.posix_profile.specs.State.{Objects, State}
use Rattle.posix_profile.specs.laws.Loss.{loss_more}
use Rattle.posix_profile.specs.laws.Run.{after_more, holds_more}
use Rattle.posix_profile.specs.declared.command.Stamped.{Stamped}
use Rattle.posix_profile.specs.declared.reply.Errno.TheVariants as errors
use Rattle.posix_profile.specs.declared.reply.Reply.{Reply}
use Rattle.posix_profile.specs.declared.reply.Reply.TheVariants as replies
use Rattle.nand_model.specs.Calls.{Device}
use Rattle.flash_tree.specs.Checkpoints.{IsChecked}
use Rattle.pages.specs.State.{PagesState}
use Rattle.pages.specs.Stores.{GoesOn, HasFailed}
use Rattle.paged_objects.specs.Ending.{HasEndedAt}
use Rattle.paged_objects.specs.Representing.{Shown}
use Rattle.page_store.specs.Sealing.{EndsOn, StaysRight}
use Rattle.page_store.specs.laws.Sealing.{ends_going}
use Rattle.posix_calls.specs.Endings.{LiesOn}
use Rattle.posix_calls.specs.laws.Ending.{ends_after, goes_right, right_after}
use Rattle.powercut.specs.Commands.{Meaning, DoesOne, DoesCommands, Does, LeavesFrom, IsUsed}

-- only one reply is the stop
stop_is : (r : Reply) → is_stop r ≡ true → r ≡ replies.Error errors.EIO
stop_is (replies.Error errors.EIO) is = refl
stop_is r is = let two : false ≡ true = is in absurd cc

-- a list with one more is stopped where the last one is, or one before
any_push : (xs : List Reply) (x : Reply) → list_any is_stop xs ≡ false → list_any is_stop (xs ++ x ∷ []) ≡ is_stop x
any_push xs x none = list_any-append is_stop xs (x ∷ []) ∙ ap (λ b. b || (is_stop x || false)) none ∙ or_false (is_stop x)
  where
    or_false : (b : Bool) → (false || (b || false)) ≡ b
    or_false true = refl
    or_false false = refl

none_at : (i : ℕ) (r : Reply) → slice_get [] i ≡ Some r → ⊥
none_at i r is = cc

-- So many commands are done, from a state, and the volume is not stopped.
pub record GoesWell {V : Type 0} (m : Meaning V) (z : Sizes) (s : State) (commands : List Stamped) (reported : List Reply) (a b : V) : Type 0 where
  pub holds : RunHolds z (m.read_only a) s commands reported
  pub none : list_any is_stop reported ≡ false
  pub power_losses : (tree : Objects) → Shown z (m.pages a) tree → PowerLossLeaves (Shown z (m.pages b)) tree z (m.read_only a) s commands reported
  pub goes : m.stopped b ≡ false
  pub state_is : m.represents z (after z (m.read_only a) s commands reported) b

-- from each state that a volume which goes on stands for
pub GoesSoFar : {V : Type 0} (m : Meaning V) (commands : List Stamped) (reported : List Reply) (a b : V) → Type 0
GoesSoFar m commands reported a b = m.stopped a ≡ false → (z : Sizes) (s : State) → m.represents z s a → GoesWell m z s commands reported a b

-- none is done yet
pub well_none : {V : Type 0} (m : Meaning V) (commands : List Stamped) (a : V) → GoesSoFar m commands [] a a
unfolding GoesSoFar
well_none m commands a goes z s is = record {
  holds = tt;
  none = refl;
  power_losses = λ tree shown. inr (λ i done. absurd (none_at i done.1 done.3), shown);
  goes = goes;
  state_is = is;
}

module _ {V : Type 0} (m : Meaning V) (commands : List Stamped) (reported : List Reply) (c : Stamped) (r : Reply) (a b d : V) (at : slice_get commands (length reported) ≡ Some c)
    (same : m.read_only b ≡ m.read_only a) (so_far : GoesSoFar m commands reported a b)
    (one : m.stopped b ≡ false → (z : Sizes) (s : State) → m.represents z s b → DoesOne m z s c r b d) (stops : m.stopped b ≡ false → m.stopped d ≡ is_stop r) where
  module _ (going : m.stopped a ≡ false) (z : Sizes) (s : State) (is : m.represents z s a) where
    was : GoesWell m z s commands reported a b
    unfolding GoesSoFar
    was = so_far going z s is

    abbrev now : State
    now = after z (m.read_only a) s commands reported

    does_one : DoesOne m z now c r b d
    does_one = one was.goes z now was.state_is

    holds_now : RunHolds z (m.read_only a) s commands (reported ++ r ∷ [])
    holds_now =
        let one = subst (λ ro. Replies z ro now c r) same does_one.right in
        holds_more z (m.read_only a) s commands reported c r at was.holds one (λ stop. absurd (true≢false (sym stop ∙ was.none)))

    losses_now : (t : Objects) → Shown z (m.pages a) t → PowerLossLeaves (Shown z (m.pages d)) t z (m.read_only a) s commands (reported ++ r ∷ [])
    losses_now t shown =
        loss_more (Shown z (m.pages b)) (Shown z (m.pages d)) t z (m.read_only a) s commands reported c r at
        does_one.tree does_one.synced (was.power_losses t shown)

    stopped_as : m.stopped d ≡ is_stop r
    stopped_as = stops was.goes

    well_now : m.stopped d ≡ false → GoesWell m z s commands (reported ++ r ∷ []) a d
    well_now still =
        let quiet : is_stop r ≡ false = sym stopped_as ∙ still in
        let next = subst (λ ro. m.represents z (after_one z ro now c r) d) same (does_one.represents quiet) in
        record {
          holds = holds_now;
          none = any_push reported r was.none ∙ quiet;
          power_losses = losses_now;
          goes = still;
          state_is = subst (λ x. m.represents z x d) (sym (after_more z (m.read_only a) s commands reported c r at)) next;
        }

    stopped_now : m.stopped d ≡ true → DoesCommands m z s commands (reported ++ r ∷ []) a d
    stopped_now stopped =
        let stop : is_stop r ≡ true = sym stopped_as ∙ stopped in
        record {
          holds = holds_now;
          begun = inr (reported, ap (λ (x : Reply). reported ++ x ∷ []) (stop_is r stop));
          power_losses = losses_now;
          stops = stopped ∙ sym (any_push reported r was.none ∙ stop);
          cause = λ _. does_one.cause stop;
          failed = λ only _. does_one.failed (same ∙ only) stop;
          represents = λ goes. absurd (true≢false (sym stopped ∙ goes));
        }

  -- one command more
  pub well_more : m.stopped d ≡ false → GoesSoFar m commands (reported ++ r ∷ []) a d
  unfolding GoesSoFar
  well_more still going z s is = well_now going z s is still

  -- the last, at the stop
  pub does_stopped : m.stopped d ≡ true → GoesOn (m.pages a) (m.pages d) → m.read_only d ≡ m.read_only a → (m.stopped a ≡ false → m.stopped b ≡ false) → Does m commands (reported ++ r ∷ []) a d
  does_stopped stopped goes same_only still = record {
    goes_on = goes;
    read_only = same_only;
    begun = λ going. inr (reported, ap (λ (x : Reply). reported ++ x ∷ []) (stop_is r (sym (stops (still going)) ∙ stopped)));
    does = λ going z s is. stopped_now going z s is stopped;
  }

-- all commands are done
pub does_all : {V : Type 0} (m : Meaning V) (commands : List Stamped) (reported : List Reply) (a b : V) → length reported ≡ length commands
    → GoesSoFar m commands reported a b → GoesOn (m.pages a) (m.pages b) → m.read_only b ≡ m.read_only a → Does m commands reported a b
unfolding GoesSoFar
does_all m commands reported a b all so_far goes same_only = record {
  goes_on = goes;
  read_only = same_only;
  begun = λ going. inl all;
  does = λ going z s is.
      let was = so_far going z s is in
      record {
        holds = was.holds;
        begun = inl all;
        power_losses = was.power_losses;
        stops = was.goes ∙ sym was.none;
        cause = λ stopped. absurd (true≢false (sym stopped ∙ was.goes));
        failed = λ only stopped. absurd (true≢false (sym stopped ∙ was.goes));
        represents = λ _. was.state_is;
      };
}

-- a done sync has its reply
covers_all : (commands : List Stamped) (reported : List Reply) → Covers commands reported (length reported)
covers_all commands reported i (command, reply, there, answered, done) = slice_get_within reported i reply answered

all_reported : (z : Sizes) (ro : Bool) (s : State) (commands : List Stamped) (reported : List Reply) → settled_after z ro s commands reported (length reported) ≡ settled (after z ro s commands reported).objects
all_reported z ro s commands reported = ap (λ (x : List Reply). settled (after z ro s commands x).objects) (take_all (length reported) reported (omega arith))

-- What an unmount of a volume that goes on answers and leaves.
pub record UnmountsOne {V : Type 0} (m : Meaning V) (v : V) (q : PagesState) (reply : Reply) : Type 0 where
  pub replies_are : (reply ≡ replies.Done) ⊎ (reply ≡ replies.Error errors.EIO)
  pub done : (z : Sizes) (s : State) → m.represents z s v → reply ≡ replies.Done → Shown z q (settled s.objects)
  pub tree : (z : Sizes) (s : State) → m.represents z s v → (tree : Objects) → Shown z (m.pages v) tree → Shown z q tree ⊎ Shown z q (settled s.objects)
  pub cause : (z : Sizes) (s : State) → m.represents z s v → reply ≡ replies.Error errors.EIO → HasEndedAt q
  pub only_done : m.read_only v ≡ true → reply ≡ replies.Done
  pub checked : (z : Sizes) (s : State) → m.represents z s v → StaysRight (m.pages v) q

module _ {V : Type 0} (m : Meaning V) (commands : List Stamped) (reported : List Reply) (a b : V) (done : Does m commands reported a b) where
  -- the volume is abandoned
  pub used_abandoned : (device : Device) → LiesOn (m.pages b) device → IsUsed m a commands reported None device
  used_abandoned device is = record {
    left = m.pages b;
    device_is = is;
    ends_on = ends_going (m.pages a) (m.pages b) done.goes_on;
    right = λ going z s represents. goes_right (m.pages a) (m.pages b) done.goes_on;
    begun = done.begun;
    abandoned = λ none. (b, done, is);
    leaves = λ going z s tree represents shown.
        let does = done.does going z s represents in
        record {
          holds = does.holds;
          begun = does.begun;
          unmounts = λ reply reported. let two : None ≡ Some reply = reported in absurd cc;
          cause = λ why. elim why [
            | inl stop ↦ does.cause (does.stops ∙ stop)
            | inr reported ↦ let two : None ≡ Some (replies.Error errors.EIO) = reported in absurd cc
          ];
          failed = λ only why. elim why [
            | inl stop ↦ does.failed only (does.stops ∙ stop)
            | inr reported ↦ let two : None ≡ Some (replies.Error errors.EIO) = reported in absurd cc
          ];
          power_losses = does.power_losses tree shown;
          done = λ reported. let two : None ≡ Some replies.Done = reported in absurd cc;
        };
  }

  -- an unmount of the volume, which leaves these pages, with this reply
  module _ (device : Device) (reply : Reply) (q : PagesState) (device_is : LiesOn q device) (on : EndsOn (m.pages b) q) (stops : m.stopped b ≡ true → (reply ≡ replies.Error errors.EIO) × (q ≡ m.pages b))
      (reads : m.read_only b ≡ true → q ≡ m.pages b) (goes : m.stopped b ≡ false → UnmountsOne m b q reply) where
    module _ (going : m.stopped a ≡ false) (z : Sizes) (s : State) (tree : Objects) (represents : m.represents z s a) (shown : Shown z (m.pages a) tree) where
      does : DoesCommands m z s commands reported a b
      does = done.does going z s represents

      reply_is : (reply ≡ replies.Done) ⊎ (reply ≡ replies.Error errors.EIO)
      reply_is = elim (cases_Bool (m.stopped b)) [
        | inl stopped ↦ inr (stops stopped).0
        | inr still ↦ (goes still).replies_are
      ]

      -- the tree that a mount would show before the unmount, or all of the commands
      turned : m.stopped b ≡ false → (t : Objects) → Shown z (m.pages b) t → Shown z q t ⊎ Shown z q (settled_after z (m.read_only a) s commands reported (length reported))
      turned still t there = elim ((goes still).tree z (after z (m.read_only a) s commands reported) (does.represents still) t there) [
        | inl still ↦ inl still
        | inr all ↦ inr (subst (Shown z q) (sym (all_reported z (m.read_only a) s commands reported)) all)
      ]

      left_goes : m.stopped b ≡ false → PowerLossLeaves (Shown z (m.pages b)) tree z (m.read_only a) s commands reported → PowerLossLeaves (Shown z q) tree z (m.read_only a) s commands reported
      left_goes going' (inl some) = elim (turned going' (settled_after z (m.read_only a) s commands reported some.0) some.3) [
        | inl still ↦ inl (some.0, some.1, some.2, still)
        | inr all ↦ inl (length reported, covers_all commands reported, omega arith, all)
      ]
      left_goes going' (inr none) = elim (turned going' tree none.1) [
        | inl still ↦ inr (none.0, still)
        | inr all ↦ inl (length reported, covers_all commands reported, omega arith, all)
      ]

      left_there : PowerLossLeaves (Shown z q) tree z (m.read_only a) s commands reported
      left_there = elim (cases_Bool (m.stopped b)) [
        | inl stopped ↦ subst (λ (p : PagesState). PowerLossLeaves (Shown z p) tree z (m.read_only a) s commands reported) (sym (stops stopped).1) (does.power_losses tree shown)
        | inr still ↦ left_goes still (does.power_losses tree shown)
      ]

      done_there : reply ≡ replies.Done → Shown z q (settled_after z (m.read_only a) s commands reported (length reported))
      done_there is = elim (cases_Bool (m.stopped b)) [
        | inl stopped ↦ let two : replies.Done ≡ replies.Error errors.EIO = sym is ∙ (stops stopped).0 in absurd cc
        | inr still ↦ subst (Shown z q) (sym (all_reported z (m.read_only a) s commands reported)) ((goes still).done z (after z (m.read_only a) s commands reported) (does.represents still) is)
      ]

      ended_there : (list_any is_stop reported ≡ true) ⊎ (reply ≡ replies.Error errors.EIO) → HasEndedAt q
      ended_there why = elim (cases_Bool (m.stopped b)) [
        | inl stopped ↦ subst HasEndedAt (sym (stops stopped).1) (does.cause stopped)
        | inr still ↦ elim why [
          | inl stop ↦ absurd (true≢false (sym (does.stops ∙ stop) ∙ still))
          | inr reported' ↦ (goes still).cause z (after z (m.read_only a) s commands reported) (does.represents still) reported'
        ]
      ]

      failed_there : m.read_only a ≡ true → (list_any is_stop reported ≡ true) ⊎ (reply ≡ replies.Error errors.EIO) → HasFailed q.device
      failed_there only why = elim (cases_Bool (m.stopped b)) [
        | inl stopped ↦ subst (λ (p : PagesState). HasFailed p.device) (sym (stops stopped).1) (does.failed only stopped)
        | inr still ↦ elim why [
          | inl stop ↦ absurd (true≢false (sym (does.stops ∙ stop) ∙ still))
          | inr reported' ↦ let two : replies.Done ≡ replies.Error errors.EIO = sym ((goes still).only_done (done.read_only ∙ only)) ∙ reported' in absurd cc
        ]
      ]

      left_from : LeavesFrom z (m.read_only a) s tree commands reported (Some reply) q
      left_from = record {
        holds = does.holds;
        begun = does.begun;
        unmounts = λ r is. let one : Some reply ≡ Some r = is in let same : reply ≡ r = cc in subst (λ (x : Reply). (x ≡ replies.Done) ⊎ (x ≡ replies.Error errors.EIO)) same reply_is;
        cause = λ why. elim why [
          | inl stop ↦ ended_there (inl stop)
          | inr is ↦ let one : Some reply ≡ Some (replies.Error errors.EIO) = is in let same : reply ≡ replies.Error errors.EIO = cc in ended_there (inr same)
        ];
        failed = λ only why. failed_there only (elim why [
          | inl stop ↦ inl stop
          | inr is ↦ let one : Some reply ≡ Some (replies.Error errors.EIO) = is in let same : reply ≡ replies.Error errors.EIO = cc in inr same
        ]);
        power_losses = left_there;
        done = λ is. let one : Some reply ≡ Some replies.Done = is in let same : reply ≡ replies.Done = cc in done_there same;
      }

    as_left : q ≡ m.pages b → StaysRight (m.pages b) q
    as_left same honest checked = subst (λ (x : PagesState). IsChecked x.device.geometry x.device.flash x.checkpoint) (sym same) checked

    -- the checkpoints stay right in the unmount
    right_there : m.stopped a ≡ false → (z : Sizes) (s : State) → m.represents z s a → StaysRight (m.pages b) q
    right_there going z s represents = elim (cases_Bool (m.stopped b)) [
      | inl stopped ↦ as_left (stops stopped).1
      | inr still ↦ elim (cases_Bool (m.read_only b)) [
        | inl only ↦ as_left (reads only)
        | inr written ↦
            let does = done.does going z s represents in
            (goes still).checked z (after z (m.read_only a) s commands reported) (does.represents still)
      ]
    ]

    -- the volume is unmounted
    pub used_unmounted : IsUsed m a commands reported (Some reply) device
    used_unmounted = record {
      left = q;
      device_is = device_is;
      ends_on = ends_after (m.pages a) (m.pages b) q (ends_going (m.pages a) (m.pages b) done.goes_on) on;
      right = λ going z s represents.
          right_after (m.pages a) (m.pages b) q (ends_going (m.pages a) (m.pages b) done.goes_on) (goes_right (m.pages a) (m.pages b) done.goes_on) (right_there going z s represents);
      begun = done.begun;
      abandoned = λ none. (let two : Some reply ≡ None = none in absurd cc);
      leaves = λ going z s tree represents shown. left_from going z s tree represents shown;
    }
