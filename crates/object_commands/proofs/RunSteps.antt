-- A run goes on by one command.
use Rattle.std.specs.Prelude.{◌≡◌, ◌⊎◌, ◌||◌, ◌++◌, ◌+◌, ◌<◌, ◌≤◌, ℕ, zero, suc, Bool, true, false, List, [], ◌∷◌, length, take, All, Some, slice_get, get_or}
use Rattle.std.specs.List.{list_any}
use Rattle.std.proofs.Common.{refl, sym, ◌∙◌, ap, subst, inl, inr, arith}
use Rattle.std.proofs.lemmas.Bool.{cases_Bool, true≢false, or_right, or_parts}
use Rattle.std.proofs.lemmas.List.{append_assoc, append-nil, length_push, take-append-le, take_all}
use Rattle.std.proofs.lemmas.List.Elements.{All-nil, All-cons, All-head, All-tail}
use Rattle.posix_profile.specs.laws.Loss.{loss_more}
use Rattle.posix_profile.specs.Losses.{is_synced}
use Rattle.posix_profile.specs.laws.Run.{after_more, holds_more}
use Rattle.posix_profile.specs.Runs.{is_stop, is_no_memory, takes_no_memory, after_one, after, AllStopped}
use Rattle.volume_terms.specs.Sizes.{Sizes}
use Rattle.posix_profile.specs.State.{State}
use Rattle.posix_profile.specs.Steps.{step}
use Rattle.posix_profile.specs.declared.command.Stamped.{Stamped}
use Rattle.posix_profile.specs.declared.reply.Errno.TheVariants as errors
use Rattle.posix_profile.specs.declared.reply.Reply.{Reply}
use Rattle.posix_profile.specs.declared.reply.Reply.TheVariants as replies
use Rattle.object_store.specs.Stores.{Meaning, IsLawful}
use Rattle.command_plans.specs.Classes.{class_of, makes_no_call}
use Rattle.object_commands.specs.Endings.{IsAt, CommandEnds}
use Rattle.object_commands.specs.Running.{StaysStopped, ends_refused, OnlyReports, WritesNothing, EachAnswered, InTurn, Failure, Ran, Runs}
use Rattle.object_commands.specs.laws.Steps.{One, one_ends, error_unsynced, at_shown}
use Rattle.object_commands.specs.declared.volume.Volume.{Volume}

or_false : (b : Bool) → (b || false) ≡ b
or_false true = refl
or_false false = refl

any_push : {A : Type 0} (p : A → Bool) (xs : List A) (x : A) → list_any p (xs ++ x ∷ []) ≡ (list_any p xs || p x)
any_push p [] x = or_false (p x)
any_push p (y ∷ ys) x = ap (λ b. p y || b) (any_push p ys x) ∙ assoc (p y) (list_any p ys) (p x)
  where
    assoc : (a b c : Bool) → (a || (b || c)) ≡ ((a || b) || c)
    assoc true b c = refl
    assoc false b c = refl

all_push : (rs : List Reply) (r : Reply) → AllStopped rs → is_stop r ≡ true → AllStopped (rs ++ r ∷ [])
all_push [] r all stop = (stop, tt)
all_push (x ∷ rs) r all stop = (all.0, all_push rs r all.1 stop)

any_or : (a b c d e : Bool) → b ≡ (a || c) → d ≡ (b || e) → d ≡ (a || (c || e))
any_or true b c d e was now = now ∙ ap (λ x. x || e) was
any_or false b c d e was now = now ∙ ap (λ x. x || e) was

stays_push : (rs : List Reply) (r : Reply) → StaysStopped rs → (list_any is_stop rs ≡ true → is_stop r ≡ true) → StaysStopped (rs ++ r ∷ [])
stays_push [] r stays after_stop = (λ stop. tt, tt)
stays_push (x ∷ rs) r stays after_stop = (
  λ stop. all_push rs r (stays.0 stop) (after_stop (ap (λ b. b || list_any is_stop rs) stop)),
  stays_push rs r stays.1 (λ some. after_stop (or_right (is_stop x) (list_any is_stop rs) some)),
)

refused_push : (rs : List Reply) (r : Reply) → ends_refused (rs ++ r ∷ []) ≡ is_no_memory r
refused_push [] r = refl
refused_push (x ∷ []) r = refl
refused_push (x ∷ y ∷ rs) r = refused_push (y ∷ rs) r

-- a command stops a volume exactly where its reply is EIO, and one that is stopped stays so
stops_on : {S : Type 0} (r : Reply) (b d : Volume S) → (b.stopped ≡ true → (r ≡ replies.Error errors.EIO) × (d ≡ b)) → (b.stopped ≡ false → d.stopped ≡ is_stop r) → d.stopped ≡ (b.stopped || is_stop r)
stops_on r b d stays goes = elim (cases_Bool b.stopped) [
  | inl stop ↦ ap (λ (v : Volume _). v.stopped) (stays stop).1 ∙ stop ∙ sym (ap (λ x. x || is_stop r) stop)
  | inr still ↦ goes still ∙ sym (ap (λ x. x || is_stop r) still)
]

-- the replies so far come first in those with one more
front : (rs : List Reply) (r : Reply) (n : ℕ) → n ≤ length rs → take n (rs ++ r ∷ []) ≡ take n rs
front rs r n le = take-append-le n rs (r ∷ []) le

all_front : (rs : List Reply) (r : Reply) → take (length rs) (rs ++ r ∷ []) ≡ rs
all_front rs r = front rs r (length rs) (omega arith) ∙ take_all (length rs) rs (omega arith)

-- the last command is the one in which the store failed
fails_last : {S : Type 0} (m : Meaning S) (z : Sizes) (read_only : Bool) (s : State) (cs : List Stamped) (rs : List Reply) (c : Stamped) (r : Reply) (a b d : S) → slice_get cs (length rs) ≡ Some c
    → m.lasts a b → m.fails (after z read_only s cs rs).objects (step z read_only (after z read_only s cs rs) c).state.objects b d → Failure m z read_only s cs (rs ++ r ∷ []) a d
fails_last m z read_only s cs rs c r a b d at lasts fails = record {
  place = length rs;
  command = c;
  from = b;
  at = at;
  within = omega (arith, length_push rs r);
  lasts = lasts;
  fails = subst (λ (x : List Reply). m.fails (after z read_only s cs x).objects (step z read_only (after z read_only s cs x) c).state.objects b d) (sym (all_front rs r)) fails;
}

-- or it was one before
fails_before : {S : Type 0} (m : Meaning S) (z : Sizes) (read_only : Bool) (s : State) (cs : List Stamped) (rs : List Reply) (r : Reply) (a d : S)
    → Failure m z read_only s cs rs a d → Failure m z read_only s cs (rs ++ r ∷ []) a d
fails_before m z read_only s cs rs r a d was = record {
  place = was.place;
  command = was.command;
  from = was.from;
  at = was.at;
  within = omega (arith, was.within, length_push rs r);
  lasts = was.lasts;
  fails = subst (λ (x : List Reply). m.fails (after z read_only s cs x).objects (step z read_only (after z read_only s cs x) was.command).state.objects was.from d)
      (sym (front rs r was.place (omega (arith, was.within)))) was.fails;
}

-- each command that was answered is such, also the last
each_last : (such : Sizes → Bool → State → Stamped → Reply → Type 0) (z : Sizes) (read_only : Bool) (s : State) (cs : List Stamped) (rs : List Reply) (c : Stamped) (r : Reply) → slice_get cs (length rs) ≡ Some c
    → EachAnswered such z read_only s cs (rs ++ r ∷ []) → EachAnswered such z read_only s cs rs × such z read_only (after z read_only s cs rs) c r
each_last such z read_only s [] [] c r at each = absurd cc
each_last such z read_only s [] (x ∷ rs) c r at each = absurd cc
each_last such z read_only s (k ∷ cs) [] c r at each = let same : k ≡ c = cc in (tt, subst (λ v. such z read_only s v r) same each.0)
each_last such z read_only s (k ∷ cs) (x ∷ rs) c r at each =
    let more = each_last such z read_only (after_one z read_only s k x) cs rs c r at each.1 in
    ((each.0, more.0), more.1)

one_more : (n : ℕ) → suc n ≡ n + 1
one_more n = omega arith

-- one call more, where it leaves this
turn_more : {S : Type 0} (left : S → S → Type 0) (n : ℕ) (a b d : S) → InTurn left n a b → left b d → InTurn left (n + 1) a d
turn_more left n a b d turn last = subst (λ k. InTurn left k a d) (one_more n) (b, turn, last)

-- so many of a list, and the next
all_next : {A : Type 0} (P : A → Type 0) (xs : List A) (n : ℕ) (x : A) → slice_get xs n ≡ Some x → All P (take (suc n) xs) → All P (take n xs) × P x
all_next P [] n x at all = absurd cc
all_next P (y ∷ xs) ℕ.zero x at all = let same : y ≡ x = cc in (All-nil P, subst P same (All-head P y [] all))
all_next P (y ∷ xs) (ℕ.suc n) x at all =
    let more = all_next P xs n x at (All-tail P y (take (suc n) xs) all) in
    (All-cons P y (take n xs) (All-head P y (take (suc n) xs) all) more.0, more.1)

all_last : {A : Type 0} (P : A → Type 0) (xs : List A) (n : ℕ) (x : A) → slice_get xs n ≡ Some x → All P (take (n + 1) xs) → All P (take n xs) × P x
all_last P xs n x at all = all_next P xs n x at (subst (λ k. All P (take k xs)) (sym (one_more n)) all)

-- from a state
ran_more : {S : Type 0} (m : Meaning S) (z : Sizes) (s : State) (cs : List Stamped) (rs : List Reply) (c : Stamped) (r : Reply) (a b d : Volume S) → slice_get cs (length rs) ≡ Some c
    → Ran m z s cs rs a b → b.stopped ≡ false → m.lasts a.store b.store → One m z a.read_only (after z a.read_only s cs rs) c r b d
    → (a.read_only ≡ true → m.reads b.store d.store ⊎ m.leaves b.store d.store) → (a.read_only ≡ true → is_stop r ≡ true → m.unread b.store d.store) → (makes_no_call c.command ≡ true → m.leaves b.store d.store)
    → IsLawful m → Ran m z s cs (rs ++ r ∷ []) a d
ran_more m z s cs rs c r a b d at ran goes lasts one only unread leaves law =
    let now = after z a.read_only s cs rs in
    let none : list_any is_stop rs ≡ false = sym ran.stops ∙ goes in
    let more = after_more z a.read_only s cs rs c r at in
    record {
      holds = holds_more z a.read_only s cs rs c r at ran.holds one.replies (λ stop. absurd (true≢false (sym stop ∙ none)));
      power_losses = λ t shown. loss_more (m.shows b.store) (m.shows d.store) t z a.read_only s cs rs c r at one.power_loss one.sync (ran.power_losses t shown);
      stops = one.stops ∙ sym (any_push is_stop rs r ∙ ap (λ b. b || is_stop r) none);
      failure = λ stop. fails_last m z a.read_only s cs rs c r a.store b.store d.store at lasts (one.fails (sym one.stops ∙ stop));
      state = λ still. subst (λ x. IsAt m z x d) (sym more) (one.state (sym one.stops ∙ still));
      power = λ refused. one.power (sym (refused_push rs r) ∙ refused);
      reports = λ each. let parts = each_last OnlyReports z a.read_only s cs rs c r at each in law.reads_on a.store b.store d.store (ran.reports parts.0) (one.reads parts.1);
      only = λ why. elim why [
        | inl is ↦ let reads = ran.only (inl is) in (suc reads.0, (b.store, reads.1, only is))
        | inr each ↦
            let parts = each_last WritesNothing z a.read_only s cs rs c r at each in
            let reads = ran.only (inr parts.0) in
            (suc reads.0, (b.store, reads.1, elim parts.1 [ inl reports ↦ inl (one.reads reports) | inr none ↦ inr (leaves none) ]))
      ];
      unread = λ is stop. (b.store, unread is (sym one.stops ∙ stop));
    }

-- once it is stopped
ran_stopped : {S : Type 0} (m : Meaning S) (z : Sizes) (s : State) (cs : List Stamped) (rs : List Reply) (c : Stamped) (r : Reply) (a b d : Volume S) → slice_get cs (length rs) ≡ Some c
    → Ran m z s cs rs a b → b.stopped ≡ true → r ≡ replies.Error errors.EIO → d ≡ b → Ran m z s cs (rs ++ r ∷ []) a d
ran_stopped m z s cs rs c r a b d at ran stopped reported same =
    let stop : is_stop r ≡ true = ap is_stop reported in
    let some : list_any is_stop rs ≡ true = sym ran.stops ∙ stopped in
    subst (λ d. Ran m z s cs (rs ++ r ∷ []) a d) (sym same) (record {
      holds = holds_more z a.read_only s cs rs c r at ran.holds (inr (inr stop)) (λ _. stop);
      power_losses = λ t shown. loss_more (m.shows b.store) (m.shows b.store) t z a.read_only s cs rs c r at (λ t is. inl is) (λ synced. absurd (error_unsynced c.command errors.EIO (ap (is_synced c.command) (sym reported) ∙ synced))) (ran.power_losses t shown);
      stops = stopped ∙ sym (any_push is_stop rs r ∙ ap (λ b. b || is_stop r) some);
      failure = λ stop. fails_before m z a.read_only s cs rs r a.store b.store (ran.failure stop);
      state = λ goes. absurd (true≢false (sym stopped ∙ goes));
      power = λ refused. absurd (true≢false (sym refused ∙ refused_push rs r ∙ ap is_no_memory reported));
      reports = λ each. ran.reports (each_last OnlyReports z a.read_only s cs rs c r at each).0;
      only = λ why. ran.only (elim why [ inl is ↦ inl is | inr each ↦ inr (each_last WritesNothing z a.read_only s cs rs c r at each).0 ]);
      unread = ran.unread;
    })

-- the run, with one reply more
pub runs_more : {S : Type 0} (m : Meaning S) (law : IsLawful m) (cs : List Stamped) (n : ℕ) (before now next : List Reply) (c : Stamped) (r : Reply) (a b d : Volume S)
    → Runs m cs n before now a b → slice_get cs n ≡ Some c → next ≡ now ++ r ∷ [] → b.read_only ≡ a.read_only → m.lasts a.store b.store
    → (b.stopped ≡ true → (r ≡ replies.Error errors.EIO) × (d ≡ b)) → (b.stopped ≡ false → d.stopped ≡ is_stop r)
    → (b.stopped ≡ false → (z : Sizes) (s : State) → IsAt m z s b → CommandEnds m z (class_of b.read_only s c.command) (takes_no_memory c.command) s (step z b.read_only s c) b d r)
    → (b.read_only ≡ true → (z : Sizes) (s : State) → IsAt m z s b → m.reads b.store d.store ⊎ m.leaves b.store d.store)
    → (b.read_only ≡ true → b.stopped ≡ false → (z : Sizes) (s : State) → IsAt m z s b → is_stop r ≡ true → m.unread b.store d.store) → (makes_no_call c.command ≡ true → m.leaves b.store d.store)
    → (is_stop r ≡ false → m.has_power b.store ≡ true → m.has_power d.store ≡ true) → Runs m cs (n + 1) before next a d
runs_more m law cs n before now next c r a b d runs is pushed same lasts stays stops goes only unread leaves power =
    let at : slice_get cs (length runs.answered) ≡ Some c = ap (slice_get cs) runs.count ∙ is in
    record {
      answered = runs.answered ++ r ∷ [];
      count = length_push runs.answered r ∙ (let one : length runs.answered + 1 ≡ n + 1 = ap (λ k. k + 1) runs.count in one);
      behind = pushed ∙ ap (λ (rs : List Reply). rs ++ r ∷ []) runs.behind ∙ append_assoc before runs.answered (r ∷ []);
      stays = stays_push runs.answered r runs.stays (λ some. ap is_stop (stays (runs.stops ∙ or_right a.stopped (list_any is_stop runs.answered) some)).0);
      stops = any_or a.stopped b.stopped (list_any is_stop runs.answered) d.stopped (is_stop r) runs.stops (stops_on r b d stays stops) ∙ ap (λ x. a.stopped || x) (sym (any_push is_stop runs.answered r));
      stopped = λ stop.
          let was = runs.stopped stop in
          let reported = stays (ap (λ (v : Volume _). v.stopped) was.1 ∙ stop) in
          (all_push runs.answered r was.0 (ap is_stop reported.0), reported.1 ∙ was.1);
      leaves = λ all.
          let parts = all_last (λ (k : Stamped). makes_no_call k.command ≡ true) cs n c is all in
          turn_more m.leaves n a.store b.store d.store (runs.leaves parts.0) (leaves parts.1);
      power = λ none had.
          let parts = or_parts (list_any is_stop runs.answered) (is_stop r) (sym (any_push is_stop runs.answered r) ∙ none) in
          power parts.1 (runs.power parts.0 had);
      ran = λ going z s has.
          let ran = runs.ran going z s has in
          elim (cases_Bool b.stopped) [
            | inl stop ↦ let reported = stays stop in ran_stopped m z s cs runs.answered c r a b d at ran stop reported.0 reported.1
            | inr still ↦
                let x = after z a.read_only s cs runs.answered in
                let ended = goes still z x (ran.state still) in
                ran_more m z s cs runs.answered c r a b d at ran still lasts
                (one_ends m law z a.read_only x c r b d (λ is. at_shown m z x b (ran.state still) (same ∙ is))
                (subst (λ ro. CommandEnds m z (class_of ro x c.command) (takes_no_memory c.command) x (step z ro x c) b d r) same ended))
                (λ is. only (same ∙ is) z x (ran.state still)) (λ is. unread (same ∙ is) still z x (ran.state still)) leaves law
          ];
    }

none_at : (i : ℕ) (r : Reply) → slice_get [] i ≡ Some r → ⊥
none_at i r is = cc

pub runs_none : {S : Type 0} (m : Meaning S) (law : IsLawful m) (cs : List Stamped) (before : List Reply) (a : Volume S) → Runs m cs 0 before before a a
runs_none m law cs before a = record {
  answered = [];
  count = refl;
  behind = sym (append-nil before);
  stays = tt;
  stops = sym (or_false a.stopped);
  stopped = λ stop. (tt, refl);
  leaves = λ all. refl;
  power = λ none had. had;
  ran = λ going z s has. record {
    holds = tt;
    power_losses = λ t shown. inr (λ i done. absurd (none_at i done.1 done.3), shown);
    stops = going;
    failure = λ stop. absurd (true≢false (sym stop ∙ going));
    state = λ _. has;
    power = λ refused. let two : false ≡ true = refused in absurd cc;
    reports = λ each. law.reads_nothing a.store;
    only = λ why. (zero, refl);
    unread = λ is stop. absurd (true≢false (sym stop ∙ going));
  };
}

pub at_index : (cs : List Stamped) (i : ℕ) (c : Stamped) → i < length cs → c ≡ get_or cs i c → slice_get cs i ≡ Some c
at_index [] i c lt is = absurd (omega arith)
at_index (k ∷ cs) ℕ.zero c lt is = ap Some (sym is)
at_index (k ∷ cs) (ℕ.suc i) c lt is = at_index cs i c (omega arith) is
