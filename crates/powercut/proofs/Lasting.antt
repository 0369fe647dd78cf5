-- One session from its power-up on.
use Rattle.std.specs.Prelude.{◌≡◌, ◌+◌, ◌-◌, ◌^◌, ℕ, Bool, min, true, false, List, [], ◌∷◌, length, Option, None, Some, is_some, if◌then◌else◌}
use Rattle.std.specs.Global.{Vec}
use Rattle.std.proofs.Common.{refl, sym, ◌∙◌, ap, subst, inl, inr, arith}
use mathlib.Core.Logic.{∥∥₁_elim}
use Rattle.flash_tree.specs.Mount.{Answers, IsTreeOf, sizes_of, bad_blocks}
use Rattle.mounting.specs.Faults.{WhyNotMounted}
use Rattle.mounting.specs.declared.fault.MountFault.{MountFault}
use Rattle.mounting.specs.declared.fault.MountFault.TheVariants as faults
use Rattle.page_store.specs.Checked.{HasTrueFlash, IsConsistent}
use Rattle.pages.specs.Stores.{bad_on}
use Rattle.nand_model.specs.Calls.{Device}
use Rattle.nand_model.specs.Changes.{PowersUp}
use Rattle.nand_model.specs.Plans.{Plan}
use Rattle.nand_model.specs.declared.fate.Fate.{Fate}
use Rattle.nand_model.specs.declared.geometry.Geometry.{Geometry}
use Rattle.powercut.specs.Planning.{call_of, calls_of, calls_since, IsPlanned}
use Rattle.powercut.specs.Running.{RunsAsPlanned}
use Rattle.lives.specs.Lives.{SessionRecord, at_mount}
use Rattle.posix_profile.specs.Runs.{RunHolds}
use Rattle.posix_profile.specs.declared.command.Stamped.{Stamped}
use Rattle.posix_profile.specs.declared.reply.Reply.{Reply}
use Rattle.powercut.specs.Living.{HasSame, HasLived}
use Rattle.powercut.specs.Serving.{served_record}
use Rattle.powercut.specs.Sessions.{answer_of, record_of, IsEnded, IsServedFrom, RunsFrom}
use Rattle.powercut.specs.declared.serving.Served.{Served}
use Rattle.powercut.specs.declared.session.Session.{Session}
use Rattle.powercut.specs.declared.session.SessionEnd.{SessionEnd}
use Rattle.powercut.specs.Starting.{Starts, fuse_of, plan_of}
use Rattle.powercut.proofs.Living.{lived_still, lived_on}
use Rattle.powercut.specs.laws.SameFlash.{same_back, greatest_same, bad_same, answers_same}
use Rattle.powercut.specs.laws.SameSummaries.{consistent_same}

module _ (fused : Bool) (a b c : Device) (starts : Starts fused a b) where
  -- the power-up changes nothing that counts
  pub lived_one : (session : SessionRecord) → a.honest ≡ true → (b.gone ≡ false → b.honest ≡ true → HasLived b c (session ∷ [])) → HasLived a c (session ∷ [])
  lived_one session honest lived =
      lived_on a b c [] (session ∷ [])
      (lived_still a b starts.geometry starts.changes starts.failures (record { page = starts.page; bad = starts.bad }))
      (lived starts.gone (starts.honest ∙ honest))

  -- what the plan makes of the device is in the count from before the power-up
  pub planned_from : (p : Plan) → IsPlanned p b c → IsPlanned p a c
  planned_from p planned =
      let cuts = starts.cuts in
      let failures = starts.failures in
      let changes = starts.changes in
      let reads = starts.reads in
      record {
        cuts = let is = planned.cuts in omega (arith, is, cuts);
        cut = λ gone. let is = planned.cut gone in (is.0, let at = is.1 in omega (arith, at, changes, reads));
        uncut = λ goes some. let lt = planned.uncut goes some in omega (arith, lt, changes, reads);
        failures = λ all. let within_limit = planned.failures all in omega (arith, within_limit, failures);
      }

  -- and so are its calls
  pub since_before : calls_since b c ≡ calls_since a c
  since_before =
      let changes = starts.changes in
      let reads = starts.reads in
      let made : calls_of b ≡ calls_of a = omega (arith, changes, reads) in
      ap (λ n. min (calls_of c - n) (2 ^ 64 - 1)) made

  -- the device as it was powered up, with no word on its fuse
  abbrev up : Device
  up = record b { steady = true }

  powers_up : ((k : ℕ) → b.flash.next k ≡ None) → PowersUp a up
  powers_up nexts = record {
    geometry = starts.geometry;
    honest = starts.honest;
    gone = starts.gone;
    steady = refl;
    page = starts.page;
    bad = starts.bad;
    nexts = nexts;
    cuts = starts.cuts;
    failures = starts.failures;
    changes = starts.changes;
    reads = starts.reads;
  }

  ran_from : (p : Plan) → ((k : ℕ) → b.flash.next k ≡ None) → RunsAsPlanned p b c → RunsFrom p a c
  ran_from p nexts ran = (
    up,
    powers_up nexts,
    record {
      start = ran.start;
      is_as = record {
        geometry = ran.is_as.geometry;
        honest = ran.is_as.honest;
        bad = ran.is_as.bad;
        next = ran.is_as.next;
        page = ran.is_as.page;
        cuts = ran.is_as.cuts;
        failures = ran.is_as.failures;
        changes = ran.is_as.changes;
        reads = ran.is_as.reads;
      };
      power = ran.power;
      calls = ran.calls;
      done = ran.done;
      count = ran.count;
    },
  )

  -- each call ends as planned from the power-up on
  pub runs_from : (p : Plan) → ((k : ℕ) → b.flash.next k ≡ None) → ∥ RunsAsPlanned p b c ∥₁ → ∥ RunsFrom p a c ∥₁
  runs_from p nexts ran = ∥∥₁_elim ran (λ x y. squash₁ x y) (λ (r : RunsAsPlanned p b c). ∣ ran_from p nexts r ∣₁)

-- the flash is as it was before the power-up, and so are the replies to a volume on it
module _ (fused : Bool) (a b d : Device) (starts : Starts fused a b) (n k : ℕ) (commands : List Stamped) (answered : List Reply) (unmounted : Option Reply) where
  same_flash : HasSame a.flash b.flash
  same_flash = record { page = starts.page; bad = starts.bad }

  same_bad : bad_on b ≡ bad_on a
  same_bad = ap (λ (g : Geometry). bad_blocks g b.flash) starts.geometry ∙ bad_same a.geometry a.flash b.flash same_flash

  served_before : IsServedFrom b d commands answered unmounted → IsServedFrom a d commands answered unmounted
  served_before served =
      let bad = same_bad in
      let changes = starts.changes in
      record {
        spare = served.spare;
        tree = served.tree;
        shows = answers_same a.geometry b.flash a.flash (same_back a.flash b.flash same_flash) served.spare served.tree
            (subst (λ (g : Geometry). Answers g b.flash (IsTreeOf served.spare served.tree)) starts.geometry served.shows);
        numbers = served.numbers;
        greatest = greatest_same b.flash a.flash (same_back a.flash b.flash same_flash) served.numbers served.greatest;
        read_only = served.read_only;
        read_only_is = (
          λ only. elim (served.read_only_is.0 only) [
            | inl many ↦ inl (omega (arith, many, bad))
            | inr used ↦ inr used
          ],
          λ why. served.read_only_is.1 (elim why [
            | inl many ↦ inl (omega (arith, many, bad))
            | inr used ↦ inr used
          ]),
        );
        holds = subst (λ (g : Geometry). RunHolds (sizes_of g served.spare) served.read_only (at_mount served.tree) commands answered) starts.geometry served.holds;
        unmounts = served.unmounts;
        stops = λ why. elim (served.stops why) [
          | inl gone ↦ inl gone
          | inr up ↦ inr (
            up.0,
            elim up.1 [
              | inl many ↦ inl many
              | inr used ↦ elim used [
                | inl group ↦ inr (inl (omega (arith, group, changes)))
                | inr seq ↦ inr (inr (omega (arith, seq, changes)))
              ]
            ],
          )
        ];
      }

  true_after : IsConsistent a.geometry a.flash → IsConsistent b.geometry b.flash
  true_after truth = subst (λ (g : Geometry). IsConsistent g b.flash) (sym starts.geometry) (consistent_same a.geometry a.flash b.flash same_flash truth)

  -- what names a session says nothing of them
  uncounted : IsServedFrom (record b { cuts = n }) (record d { cuts = k }) commands answered unmounted → IsServedFrom b d commands answered unmounted
  uncounted served = record {
    spare = served.spare;
    tree = served.tree;
    shows = served.shows;
    numbers = served.numbers;
    greatest = served.greatest;
    read_only = served.read_only;
    read_only_is = served.read_only_is;
    holds = served.holds;
    unmounts = served.unmounts;
    stops = served.stops;
  }

  pub served_counts : a.honest ≡ true → (HasTrueFlash (record b { cuts = n }) → IsServedFrom (record b { cuts = n }) (record d { cuts = k }) commands answered unmounted) → IsConsistent a.geometry a.flash
      → IsServedFrom a d commands answered unmounted
  served_counts honest served truth = served_before (uncounted (served (starts.honest ∙ honest, true_after truth)))

-- the reason of a mount's fault has nothing of the counts
pub why_counts : (d : Device) (n : ℕ) (fault : MountFault) → WhyNotMounted (record d { cuts = n }) fault → WhyNotMounted d fault
why_counts d n faults.Gone why = why
why_counts d n faults.NoMemory why = why
why_counts d n faults.NotAVolume why = why
why_counts d n (faults.Newer format) why = why
why_counts d n faults.Damaged why = why

-- there is one cut where power is lost
pub cuts_counted : (session : Session) (end : SessionEnd) (a c : Device) → IsEnded session end a c → c.cuts ≡ a.cuts + (if end.cut then 1 else 0)
cuts_counted session end a c ended = ended.planned.cuts ∙ ap (λ (cut : Bool). a.cuts + (if cut then 1 else 0)) (sym ended.cut)

-- without a fuse no power is lost
pub no_cut : (session : Session) (a c : Device) (cut : Bool) → cut ≡ c.gone → IsPlanned (plan_of session) a c → is_some session.fuse ≡ false → cut ≡ false
no_cut session a c false is planned none = refl
no_cut session a c true is planned none = let some = (planned.cut (sym is)).0 in let zero = no_call session.fuse none in absurd (omega (arith, some, zero))
  where
    no_call : (fuse : Option (ℕ × Vec Fate)) → is_some fuse ≡ false → call_of (fuse_of fuse) ≡ 0
    no_call None none = refl
    no_call (Some fuse) none = absurd cc

-- a life says nothing of how many cuts were in the count
pub lived_named : (a b : Device) (x y : ℕ) (sessions : List SessionRecord) → HasLived (record a { cuts = x }) (record b { cuts = y }) sessions → HasLived a b sessions
lived_named a b x y sessions lived = record {
  geometry = lived.geometry;
  changes = lived.changes;
  marks = lived.marks;
  answered = lived.answered;
  truly = λ truth. let truly = lived.truly truth in record {
    truth = truly.truth;
    numbers = truly.numbers;
    known = truly.known;
    life = λ spare tree sound within.
        truly.life spare tree sound (record {
          few_bad = within.few_bad;
          numbers = record { versions = within.numbers.versions; groups = within.numbers.groups; seqs = within.numbers.seqs };
        });
  };
}

-- what was lived through is so of the devices behind what names their session
pub session_lived : (b d v w : Device) (n m : ℕ) (session : SessionRecord) → v ≡ record b { cuts = n } → w ≡ record d { cuts = m }
    → (v.gone ≡ false → v.honest ≡ true → HasLived v w (session ∷ [])) → b.gone ≡ false → b.honest ≡ true → HasLived b d (session ∷ [])
session_lived b d v w n m session first last lived power honest =
    let there : HasLived v w (session ∷ []) = lived (ap (λ (x : Device). x.gone) first ∙ power) (ap (λ (x : Device). x.honest) first ∙ honest) in
    lived_named b d n m (session ∷ [])
    (subst (λ (x : Device). HasLived x (record d { cuts = m }) (session ∷ [])) first (subst (λ (x : Device). HasLived v x (session ∷ [])) last there))

-- what is recorded of a session is what is recorded of what was served in it
pub same_record : (session : Session) (commands : List Stamped) (served : Served) (begun : ℕ) (cut gone : Bool) → commands ≡ session.commands.items → begun ≡ length served.replies.items → cut ≡ gone
    → served_record commands served gone ≡ record_of session (record { mounted = served.mounted; replies = served.replies; begun = begun; unmounted = served.unmounted; cut = cut })
same_record session commands served begun cut gone same count is = λ i. record {
  mounted = answer_of served.mounted;
  commands = same i;
  begun = sym count i;
  replies = served.replies.items;
  unmounted = served.unmounted;
  cut = sym is i;
}
