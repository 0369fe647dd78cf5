-- A mounted volume serves its session, and leaves a sound flash.
use Rattle.std.specs.Prelude.{◌≡◌, ◌↔◌, ◌⊎◌, ◌<◌, ◌≤◌, ◌^◌, ◌+◌, ℕ, Bool, true, false, List, [], ◌∷◌, length, Option, Some, None}
use Rattle.std.proofs.Common.{refl, sym, ◌∙◌, ap, subst, inl, inr, arith}
use Rattle.std.proofs.lemmas.Bool.{cases_Bool, true≢false}
use Rattle.std.proofs.lemmas.Option.{slice_get_within}
use mathlib.Core.Logic.{∥∥₁_elim}
use Rattle.volume_terms.specs.Sizes.{Sizes}
use Rattle.nand_model.specs.Flash.{Flash}
use Rattle.nand_model.specs.Calls.{Device, Lasts}
use Rattle.nand_model.specs.Changes.{OnlyReads}
use Rattle.nand_model.specs.laws.Calls.{lasts_on}
use Rattle.nand_model.specs.laws.Changes.{only_reads_on}
use Rattle.page_store.specs.Checked.{HasTrueFlash}
use Rattle.nand_model.specs.declared.geometry.Geometry.{Geometry}
use Rattle.posix_profile.specs.Losses.{Covers, settled_after}
use Rattle.posix_profile.specs.Runs.{RunHolds}
use Rattle.posix_profile.specs.State.{Objects}
use Rattle.posix_profile.specs.laws.Sound.{IsSound}
use Rattle.posix_profile.specs.declared.command.Stamped.{Stamped}
use Rattle.posix_profile.specs.declared.reply.Errno.TheVariants as errors
use Rattle.posix_profile.specs.declared.reply.Reply.{Reply}
use Rattle.posix_profile.specs.declared.reply.Reply.TheVariants as replies
use Rattle.flash_tree.specs.Checkpoints.{IsChecked}
use Rattle.flash_tree.specs.MountableFlash.{BeganMountable, IsMountableFlash, IsTreeFindable, MayBeMountable}
use Rattle.flash_tree.specs.Newest.{Numbers, AreGreatest}
use Rattle.flash_tree.specs.Numbering.{AreBelow}
use Rattle.flash_tree.specs.Mount.{Answer, Answers, IsTreeOf, sizes_of, bad_blocks}
use Rattle.flash_tree.specs.Sound.{IsSoundFlash}
use Rattle.flash_tree.specs.Summaries.{AreSummariesRight}
use Rattle.flash_tree.specs.laws.Place.{same_flash}
use Rattle.lives.specs.Lives.{Mounted, Gone, SessionRecord, at_mount, IsSessionFrom, IsLife}
use Rattle.lives.specs.laws.Sessions.{loss_keeps}
use Rattle.pages.specs.State.{PagesState, NextNumbers}
use Rattle.pages.specs.Stores.{BeganMountably, IsOrdered, bad_on, HasFailed}
use Rattle.pages.specs.laws.Mountable.{begun_on}
use Rattle.nand_model.specs.Trusting.{trusted_as}
use Rattle.posix_calls.specs.laws.Trusting.{read_since, left_as_seen, lasts_seen}
use Rattle.page_store.specs.ReadOnly.{next_after}
use Rattle.mounting.specs.Made.{CanOnlyBeRead, AreNext, Remembers}
use Rattle.mounting.specs.Named.{IsTrustedSince}
use Rattle.page_store.specs.Sealing.{EndsOn}
use Rattle.paged_objects.specs.Ending.{HasEndedAt}
use Rattle.paged_objects.specs.Representing.{volume_of, Shown}
use Rattle.paged_objects.specs.laws.Findable.{tree_findable}
use Rattle.paged_objects.specs.laws.OnFlash.{shown_sound, shown_there}
use Rattle.powercut.specs.Commands.{Meaning, LeavesFrom, IsUsed}
use Rattle.powercut.specs.Limits.{StaysWithin}
use Rattle.powercut.specs.Living.{HasSame, AreWithin, IsTrueOn, TrulyLived, HasLived}
use Rattle.powercut.specs.Sessions.{IsServedFrom, IsUsedUp}
use Rattle.powercut.specs.laws.SameFlash.{same_back, greatest_same, sound_same, bad_same, answers_same}
use Rattle.powercut.proofs.Living.{greatest_within, none_marked, marked_on}

-- what is recorded of a session whose mount was done
abbrev pub mounted_record : List Stamped → List Reply → Option Reply → Bool → SessionRecord
mounted_record commands reported unmounted cut = record {
  mounted = Mounted;
  commands = commands;
  begun = length reported;
  replies = reported;
  unmounted = unmounted;
  cut = cut;
}

module _ (z : Sizes) (before : Objects) (commands : List Stamped) (reported : List Reply) (unmounted : Option Reply) (left : PagesState)
    (sound : IsSound z (at_mount before)) (leaves : LeavesFrom z false (at_mount before) before commands reported unmounted left) where
  -- so many of the commands are in the tree that a mount shows
  abbrev KeepsSome : Option Reply → Type 0
  KeepsSome u = (k : ℕ) × Covers commands reported k × (k ≤ length reported) × Shown z left (settled_after z false (at_mount before) commands reported k) × (u ≡ Some replies.Done → k ≡ length reported)

  keeps_lost : (u : Option Reply) → (u ≡ Some replies.Done → ⊥) → KeepsSome u
  keeps_lost u not = let some = loss_keeps (Shown z left) z before commands reported sound leaves.power_losses in (some.0, some.1, some.2, some.3, λ is. absurd (not is))

  keeps_some : (u : Option Reply) → unmounted ≡ u → KeepsSome u
  keeps_some None is = keeps_lost None (λ done. let two : None ≡ Some replies.Done = done in absurd cc)
  keeps_some (Some reply) is = elim (leaves.unmounts reply is) [
    | inl done ↦ (
      length reported,
      (λ i (command, r, there, answered, synced). slice_get_within reported i r answered),
      omega arith,
      leaves.done (is ∙ ap Some done),
      λ same. refl,
    )
    | inr stop ↦ keeps_lost (Some reply) (λ done. let two : Some replies.Done ≡ Some (replies.Error errors.EIO) = sym done ∙ ap Some stop in absurd cc)
  ]

  -- the session, where what ends the use of a volume is a cut
  pub session_served : (cut : Bool) → (HasEndedAt left → cut ≡ true)
      → (after : Objects) × IsSessionFrom z before (mounted_record commands reported unmounted cut) after × Shown z left after
  session_served cut ends =
      let some = keeps_some unmounted refl in (
        settled_after z false (at_mount before) commands reported some.0,
        record {
          ends = inr (record {
            mounted = refl;
            answered = refl;
            run = leaves.holds;
            begun = leaves.begun;
            unmounted = leaves.unmounts;
            keeps = record { count = some.0; covers = some.1; within = some.2; unmounted = some.4; tree = refl };
          });
          cuts = record {
            mount = λ is. let two : Mounted ≡ Gone = is in absurd cc;
            commands = λ stops. ends (leaves.cause (inl stops));
            unmount = λ is. ends (leaves.cause (inr is));
          };
        },
        some.3,
      )

-- what stands on the flash is within the greatest numbers at first and one more for each change
numbers_written : (p q : PagesState) → EndsOn p q → p.device.honest ≡ true → (n : Numbers) → AreGreatest p.device.flash n → p.next ≡ next_after n
    → (more : ℕ) → q.device.changes ≡ p.device.changes + more → AreWithin q.device.flash (n.group + more) (n.seq + more)
numbers_written p q goes honest n greatest next more risen b k t good has =
    let group : p.next.group ≡ n.group + 1 = ap (λ (x : NextNumbers). x.group) next in
    let seq : p.next.seq ≡ n.seq + 1 = ap (λ (x : NextNumbers). x.seq) next in
    let below : AreBelow p.device.flash p.next.group p.next.seq = λ c l u whole there.
    let at = greatest.above c l u whole there in
    let valid = there.valid.version.1 in
    (omega (arith, at.1, valid, group), omega (arith, at.1, group), omega (arith, at.2, seq)) in
    let all = goes.numbers.written honest below more risen b k t good has in
    (omega (arith, all.1, group), omega (arith, all.2, seq))

-- The volume stands for the tree that its device shows, with no descriptor open; and a mount would show the tree again.
pub record Represents {V : Type 0} (m : Meaning V) (v : V) (objects : Objects) : Type 0 where
  pub answers : Answers (m.pages v).device.geometry (m.pages v).device.flash (IsTreeOf (m.pages v).spare objects)
  pub volume : m.represents (volume_of (m.pages v)) (at_mount objects) v
  pub sound : IsSound (volume_of (m.pages v)) (at_mount objects)
  pub shown : Shown (volume_of (m.pages v)) (m.pages v) objects

module _ {V : Type 0} (m : Meaning V) (v : V) (d e : Device) (commands : List Stamped) (reported : List Reply) (unmounted : Option Reply) (honest : d.honest ≡ true)
    (one : (g : Geometry) (flash : Flash) (a b : Answer) → Answers g flash a → Answers g flash b → a ≡ b)
    (reads : OnlyReads d (m.pages v).device) (goes : m.stopped v ≡ false) (read_only : (m.read_only v ≡ true) ↔ CanOnlyBeRead (m.pages v))
    (next : AreNext (m.pages v).device.flash (m.pages v).next) (objects : Objects) (represents : Represents m v objects)
    (checked : IsChecked d.geometry d.flash (m.pages v).checkpoint) (used : IsUsed m v commands reported unmounted e) where
  abbrev p : PagesState
  p = m.pages v

  abbrev q : PagesState
  q = used.left

  same : HasSame d.flash p.device.flash
  same = record { page = reads.page honest; bad = reads.bad }

  p_honest : p.device.honest ≡ true
  p_honest = reads.lasts.honest ∙ honest

  abbrev n : Numbers
  n = next.0

  at_first : AreGreatest d.flash n
  at_first = greatest_same p.device.flash d.flash (same_back d.flash p.device.flash same) n next.1

  lasts : Lasts d q.device
  lasts = lasts_on d p.device q.device reads.lasts used.ends_on.device

  next_group : p.next.group ≡ n.group + 1
  next_group = ap (λ (x : NextNumbers). x.group) next.2

  next_seq : p.next.seq ≡ n.seq + 1
  next_seq = ap (λ (x : NextNumbers). x.seq) next.2

  numbers : (group seq more : ℕ) → AreWithin d.flash group seq → q.device.changes ≡ d.changes + more → AreWithin q.device.flash (group + more) (seq + more)
  numbers group seq more within risen k t tag good has =
      let at = greatest_within d.flash n group seq at_first within in
      let all = numbers_written p q used.ends_on p_honest n next.1 next.2 more (risen ∙ ap (λ m. m + more) (sym reads.changes)) k t tag good has in
      (omega (arith, all.0, at.1), omega (arith, all.1, at.2))

  module _ (spare : ℕ) (tree : Objects) (sound : IsSoundFlash d.geometry d.flash spare tree) (within : StaysWithin spare d q.device) where
    sound_there : IsSoundFlash p.device.geometry p.device.flash spare tree
    sound_there = subst (λ (g : Geometry). IsSoundFlash g p.device.flash spare tree) (sym reads.lasts.geometry) (sound_same d.geometry d.flash p.device.flash same spare tree sound)

    found : IsTreeOf p.spare objects ≡ IsTreeOf spare tree
    found = one p.device.geometry p.device.flash (IsTreeOf p.spare objects) (IsTreeOf spare tree) represents.answers (sound_there.volume, sound_there.shows, sound_there.room)

    spare_is : p.spare ≡ spare
    spare_is = let is = found in cc

    tree_is : objects ≡ tree
    tree_is = let is = found in cc

    can_be_written : CanOnlyBeRead p → ⊥
    can_be_written (inl many) = let within_limit = sound_there.few_bad in let is = spare_is in omega (arith, many, within_limit, is)
    can_be_written (inr (inl group)) = let most = (next.1.least _ sound_there.numbers).1 in let is = next_group in omega (arith, group, most, is)
    can_be_written (inr (inr seq)) = let most = (next.1.least _ sound_there.numbers).2 in let is = next_seq in omega (arith, seq, most, is)

    is_written : m.read_only v ≡ false
    is_written = elim (cases_Bool (m.read_only v)) [
      | inl yes' ↦ absurd (can_be_written (read_only.0 yes'))
      | inr not ↦ not
    ]

    -- the groups and the seqs that are left do not run out while the device has power
    groups_left : q.device.gone ≡ false → q.next.group < 2 ^ 62
    groups_left power =
        let rose = used.ends_on.numbers.groups p_honest power in
        let first = next_group in
        let changes = reads.changes in
        let lt = within.numbers.groups n at_first in
        omega (arith, rose, first, changes, lt)

    seqs_left : q.next.seq < 2 ^ 62
    seqs_left =
        let rose = used.ends_on.numbers.seqs in
        let first = next_seq in
        let changes = reads.changes in
        let lt = within.numbers.seqs n at_first in
        omega (arith, rose, first, changes, lt)

    -- nothing but a cut ends the use
    ends_by_cut : HasEndedAt q → q.device.gone ≡ true
    ends_by_cut (inl (inl gone)) = gone
    ends_by_cut (inl (inr dishonest)) = absurd (true≢false (sym (lasts.honest ∙ honest) ∙ dishonest))
    ends_by_cut (inr (inl group)) = elim (cases_Bool q.device.gone) [
      | inl gone ↦ gone
      | inr power ↦ absurd (omega (arith, group, groups_left power))
    ]
    ends_by_cut (inr (inr (inl seq))) = absurd (omega (arith, seq, seqs_left))
    ends_by_cut (inr (inr (inr many))) = let within_limit = within.few_bad in let committed = used.ends_on.spare in let is = spare_is in absurd (omega (arith, many, within_limit, committed, is))

    left_sound : (after : Objects) → Shown (volume_of p) q after → IsSoundFlash q.device.geometry q.device.flash spare after
    left_sound after shown =
        let within_limit = within.few_bad in
        let is : q.spare ≡ spare = used.ends_on.spare ∙ spare_is in
        subst (λ k. IsSoundFlash q.device.geometry q.device.flash k after) is
        (shown_sound (volume_of p) q after shown (lasts.honest ∙ honest) (used.ends_on.limits p_honest sound_there.numbers) (omega (arith, within_limit, is)))

    sizes_are : volume_of p ≡ sizes_of d.geometry spare
    sizes_are = ap (λ (g : Geometry). sizes_of g p.spare) reads.lasts.geometry ∙ ap (λ k. sizes_of d.geometry k) spare_is

    life : (after : Objects) × IsLife (sizes_of d.geometry spare) tree (mounted_record commands reported unmounted q.device.gone ∷ []) after × IsSoundFlash q.device.geometry q.device.flash spare after
    life =
        let leaves =
        subst (λ (ro : Bool). LeavesFrom (volume_of p) ro (at_mount objects) objects commands reported unmounted q) is_written
        (used.leaves goes (volume_of p) (at_mount objects) objects represents.volume represents.shown) in
        let session = session_served (volume_of p) objects commands reported unmounted q represents.sound leaves q.device.gone ends_by_cut in
        let record_reported = mounted_record commands reported unmounted q.device.gone in
        let from_tree = subst (λ (x : Objects). IsSessionFrom (volume_of p) x record_reported session.0) tree_is session.1 in
        let of_sizes = subst (λ (z : Sizes). IsSessionFrom z tree record_reported session.0) sizes_are from_tree in
        (session.0, (session.0, of_sizes, refl), left_sound session.0 session.2)

  -- the block that is noted at the mount is the only one with a whole checkpoint
  checked_there : IsChecked p.device.geometry p.device.flash p.checkpoint
  checked_there =
      subst (λ (g : Geometry). IsChecked g p.device.flash p.checkpoint) (sym reads.lasts.geometry)
      (subst (λ (f : Flash). IsChecked d.geometry f p.checkpoint) (sym (same_flash d p.device reads honest)) checked)

  checked_now : IsChecked q.device.geometry q.device.flash q.checkpoint
  checked_now = used.right goes (volume_of p) (at_mount objects) represents.volume p_honest checked_there

  -- some tree is shown in the end
  shown_left : (after : Objects) × Shown (volume_of p) q after
  shown_left = elim (used.leaves goes (volume_of p) (at_mount objects) objects represents.volume represents.shown).power_losses [
    | inl some ↦ (settled_after (volume_of p) (m.read_only v) (at_mount objects) commands reported some.0, some.3)
    | inr none ↦ (objects, none.1)
  ]

  module _ (remembers : Remembers d p) (may : MayBeMountable d.geometry d.flash) where
    -- a device that is only read has the same flash
    read_mountable : OnlyReads d q.device → MayBeMountable q.device.geometry q.device.flash
    read_mountable all =
        subst (λ (g : Geometry). MayBeMountable g q.device.flash) (sym all.lasts.geometry)
        (subst (λ (f : Flash). MayBeMountable d.geometry f) (sym (same_flash d q.device all honest)) may)

    began : p.worn ≡ false → BeganMountably p
    began written = (
      p_honest,
      subst (λ (f : Option Flash). BeganMountable p.device.geometry f) (sym (remembers.first written)) (subst (λ (g : Geometry). MayBeMountable g d.flash) (sym reads.lasts.geometry) may),
    )

    right_now : AreSummariesRight d.geometry d.flash → AreSummariesRight q.device.geometry q.device.flash
    right_now right =
        used.ends_on.summaries p_honest (subst (λ (g : Geometry). AreSummariesRight g p.device.flash) (sym reads.lasts.geometry)
        (subst (λ (f : Flash). AreSummariesRight d.geometry f) (sym (same_flash d p.device reads honest)) right))

    -- of pages that can be written each part of it stays
    written_mountable : p.worn ≡ false → MayBeMountable q.device.geometry q.device.flash
    written_mountable written =
        let begun = began written in
        let since = begun_on p q used.ends_on.device used.ends_on.mountable.first begun in
        ∥∥₁_elim (remembers.ordered written begun) (λ a b. squash₁ a b) (λ (first : IsOrdered p).
        ∥∥₁_elim (used.ends_on.mountable.ordered begun first) (λ a b. squash₁ a b) (λ (last : IsOrdered q).
        ∥∥₁_elim (tree_findable (volume_of p) q shown_left.0 shown_left.1 since) (λ a b. squash₁ a b) (λ (found : IsTreeFindable q.device.geometry q.device.flash).
        ∥∥₁_elim may (λ a b. squash₁ a b) (λ (was : IsMountableFlash d.geometry d.flash). ∣ record {
          summarized = record { right = right_now was.summarized.right; first = last.first };
          found = found;
          checkpoints = λ c whole. last.noted c.block (checked_now.only c whole);
        } ∣₁))))

    mountable_there : MayBeMountable q.device.geometry q.device.flash
    mountable_there = elim (cases_Bool p.worn) [
      | inl worn ↦ read_mountable (only_reads_on d p.device q.device reads (used.ends_on.mountable.reads worn))
      | inr written ↦ written_mountable written
    ]

    -- and a next mount finds the tree that is shown
    true_there : IsTrueOn q.device
    true_there =
        let there = shown_there (volume_of p) q shown_left.0 shown_left.1 (lasts.honest ∙ honest) in
        record {
          truth = checked_now.right;
          mountable = mountable_there;
          spare = q.spare;
          objects = shown_left.0;
          volume = there.0;
          shows = there.1;
        }

  failed_gone : HasFailed q.device → q.device.gone ≡ true
  failed_gone (inl gone) = gone
  failed_gone (inr dishonest) = absurd (true≢false (sym (lasts.honest ∙ honest) ∙ dishonest))

  -- power is lost, or the blocks or the numbers are used up
  ended_why : m.read_only v ≡ false → HasEndedAt q → (q.device.gone ≡ true) ⊎ ((m.read_only v ≡ false) × IsUsedUp p.spare n d q.device)
  ended_why written (inl failed) = inl (failed_gone failed)
  ended_why written (inr (inl group)) = elim (cases_Bool q.device.gone) [
    | inl gone ↦ inl gone
    | inr power ↦
        let rose = used.ends_on.numbers.groups p_honest power in
        let first = next_group in
        let changes = reads.changes in
        inr (written, inr (inl (omega (arith, group, rose, first, changes))))
  ]
  ended_why written (inr (inr (inl seq))) =
      let rose = used.ends_on.numbers.seqs in
      let first = next_seq in
      let changes = reads.changes in
      inr (written, inr (inr (omega (arith, seq, rose, first, changes))))
  ended_why written (inr (inr (inr many))) = let committed = used.ends_on.spare in inr (written, inl (omega (arith, many, committed)))

  -- the replies are right from the tree on
  pub served_there : IsServedFrom d q.device commands reported unmounted
  served_there =
      let leaves = used.leaves goes (volume_of p) (at_mount objects) objects represents.volume represents.shown in
      let bad : bad_on p.device ≡ bad_on d = ap (λ (g : Geometry). bad_blocks g p.device.flash) reads.lasts.geometry ∙ bad_same d.geometry d.flash p.device.flash same in
      let group = next_group in
      let seq = next_seq in
      record {
        spare = p.spare;
        tree = objects;
        shows = answers_same d.geometry p.device.flash d.flash (same_back d.flash p.device.flash same) p.spare objects
            (subst (λ (g : Geometry). Answers g p.device.flash (IsTreeOf p.spare objects)) reads.lasts.geometry represents.answers);
        numbers = n;
        greatest = at_first;
        read_only = m.read_only v;
        read_only_is = (
          λ only. elim (read_only.0 only) [
            | inl many ↦ inl (omega (arith, many, bad))
            | inr used ↦ elim used [
              | inl over ↦ inr (inl (omega (arith, over, group)))
              | inr over ↦ inr (inr (omega (arith, over, seq)))
            ]
          ],
          λ why. read_only.1 (elim why [
            | inl many ↦ inl (omega (arith, many, bad))
            | inr used ↦ elim used [
              | inl over ↦ inr (inl (omega (arith, over, group)))
              | inr over ↦ inr (inr (omega (arith, over, seq)))
            ]
          ]),
        );
        holds = subst (λ (g : Geometry). RunHolds (sizes_of g p.spare) (m.read_only v) (at_mount objects) commands reported) reads.lasts.geometry leaves.holds;
        unmounts = leaves.unmounts;
        stops = λ why. elim (cases_Bool (m.read_only v)) [
          | inl only ↦ inl (failed_gone (leaves.failed only why))
          | inr written ↦ ended_why written (leaves.cause why)
        ];
      }

  pub truly_there : Remembers d p → IsTrueOn d → TrulyLived d q.device (mounted_record commands reported unmounted q.device.gone ∷ [])
  truly_there remembers truth = record {
    truth = true_there remembers truth.mountable;
    numbers = numbers;
    known = inr (n, at_first);
    life = life;
  }

-- from the device at the mount to the device that is given back
module _ {V : Type 0} (m : Meaning V) (v : V) (d e now : Device) (commands : List Stamped) (reported : List Reply) (unmounted : Option Reply)
    (since : IsTrustedSince d now (m.pages v).device) (used : IsUsed m v commands reported unmounted e) where
  lasts_there : Lasts (trusted_as since.reported now) (trusted_as used.device_is.0 e)
  lasts_there = subst (λ (x : Device). Lasts (trusted_as since.reported now) x) used.device_is.1 (subst (λ (x : Device). Lasts x used.left.device) since.read.seen_is used.ends_on.device)

  -- what the calls of a device keep is committed over the whole use
  pub used_lasts : e.honest ≡ d.honest → Lasts d e
  used_lasts honest = lasts_on d now e since.read.reads.lasts (lasts_seen since.reported used.device_is.0 now e lasts_there (honest ∙ sym since.read.reads.lasts.honest))

  marked_seen : bad_on e + now.failures ≤ bad_on now + e.failures
  marked_seen =
      subst (λ (x : Device). bad_on x + now.failures ≤ bad_on now + x.failures) used.device_is.1
      (subst (λ (x : Device). bad_on used.left.device + x.failures ≤ bad_on x + used.left.device.failures) since.read.seen_is used.ends_on.marks)

  module _ (honest : d.honest ≡ true) (one : (g : Geometry) (flash : Flash) (a b : Answer) → Answers g flash a → Answers g flash b → a ≡ b)
      (goes : m.stopped v ≡ false) (read_only : (m.read_only v ≡ true) ↔ CanOnlyBeRead (m.pages v))
      (next : (m.pages v).device.honest ≡ true → AreNext (m.pages v).device.flash (m.pages v).next)
      (tree : (m.pages v).device.honest ≡ true → (objects : Objects) × Represents m v objects)
      (checked : HasTrueFlash d → IsChecked d.geometry d.flash (m.pages v).checkpoint) (remembers : Remembers d (m.pages v)) where
    module _ (truth : IsTrueOn d) where
      reads : OnlyReads d (m.pages v).device
      reads = read_since d now (m.pages v).device since (honest, truth)

      here : (m.pages v).device.honest ≡ true
      here = reads.lasts.honest ∙ honest

      left : used.left.device ≡ e
      left = left_as_seen used.left e used.device_is (used.ends_on.device.honest ∙ here)

      truly : TrulyLived d e (mounted_record commands reported unmounted e.gone ∷ [])
      truly =
          let there = tree here in
          subst (λ (x : Device). TrulyLived d x (mounted_record commands reported unmounted x.gone ∷ [])) left
          (truly_there m v d e commands reported unmounted honest one reads goes read_only (next here) there.0 there.1 (checked (honest, truth)) used remembers truth)

    -- of a true flash
    pub used_right : IsTrueOn d → IsServedFrom d e commands reported unmounted
    used_right truth =
        let there = tree (here truth) in
        subst (λ (x : Device). IsServedFrom d x commands reported unmounted) (left truth)
        (served_there m v d e commands reported unmounted honest one (reads truth) goes read_only (next (here truth)) there.0 there.1 (checked (honest, truth)) used)

    pub used_lived : HasLived d e (mounted_record commands reported unmounted e.gone ∷ [])
    used_lived =
        let reads = since.read.reads in
        let seen = lasts_there in
        record {
          geometry = seen.geometry ∙ reads.lasts.geometry;
          changes = let first = reads.changes in let then = seen.changes in omega (arith, first, then);
          marks = λ k is. seen.marks k (ap (λ (bad : ℕ → Bool). bad k) reads.bad ∙ is);
          answered = marked_on d now e (none_marked d now reads.lasts.geometry reads.failures reads.bad) marked_seen;
          truly = truly;
        }
