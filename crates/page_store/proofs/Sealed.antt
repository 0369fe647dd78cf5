-- What the writing of a store's checkpoint is to those above.
use Rattle.std.specs.Prelude.{◌≡◌, ◌≤◌, ◌||◌, ℕ, Bool, true, false, List, Option, Some, None, Ok, Err}
use Rattle.std.specs.Option.{option_and_then}
use Rattle.std.proofs.Common.{refl, sym, ◌∙◌, ap, subst, inl, inr, arith}
use Rattle.std.proofs.lemmas.Bool.{or_left}
use mathlib.Core.Logic.{∥∥₁_elim}
use Rattle.nand_model.specs.Flash.{Flash}
use Rattle.nand_model.specs.Calls.{Device}
use Rattle.nand_model.specs.laws.Calls.{lasts_here}
use Rattle.nand_model.specs.laws.Changes.{only_reads_here}
use Rattle.flash_tree.specs.Newest.{HasNewest}
use Rattle.block_state.specs.Committed.{bad_count}
use Rattle.block_state.specs.Table.{Table}
use Rattle.chunk_index.specs.declared.form.CommittedPage.{CommittedPage}
use Rattle.chunk_index.specs.declared.index.Index.{Index}
use Rattle.chunk_index.specs.Committed.{HoldsNone}
use Rattle.chunk_index.specs.Maps.{committed_pages, count_committed_in}
use Rattle.transactions.specs.Checking.{LogState, log_of}
use Rattle.transactions.specs.Handing.{HandsNumbers}
use Rattle.transactions.specs.Ready.{IsReady}
use Rattle.transactions.specs.laws.Handing.{hands_nothing}
use Rattle.posix_profile.specs.State.{Objects}
use Rattle.flash_log.specs.Mountable.{IsMountable, IsMountableSince}
use Rattle.flash_log.specs.Moving.{MarksFailures}
use Rattle.flash_log.specs.Consistency.{AreCommitted, IsCommittedKey, IsCommittedAt, HasVersion, SameData, IsConsistentLog}
use Rattle.flash_log.specs.laws.FreeBlocks.{leaves_fewer, leaves_uncommitted, same_bad_blocks}
use Rattle.flash_log.specs.laws.Mountable.{mountable_on, mountable_seals}
use Rattle.flash_log.specs.laws.Moves.{are_held}
use Rattle.page_store.specs.Shown.{data_of, data_at, committed_data}
use Rattle.pages.specs.State.{PagesState}
use Rattle.pages.specs.Stores.{Carries, FindsSince, HandsOutNumbers, HasPage, IsCarried, CommittedAs, StaysMountable, StaysSame, bad_on}
use Rattle.pages.specs.laws.Mountable.{begun_on, mountable_read}
use Rattle.flash_log.specs.CheckpointDue.{IsDue}
use Rattle.flash_log.specs.CheckpointKeeping as writing
use Rattle.flash_log.specs.Sealing as endings
use Rattle.flash_log.specs.declared.seal_fault.SealFault.{SealFault}
use Rattle.flash_log.specs.declared.seal_fault.SealFault.TheVariants as causes
use Rattle.volume_terms.specs.declared.fault.StoreFault.{StoreFault}
use Rattle.volume_terms.specs.declared.fault.StoreFault.TheVariants as faults
use Rattle.page_store.specs.Sealing.{IsExact, IsSealed, KeepsTree, LeavesOne, SealEnds, StaysRight, seal_fault_of, EndsOn}
use Rattle.page_store.specs.StoreOf.{committed_data_map, next_numbers}
use Rattle.page_store.specs.StoreState.{StoreState, seen_of}
use Rattle.page_store.proofs.Carried.{carried_known, has_page, committed_of_data, known_there}
use Rattle.page_store.proofs.Findable.{finds_committed}
use Rattle.page_store.proofs.ReadOnly.{sound_honest}
use Rattle.page_store.proofs.Reported.{hands_reported, is_sound, limits_reported, marks_reported, not_sound}

-- the pages of a store that is given up, with its device and its numbers as they are then
abbrev pub left_by : PagesState → Device → Table → PagesState
left_by p device t = record p { failed = p.failed || device.gone; issued = device.reads; device = device; next = next_numbers t; checkpoint = t.checkpoint }

numbers_reported : (d e : Device) (t u : Table) → HandsNumbers d e t u → HandsOutNumbers d e (next_numbers t) (next_numbers u)
numbers_reported d e t u hands = record {
  groups_rise = hands.groups_rise;
  seqs_rise = hands.seqs_rise;
  seqs = hands.seqs;
  groups = hands.groups;
  below = hands.below;
  written = hands.written;
}

-- committed pages of which the data stay are carried
carries_still : (f g : Flash) (x : Index) → AreCommitted f (committed_pages x) → SameData (committed_pages x) f g → Carries g (committed_data x f)
carries_still f g x committed same o c xs is = go (committed_pages x o c) refl
  where
    go : (m : Option CommittedPage) → committed_pages x o c ≡ m → HasNewest g o c xs
    go None none = absurd (let two : None ≡ Some xs = sym (ap (option_and_then (data_at f)) none) ∙ is in cc)
    go (Some p) there =
        let at : IsCommittedAt f o c p = committed o c p there in
        let has = at.newest.holds.has in
        let two : Some has.bytes ≡ Some xs = sym (ap data_of has.page) ∙ sym (ap (option_and_then (data_at f)) there) ∙ is in
        let bytes : has.bytes ≡ xs = cc in
        let was : HasVersion f o c p.version has.bytes = record { spot = record { block = p.block; page = p.page; tag = at.tag }; newest = at.newest; version_is = at.version; stored = has.page } in
        let now : HasVersion g o c p.version xs = subst (HasVersion g o c p.version) bytes (same o c p has.bytes there was) in
        record { spot = now.spot; newest = now.newest; stored = now.stored }

module _ (a : StoreState) (lent : List ℕ) where
  abbrev d : Device
  d = a.log.device

  abbrev t : Table
  t = a.log.table

  abbrev x : Index
  x = a.index

  abbrev spare : ℕ
  spare = a.spare

  abbrev broken : Bool
  broken = a.broken

  abbrev seen_pages : PagesState
  seen_pages = seen_of a lent

  -- what is committed is what the log keeps
  pub exact_committed : broken ≡ false → (broken ≡ false → d.honest ≡ true → AreCommitted d.flash (committed_pages x)) → IsExact seen_pages → writing.IsExact d x
  exact_committed whole newest exact honest =
      let tree : Objects = (exact (is_sound d.honest broken honest whole) honest).0 in
      let is : KeepsTree seen_pages tree = (exact (is_sound d.honest broken honest whole) honest).1 in (
        spare,
        tree,
        record {
          volume = is.volume;
          shows = is.shows;
          all = λ o c foot. let has = is.all o c foot in committed_of_data d.flash (committed_pages x o c) has.0 (known_there d.honest (committed_data x d.flash) o c has.0 has.1);
          only = λ o c committed. is.only o c (has_page d x o c committed.0 honest (newest whole honest) committed.1);
        },
      )

  -- a store that is broken is given up as it is
  pub sealed_broken : (due : Type 0) (e : Device) → e ≡ d → broken ≡ true → IsSealed due seen_pages e (Err faults.Device)
  sealed_broken due e same is = record {
    pages = seen_pages;
    device_is = sym same;
    ends_on = record {
      page_bytes = refl;
      most = refl;
      spare = refl;
      worn = refl;
      refused = omega arith;
      commits = omega arith;
      failed = λ yes. yes;
      device = lasts_here d;
      numbers = hands_reported d d t t (hands_nothing d t);
      marks = omega arith;
      limits = λ honest left. left;
      summaries = λ honest right. right;
      mountable = mountable_read seen_pages seen_pages (only_reads_here d) refl refl;
    };
    checked = λ _ honest was. was;
    committed = λ sound. absurd (let two : false ≡ true = sym (not_sound d.honest broken is) ∙ sound in cc);
    within_limit = λ _. tt;
    ends = inr (not_sound d.honest broken is);
  }

  module _ (e : Device) (u : Table) (before : IsReady d t) (consistent : IsConsistentLog spare d t x) (whole : broken ≡ false) (newest : broken ≡ false → d.honest ≡ true → AreCommitted d.flash (committed_pages x)) (none : (y : Index) (b : ℕ) → count_committed_in y b ≡ 0 → HoldsNone (committed_pages y) b)
      (seals : writing.Seals spare x (log_of d t) (log_of e u)) (marks : MarksFailures 0 0 d e t u) (was : IsMountableSince a.first (log_of d t) x) where
    still_carried : d.honest ≡ true → IsCarried e spare (committed_data_map d x)
    still_carried honest = carried_known d.honest e spare (committed_data x d.flash) (record {
      newest = carries_still d.flash e.flash x (newest whole honest) (seals.same_data honest);
      free = λ left. leaves_fewer e.geometry e.flash spare (IsCommittedKey (committed_pages x)) (HasPage (committed_data x d.flash)) (λ o c has. committed_of_data d.flash (committed_pages x o c) has.0 has.1)
          (seals.free honest (leaves_uncommitted spare d t x before consistent.tables (are_held t x (none x) consistent.tables.counts) (newest whole honest)));
    })

    -- the blocks that begin erased are ordered, and the committed pages are found
    since : IsMountableSince a.first (log_of e u) x
    since = mountable_on a.first (log_of d t) (log_of e u) x x seals.keeps.lasts (mountable_seals spare x (log_of d t) (log_of e u) seals) was

    left_mountable : StaysMountable seen_pages (left_by seen_pages e u)
    left_mountable = record {
      first = refl;
      ordered = λ begun _.
          let now = begun_on seen_pages (left_by seen_pages e u) seals.keeps.lasts refl begun in
          ∥∥₁_elim (since now.1 now.0) (λ m n. squash₁ m n) (λ (is : IsMountable (log_of e u) x). ∣ record { first = is.erased.first; noted = is.erased.leads.noted } ∣₁);
      reads = λ worn. let two : false ≡ true = worn in absurd cc;
    }

    left_found : FindsSince (left_by seen_pages e u) (committed_data_map d x)
    left_found begun =
        ∥∥₁_elim (since begun.1 begun.0) (λ m n. squash₁ m n) (λ (is : IsMountable (log_of e u) x).
        ∣ (λ o c (xs, has). finds_committed e x d.flash is.found o c (xs, known_there d.honest (committed_data x d.flash) o c xs has)) ∣₁)

    left_on : EndsOn seen_pages (left_by seen_pages e u)
    left_on = record {
      page_bytes = refl;
      most = refl;
      spare = refl;
      worn = refl;
      refused = omega arith;
      commits = omega arith;
      failed = λ yes. or_left seen_pages.failed e.gone yes;
      device = seals.keeps.lasts;
      numbers = numbers_reported d e t u seals.keeps.numbers;
      marks = marks_reported d e t u before seals.keeps.can_write marks;
      limits = λ honest left. limits_reported e u seals.keeps.can_write seals.consistent.limits (seals.keeps.lasts.honest ∙ honest);
      summaries = seals.keeps.summaries;
      mountable = left_mountable;
    }

    left_right : IsExact seen_pages → StaysRight seen_pages (left_by seen_pages e u)
    left_right exact honest = seals.checked (exact_committed whole newest exact) honest

    left_committed : seen_pages.sound ≡ true → CommittedAs (left_by seen_pages e u) seen_pages.committed
    left_committed sound = record { carried = λ honest. still_carried (sound_honest d.honest broken sound); committed = λ yes o c. refl; found = left_found }

    stays_same : log_of e u ≡ log_of d t → StaysSame seen_pages (left_by seen_pages e u)
    stays_same same = record {
      present = λ o c. refl;
      committed = λ o c. refl;
      sound = refl;
      device = ap (λ (l : LogState). l.device) same;
      next = ap (λ (l : LogState). next_numbers l.table) same;
      checkpoint = ap (λ (l : LogState). l.table.checkpoint) same;
      first = refl;
    }

    leaves_one : endings.LeavesOne x (log_of d t) (log_of e u) → (e.gone ≡ false) × LeavesOne seen_pages (left_by seen_pages e u)
    leaves_one (power, inl has) = (power, inl (record { checkpoint = has.checkpoint; noted = has.noted; whole = has.whole }))
    leaves_one (power, inr failed) = (power, inr failed)

    ends_done : endings.SealEnds spare x (log_of d t) (log_of e u) (Ok tt) → SealEnds (IsDue spare t) seen_pages (left_by seen_pages e u) (Ok tt)
    ends_done (inl (none, same)) = inl (none, stays_same same)
    ends_done (inr (due, leaves)) = let one = leaves_one leaves in inr (due, one.0, one.1)

    ends_failed : (fault : SealFault) → endings.SealEnds spare x (log_of d t) (log_of e u) (Err fault) → SealEnds (IsDue spare t) seen_pages (left_by seen_pages e u) (Err (seal_fault_of fault))
    ends_failed causes.Worn (due, why) = let more = why.0 in let same = same_bad_blocks e u seals.keeps.can_write in omega (arith, more, same)
    ends_failed causes.Lost (due, why) = inl (inr why)
    ends_failed causes.Gone (due, why) = inl (inl why)

    -- no more blocks are bad than there are to spare
    few_sealed : (bad_count t ≤ spare → bad_count u ≤ spare) → bad_on d ≤ spare → bad_on e ≤ spare
    few_sealed within_limit was =
        let old = same_bad_blocks d t before in
        let new = same_bad_blocks e u seals.keeps.can_write in
        let is : bad_count u ≤ spare = within_limit (omega (arith, was, old)) in
        omega (arith, is, new)

    pub sealed_done : (bad_count t ≤ spare → bad_count u ≤ spare) → endings.SealEnds spare x (log_of d t) (log_of e u) (Ok tt) → IsSealed (IsDue spare t) seen_pages e (Ok tt)
    sealed_done within_limit ends = record { pages = left_by seen_pages e u; device_is = refl; ends_on = left_on; checked = left_right; committed = left_committed; within_limit = few_sealed within_limit; ends = ends_done ends }

    pub sealed_failed : (fault : SealFault) (reported : StoreFault) → reported ≡ seal_fault_of fault → endings.SealEnds spare x (log_of d t) (log_of e u) (Err fault) → IsSealed (IsDue spare t) seen_pages e (Err reported)
    sealed_failed fault reported same ends = record {
      pages = left_by seen_pages e u;
      device_is = refl;
      ends_on = left_on;
      checked = left_right;
      committed = left_committed;
      within_limit = λ _. tt;
      ends = subst (λ (f : StoreFault). SealEnds (IsDue spare t) seen_pages (left_by seen_pages e u) (Err f)) (sym same) (ends_failed fault ends);
    }
