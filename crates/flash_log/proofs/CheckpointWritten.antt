-- What the writing of a checkpoint's group leaves.
use Rattle.std.proofs.Common.{◌≤◌, ◌≡◌, ◌<◌, ℕ, ◌+◌, ◌*◌, true, false, length, Some, None, Result, refl, sym, ap, subst, ◌∙◌, arith, inl, inr}
use Rattle.std.proofs.lemmas.List.{length-map}
use Rattle.volume_terms.specs.Rounding.{ceiling}
use Rattle.volume_terms.specs.Sizes.{number_end}
use Rattle.nand_model.specs.Flash.{Written}
use Rattle.nand_model.specs.Calls.{Device, Lasts}
use Rattle.nand_model.specs.declared.geometry.Geometry.{Geometry}
use Rattle.page_tags.specs.declared.tag.Tag.{Tag}
use Rattle.page_tags.specs.Tags.{tag_bytes, IsTag}
use Rattle.page_tags.specs.Checks.{check_page}
use Rattle.flash_tree.specs.Checkpoints.{Checkpoint, check_group, check_tag, IsWhole, IsChecked}
use Rattle.flash_tree.specs.Groups.{Group, AllThere}
use Rattle.flash_tree.specs.Slots.{check_object}
use Rattle.flash_tree.specs.Truth.{KeepsSummaries}
use Rattle.block_state.specs.Committed.{bad_count, uncommitted_count, SameCounts}
use Rattle.block_state.specs.laws.Committed.{same_bad_count, same_uncommitted_count}
use Rattle.block_state.specs.Table.{Table}
use Rattle.transactions.specs.declared.source.PageName.{PageName}
use Rattle.transactions.specs.declared.source.PageSource.{Ghosts}
use Rattle.transactions.specs.declared.group.Placed.{Placed}
use Rattle.transactions.specs.declared.group.GroupFault.{GroupFault}
use Rattle.transactions.specs.Checking.{log_of, WritesCheckpoint, WritesGroup}
use Rattle.transactions.specs.Groups.{next_group, AddsPages}
use Rattle.transactions.specs.Ready.{IsReady}
use Rattle.transactions.specs.Naming.{BeginsOther}
use Rattle.transactions.specs.Written.{tag_in}
use Rattle.transactions.specs.laws.Ready.{none_waits}
use Rattle.flash_log.specs.Passing.{KeepsFound}
use Rattle.flash_log.specs.laws.Found.{found_after, found_others}
use Rattle.flash_log.specs.laws.Keeping.{limits_ends, same_ends}
use Rattle.flash_log.specs.CheckpointKeeping.{KeepsPages}
use Rattle.flash_log.specs.CheckpointListing.{committed_keys, check_entry}
use Rattle.flash_log.specs.CheckpointSource.{CanList, index_entries}
use Rattle.flash_log.specs.CheckpointWriting.{Leaves, MayMark, ReadsSuspects}
use Rattle.flash_log.specs.declared.checkpoint_source.Checks.{Checks}
use Rattle.chunk_index.specs.Maps.{committed_pages}
use Rattle.flash_log.specs.laws.Erased.{erased_noted, erased_written}
use Rattle.flash_log.proofs.CheckNames.{other_object, trees_stay}
use Rattle.flash_log.proofs.CheckpointNoting.{noted, ready_noted}

-- so many entries take as many pages as the source has
pub same_size : (checks : Checks) (g : Geometry) (n : ℕ) → CanList checks g n → checks.pages ≡ ceiling (32 * (1 + length (index_entries checks.index.now))) g.bytes
same_size checks g n list =
    list.pages ∙ ap (λ k. ceiling (32 * (1 + k)) g.bytes) (list.entries ∙ sym (length-map (committed_keys (committed_pages checks.index.now)) check_entry))

-- ---- the group

module _ {T : Type 0} (pages : Ghosts T) (source : T) (d e : Device) (t u : Table) (result : Result Placed GroupFault) (block : ℕ) (opened : t.open_block ≡ Some block) (can_write : IsReady d t)
    (lasts : Lasts d e) (group : WritesGroup pages source (log_of d t) (log_of e u) result) (writes : d.honest ≡ true → WritesCheckpoint pages source d t) where
  abbrev g : Group
  g = next_group t (pages.count source) block

  abbrev name : ℕ → PageName
  name = pages.name source t.next_group

  own_object : d.honest ≡ true → (i : ℕ) → i < g.size → (name i).key.object ≡ check_object
  own_object honest i lt = ap (λ (n : PageName). n.key.object) ((writes honest).names i lt)

  same : SameCounts t u
  same = same_ends (pages.count source) t u result group.table

  good_there : d.flash.bad block ≡ false
  good_there = (can_write.open_block block opened).good

  good_after : e.flash.bad block ≡ false
  good_after = ap (λ f. f block) group.stays.bad ∙ good_there

  within_after : block < e.geometry.blocks
  within_after = subst (λ (x : Geometry). block < x.blocks) (sym lasts.geometry) (can_write.open_block block opened).within

  -- the block is on the device, and good
  pub block_after : IsReady e u → block < u.geometry.blocks
  block_after after = subst (λ (x : Geometry). block < x.blocks) (sym after.geometry) within_after

  pub good_now : IsReady e u → (u.entry block).bad ≡ false
  good_now after = after.marks block ∙ good_after

  pub committed_now : (t.entry block).committed ≡ 0 → (u.entry block).committed ≡ 0
  committed_now none = same.committed block ∙ none

  pub none_before : t.checkpoint ≡ None
  none_before = none_waits d t block can_write opened

  pub bad_same : bad_count u ≡ bad_count t
  bad_same = same_bad_count t u same

  -- a checkpoint does not begin as a summary
  begins_other : (honest : d.honest ≡ true) → 1 ≤ pages.count source → BeginsOther (name 0)
  begins_other honest some object chunk =
      let one : (name 0).key.chunk ≡ 1 + 0 = ap (λ (n : PageName). n.key.chunk) ((writes honest).names 0 some) in
      omega (arith, one, chunk)

  -- what is findable is so still
  found_group : d.honest ≡ true → KeepsFound t d e
  found_group honest =
      let right : KeepsSummaries d e = group.summaries honest (λ some. begins_other honest some) in
      found_after t d e block (pages.count source) name (pages.bytes source d.flash) can_write opened honest lasts.geometry (group.writes honest) right
      (λ adds. found_others t d e block (pages.count source) name (pages.bytes source d.flash) can_write opened honest lasts.geometry (group.writes honest) right
      (λ some. begins_other honest some) adds (other_object g name (pages.bytes source d.flash) d.flash e.flash (group.writes honest).grows (own_object honest))) result (group.groups honest block opened)

  -- what is committed, as the group leaves the table
  pub keeps_group : IsReady e u → t.next_group < number_end → KeepsPages (log_of d t) (log_of e u)
  keeps_group after less = record {
    lasts = lasts;
    can_write = after;
    numbers = group.numbers;
    geometry = same.geometry;
    committed = same.committed;
    uncommitted =
        let bad = bad_same in
        let uncommitted : uncommitted_count u ≡ uncommitted_count t = same_uncommitted_count t u same in
        omega (arith, bad, uncommitted);
    limits = λ is. limits_ends (pages.count source) t u result group.table less is;
    newest = λ honest o k s other newest some. trees_stay g name (pages.bytes source d.flash) d.flash e.flash (group.writes honest).grows (own_object honest) result (group.groups honest block opened) o k s other newest;
    summaries = λ honest. group.summaries honest (λ some. begins_other honest some);
    found = λ honest. found_group honest;
    erased = erased_written d e t block (pages.count source) name (pages.bytes source d.flash) can_write opened lasts group.writes u result (λ honest. group.groups honest block opened) group.table;
  }

  -- nothing was written in the block before
  blank_before : d.honest ≡ true → (t.entry block).next ≡ 0
  blank_before honest =
      let w = writes honest in
      let both : Some w.block ≡ Some block = sym w.open_block ∙ opened in
      let same : w.block ≡ block = cc in
      ap (λ b. (t.entry b).next) (sym same) ∙ w.first

  -- and once the block is noted
  pub keeps_noted : (v : Table) → v ≡ noted block u → IsReady e u → t.next_group < number_end → KeepsPages (log_of d t) (log_of e v)
  keeps_noted v is after less = subst (λ (x : Table). KeepsPages (log_of d t) (log_of e x)) (sym is) (
      let keeps = keeps_group after less in
      record {
        lasts = lasts;
        can_write = ready_noted e u (noted block u) block refl within_after good_after after;
        numbers = record {
          groups_rise = keeps.numbers.groups_rise;
          seqs_rise = keeps.numbers.seqs_rise;
          seqs = keeps.numbers.seqs;
          groups = keeps.numbers.groups;
          below = keeps.numbers.below;
          written = keeps.numbers.written;
        };
        geometry = keeps.geometry;
        committed = keeps.committed;
        uncommitted = keeps.uncommitted;
        limits = keeps.limits;
        newest = keeps.newest;
        summaries = keeps.summaries;
        found = keeps.found;
        erased = erased_noted d e t block (pages.count source) name (pages.bytes source d.flash) can_write opened lasts group.writes u (noted block u) result
            (λ honest. group.groups honest block opened) group.table blank_before refl;
      })

  -- the block may be marked then
  pub marks_noted : (v : Table) → v ≡ noted block u → IsReady e u → (t.entry block).committed ≡ 0 → MayMark block v
  marks_noted v is after none = subst (MayMark block) (sym is) (record {
    within = block_after after;
    good = good_now after;
    uncommitted = committed_now none;
    open_block = refl;
    first = inr refl;
  })

  pub marks_group : IsReady e u → (t.entry block).committed ≡ 0 → u.open_block ≡ None → u.checkpoint ≡ t.checkpoint → MayMark block u
  marks_group after none closed still = record {
    within = block_after after;
    good = good_now after;
    uncommitted = committed_now none;
    open_block = closed;
    first = inl (still ∙ none_before);
  }

  pub bad_noted : (v : Table) → v ≡ noted block u → bad_count v ≡ bad_count t
  bad_noted v is = ap bad_count is ∙ bad_same

  -- what the writing leaves, where the block is noted and where it is not
  pub leaves_noted : (v : Table) → v ≡ noted block u → IsReady e u → t.next_group < number_end → ReadsSuspects d e
      → {right : Type 0} → (right → d.honest ≡ true → IsChecked d.geometry d.flash None → IsChecked e.geometry e.flash (Some block)) → Leaves right block (log_of d t) (log_of e v)
  leaves_noted v is after less reads checked = record {
    keeps = keeps_noted v is after less;
    checked = λ is_right honest was. subst (IsChecked e.geometry e.flash) (sym (ap (λ (x : Table). x.checkpoint) is)) (checked is_right honest (subst (IsChecked d.geometry d.flash) none_before was));
    reads = reads;
    open_block = ap (λ (x : Table). x.open_block) is;
    checkpoint = λ c at. let both : Some block ≡ Some c = sym (ap (λ (x : Table). x.checkpoint) is) ∙ at in cc;
  }

  pub leaves_group : IsReady e u → t.next_group < number_end → ReadsSuspects d e → u.open_block ≡ None → u.checkpoint ≡ t.checkpoint
      → {right : Type 0} → (right → d.honest ≡ true → IsChecked d.geometry d.flash None → IsChecked e.geometry e.flash None) → Leaves right block (log_of d t) (log_of e u)
  leaves_group after less reads closed still checked = record {
    keeps = keeps_group after less;
    checked = λ is_right honest was. subst (IsChecked e.geometry e.flash) (sym (still ∙ none_before)) (checked is_right honest (subst (IsChecked d.geometry d.flash) none_before was));
    reads = reads;
    open_block = closed;
    checkpoint = λ c at. let two : None ≡ Some c = sym none_before ∙ sym still ∙ at in absurd cc;
  }

  -- ---- the checkpoint

  module _ (w : WritesCheckpoint pages source d t) (here : w.block ≡ block) where
    abbrev written : Checkpoint
    written = record { block = block; size = pages.count source; number = t.next_group; seq = (t.entry block).seq; entries = w.entries }

    first : (t.entry block).next ≡ 0
    first = ap (λ b. (t.entry b).next) (sym here) ∙ w.first

    same_tag : (i : ℕ) → i < pages.count source → tag_in g name i ≡ check_tag written i
    same_tag i lt = ap (λ (n : PageName). record { index = i; count = pages.count source; object = n.key.object; chunk = n.key.chunk; version = n.version; group = t.next_group; seq = (t.entry block).seq }) (w.names i lt)

    all_there : AllThere g (tag_in g name) (pages.bytes source d.flash) e.flash → AllThere (check_group written) (check_tag written) (check_page d.geometry.bytes w.entries) e.flash
    all_there there i lt =
        let page = there i lt in
        let at : e.flash.page block (0 + i) ≡ Written (pages.bytes source d.flash i) (tag_bytes (tag_in g name i)) = ap (λ s. e.flash.page block (s + i)) (sym first) ∙ page.0 in
        (at ∙ ap (λ xs. Written xs (tag_bytes (tag_in g name i))) (w.bytes i lt) ∙ ap (λ (x : Tag). Written (check_page d.geometry.bytes w.entries i) (tag_bytes x)) (same_tag i lt), subst IsTag (same_tag i lt) page.1)

    pub whole : AddsPages g name (pages.bytes source d.flash) d.flash e.flash → IsWhole e.geometry e.flash written
    whole adds = subst (λ (x : Geometry). IsWhole x e.flash written) (sym lasts.geometry)
        (record { good = good_after; size = w.size; pages = all_there adds.pages; entries = w.each; rise = w.rise })
