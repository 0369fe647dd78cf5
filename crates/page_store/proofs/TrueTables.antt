-- The tables of a true flash, by its checkpoint.
use Rattle.std.specs.Prelude.{◌≡◌, ◌<◌, ◌^◌, ◌-◌, ℕ, true, false, map, Some, Contains}
use Rattle.std.proofs.Common.{sym, ◌∙◌, ap, subst, arith}
use Rattle.nand_model.specs.Flash.{IsWithin}
use Rattle.nand_model.specs.Calls.{Device}
use Rattle.page_tags.specs.declared.check.CheckEntry.{CheckEntry}
use Rattle.flash_tree.specs.Checkpoints.{Checkpoint, IsWhole, IsRight, IsTrueFlash, IsChecked}
use Rattle.flash_tree.specs.Mount.{sizes_of}
use Rattle.flash_tree.specs.Newest.{Spot, IsNewest, HasNewest}
use Rattle.flash_tree.specs.Tree.{InFootprint}
use Rattle.flash_tree.specs.laws.Checking.{same_block}
use Rattle.flash_tree.specs.laws.Newest.{one_spot}
use Rattle.flash_tree.specs.laws.Place.{tag_placed}
use Rattle.block_state.specs.Table.{Table}
use Rattle.block_state.specs.TableOf.{table}
use Rattle.chunk_index.specs.Adding.{entry_key}
use Rattle.chunk_index.specs.Committed.{IsListOf}
use Rattle.pages.specs.laws.Low.{looked_low}
use Rattle.chunk_index.specs.Maps.{committed_pages}
use Rattle.chunk_index.specs.declared.form.CommittedKey.{CommittedKey}
use Rattle.chunk_index.specs.declared.form.CommittedPage.{CommittedPage}
use Rattle.chunk_index.specs.declared.index.Index.{Index}
use Rattle.mount_scan.specs.FoundCheckpoint.{HasForm}
use Rattle.page_store.specs.Checked.{MayAllBeCommitted, KeepsItsTree}
use Rattle.page_store.specs.Opened.{committed_at}
use Rattle.page_store.specs.declared.opening.Opened.{Opened}
use Rattle.page_store.specs.laws.Trust.{right_said}
use Rattle.page_store.proofs.Entries.{mapped, contains_at, there_at, reported_by, are_newest}

module _ (d : Device) (c : Checkpoint) (honest : d.honest ≡ true) (whole : IsWhole d.geometry d.flash c) (true_flash : IsTrueFlash d.geometry d.flash) where
  right : IsRight d.geometry d.flash c
  right = true_flash c whole

  -- each entry of a right checkpoint may report on a committed page
  pub all_may : IsWithin d.geometry.pages d.geometry.blocks d.flash → MayAllBeCommitted d c
  all_may within i e at =
      let has = contains_at c.entries i e at in
      let listed = right.tree.only e has in
      let foot = listed.0 in
      let (s, newest, reported) = listed.1 in
      let held = newest.holds in
      let lies = tag_placed d.geometry.pages d.geometry.blocks d.flash s.block s.page s.tag within held.has in
      let good : d.flash.bad s.block ≡ false = ap d.flash.bad held.block ∙ held.whole.good in
      let most = (right.above s.block s.page s.tag good held.has).0 in
      let block : e.block ≡ s.block = ap (λ (f : CheckEntry). f.block) reported in
      let page : e.page ≡ s.page = ap (λ (f : CheckEntry). f.page) reported in
      let version : e.version ≡ s.tag.version = ap (λ (f : CheckEntry). f.version) reported in
      let object = right.tree.shows.tree.forest.each e.object foot.object foot.there in
      let below : e.object < 2 ^ 64 - 1 = object.number in
      record {
        block = omega (arith, lies, block);
        page = omega (arith, lies, page);
        good = ap d.flash.bad block ∙ good;
        apart = right.apart e has;
        object = (object.numbered, below);
        low = looked_low (sizes_of d.geometry right.tree.spare) (record { least = let least = d.geometry.least_bytes in omega (arith, least); most = d.geometry.most_bytes }) foot.fields e.chunk foot.has.1 foot.looks;
        version = (omega (arith, held.has.valid.version, version), omega (arith, most, version));
      }

  module _ (opened : Opened) (t2 : Table) (form : HasForm d c) (placed : MayAllBeCommitted d c) (list : IsListOf (committed_pages opened.index) (map entry_key c.entries))
      (last : table opened.blocks ≡ record t2 { checkpoint = Some c.block }) where
    abbrev x : Index
    x = opened.index

    -- an entry's page is committed
    entry_committed : (e : CheckEntry) → Contains c.entries e → committed_pages x e.object e.chunk ≡ Some (entry_key e).at
    entry_committed e has = let at = there_at c.entries e has in list.each at.0 (entry_key e) (mapped entry_key c.entries at.0 e at.1)

    all : (o k : ℕ) (s : Spot) → InFootprint (sizes_of d.geometry right.tree.spare) (HasNewest d.flash) right.tree.objects o k → IsNewest d.flash o k s → committed_pages x o k ≡ Some (committed_at s)
    all o k s foot newest =
        let (e, has, object, chunk) = right.tree.all o k foot in
        let (r, last, reported) = (right.tree.only e has).1 in
        let key : IsNewest d.flash o k r = subst (λ j. IsNewest d.flash o j r) chunk (subst (λ j. IsNewest d.flash j e.chunk r) object last) in
        let spot : r ≡ s = one_spot d.flash o k r s key newest in
        let page : (entry_key e).at ≡ committed_at s = ap (λ (f : CheckEntry). (entry_key f).at) reported ∙ ap committed_at spot in
        sym (ap (λ j. committed_pages x j e.chunk) object ∙ ap (committed_pages x o) chunk) ∙ entry_committed e has ∙ ap Some page

    only : (o k : ℕ) (p : CommittedPage) → committed_pages x o k ≡ Some p → InFootprint (sizes_of d.geometry right.tree.spare) (HasNewest d.flash) right.tree.objects o k
    only o k p is =
        let (i, e, at, key) = reported_by d c x form placed list o k p is in
        let foot = (right.tree.only e (contains_at c.entries i e at)).0 in
        let object : e.object ≡ o = ap (λ (y : CommittedKey). y.key.object) key in
        let chunk : e.chunk ≡ k = ap (λ (y : CommittedKey). y.key.chunk) key in
        subst (λ j. InFootprint (sizes_of d.geometry right.tree.spare) (HasNewest d.flash) right.tree.objects o j) chunk
        (subst (λ j. InFootprint (sizes_of d.geometry right.tree.spare) (HasNewest d.flash) right.tree.objects j e.chunk) object foot)

    -- the block of the checkpoint alone has one
    noted : (table opened.blocks).checkpoint ≡ Some c.block
    noted = ap (λ (t : Table). t.checkpoint) last

    checked : IsChecked d.geometry d.flash (table opened.blocks).checkpoint
    checked = record {
      right = true_flash;
      only = λ other there. noted ∙ ap Some (same_block d.geometry d.flash true_flash c other whole there);
    }

    pub keeps_tree : KeepsItsTree d opened
    keeps_tree = record {
      spare = right.tree.spare;
      objects = right.tree.objects;
      volume = right.tree.volume;
      shows = right.tree.shows;
      newest = are_newest d c x form placed list d.flash (right_said d.geometry d.flash c right).newest;
      all = all;
      only = only;
      checked = checked;
    }
