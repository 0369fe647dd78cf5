-- The tree that was gone through by the entries of a checkpoint.
use Rattle.std.specs.Prelude.{◌≡◌, ◌↔◌, ◌&&◌, ◌<◌, ◌^◌, ℕ, Bool, true, List, Option, Some, Result, Ok, Err, IfOk}
use Rattle.std.proofs.Common.{sym, ◌∙◌, ap, subst, arith}
use Rattle.nand_model.specs.Flash.{Flash, IsWithin}
use Rattle.nand_model.specs.Calls.{Device}
use Rattle.nand_model.specs.Changes.{OnlyReads}
use Rattle.nand_model.specs.declared.geometry.Geometry.{Geometry}
use Rattle.flash_tree.specs.Checkpoints.{IsChecked}
use Rattle.flash_tree.specs.Mount.{sizes_of}
use Rattle.flash_tree.specs.Newest.{Spot, IsNewest, HasNewest, Numbers}
use Rattle.flash_tree.specs.Tree.{IsPageSize}
use Rattle.flash_tree.specs.laws.Place.{same_flash}
use Rattle.block_state.specs.Table.{Table}
use Rattle.chunk_index.specs.declared.index.Index.{Index}
use Rattle.chunk_index.specs.Maps.{committed_pages}
use Rattle.name_index.specs.declared.index.NameIndex.{NameIndex}
use Rattle.page_store.specs.Checked.{HasTrueFlash}
use Rattle.page_store.specs.Opened.{IsOpenedBy, committed_at}
use Rattle.page_store.specs.Shown.{committed_data}
use Rattle.pages.specs.Maps.{PageMap, has}
use Rattle.nand_model.specs.Trusting.{trusted_as}
use Rattle.nand_model.specs.laws.Trusted.{honest_of}
use Rattle.tree_walk.specs.Hashes.{CoversTree}
use Rattle.tree_walk.specs.Trees.{IsLookedUp, ReportsHeads, keeps_key, objects_listed, page_size}
use Rattle.tree_walk.specs.declared.tree.Tree.{Tree}
use Rattle.volume_terms.specs.Sizes.{Sizes}
use Rattle.mounting.specs.Mounted.{IsTreeOn, IsTreeRead, CoversNewest}
use Rattle.mounting.specs.Named.{IsReadAs, IsTrustedSince}
use Rattle.mounting.specs.Tables.{KeepsOnly, IsPruned}
use Rattle.mounting.specs.Trees.{IsGoneThrough}
use Rattle.mounting.proofs.Parting.{newest_map, gone_to, covers_to, looked_up, committed_at_newest}
use Rattle.mounting.proofs.Pruning.{pruned_by}
use Rattle.mounting.proofs.Shown.{committed_low, committed_newest}

-- what the keys of a tree are
abbrev pub KeysLaw : Type 0
KeysLaw = (z : Sizes) (m : PageMap) (tree : Tree) → z.page_bytes ≡ page_size tree → ReportsHeads z (has m) tree
    → (o c : ℕ) → (keeps_key tree o c ≡ true) ↔ IsLookedUp z (has m) (objects_listed tree) o c

-- a page of a device is large enough for a header
pub is_size : (g : Geometry) (spare : ℕ) → IsPageSize (sizes_of g spare).page_bytes
is_size g spare = record { least = let low = g.least_bytes in omega (arith, low); most = g.most_bytes }

module _ (reported : Bool) (noted : Option ℕ) (a b : Device) (t u : Table) (x y : Index) (n : Numbers) (spare : ℕ) (tree : Tree) (names : NameIndex) (reads : OnlyReads a b)
    (opened : IsOpenedBy noted (trusted_as reported a) t x n) (still : IsOpenedBy noted (trusted_as reported b) u y n) (only : KeepsOnly (keeps_key tree) x y)
    (gone : (a.honest && reported) ≡ true → IsGoneThrough a.geometry (has (committed_data x a.flash)) spare tree)
    (covers : (a.honest && reported) ≡ true → CoversTree names (sizes_of a.geometry spare) (committed_data x a.flash) tree)
    (within : IsWithin b.geometry.pages b.geometry.blocks b.flash) (keys : KeysLaw) where
  abbrev m : PageMap
  m = committed_data x a.flash

  was : (b.honest && reported) ≡ true → (a.honest && reported) ≡ true
  was both = sym (ap (λ h. h && reported) reads.lasts.honest) ∙ both

  flash_is : (b.honest && reported) ≡ true → b.flash ≡ a.flash
  flash_is both = same_flash a b reads (honest_of a.honest reported (was both))

  -- each committed page is the newest
  committed_is : (b.honest && reported) ≡ true → (o c : ℕ) (xs : List ℕ) → m o c ≡ Some xs → HasNewest b.flash o c xs
  committed_is both o c xs is = subst (λ (f : Flash). HasNewest f o c xs) (sym (flash_is both)) (committed_newest a.flash x (opened.newest (was both)) o c xs is)

  all : (b.honest && reported) ≡ true → (o c : ℕ) (s : Spot) → c < 2 ^ 32 → keeps_key tree o c ≡ true → IsNewest b.flash o c s → committed_pages x o c ≡ Some (committed_at s)
  all both o c s low stays newest =
      let through = gone (was both) in
      let z : Sizes = sizes_of a.geometry spare in
      let looked = (keys z m tree (sym through.size) through.tree_is.heads o c).0 stays in
      let there = looked_up m z (is_size a.geometry spare) tree through.tree_is o c looked in
      committed_at_newest a.flash x o c s there.0 (opened.newest (was both)) there.1 (subst (λ (f : Flash). IsNewest f o c s) (flash_is both) newest)

  tables : IsPruned (keeps_key tree) (trusted_as reported b) u y n
  tables = pruned_by (keeps_key tree) noted (trusted_as reported b) u x y n still only all

  tree_on : (b.honest && reported) ≡ true → IsTreeOn (trusted_as reported b) spare tree
  tree_on both =
      let map = newest_map b.geometry b.flash within in
      record {
        pages = map.0;
        newest = map.1;
        through = gone_to m map.0 (λ o c xs is. (map.1 o c xs).1 (committed_is both o c xs is, committed_low a.flash x opened.low o c xs is)) b.geometry spare tree
            (subst (λ (g : Geometry). IsGoneThrough g (has m) spare tree) (sym reads.lasts.geometry) (gone (was both)));
      }

  pub tree_read : IsTreeRead (trusted_as reported b) u y n spare tree
  tree_read = record { tables = tables; tree_on = tree_on }

  pub names_read : (b.honest && reported) ≡ true → CoversNewest names (trusted_as reported b) spare tree
  names_read both pages newest =
      let z : Sizes = sizes_of a.geometry spare in
      subst (λ (g : Geometry). CoversTree names (sizes_of g spare) pages tree) (sym reads.lasts.geometry)
      (covers_to m pages (λ o c xs is. (newest o c xs).1 (committed_is both o c xs is, committed_low a.flash x opened.low o c xs is)) z (is_size a.geometry spare) tree (gone (was both)).tree_is names (covers (was both)))

-- ---- what is said of a result

-- a device that is read as it is trusted
pub since_read : {T E : Type 0} (r : Result T E) (reported : Bool) (old : Device) (new seen : T → Device) → (HasTrueFlash old → reported ≡ true) → IfOk r (λ x. IsReadAs reported old (new x) (seen x))
    → IfOk r (λ x. IsTrustedSince old (new x) (seen x))
since_read (Ok x) reported old new seen trusted read = record { reported = reported; read = read; trusted = trusted }
since_read (Err e) reported old new seen trusted read = tt

-- the block that is noted
pub checked_at : {T E : Type 0} (r : Result T E) (g : Geometry) (flash : Flash) (at : T → Option ℕ) (b : ℕ) → IsChecked g flash (Some b) → IfOk r (λ x. at x ≡ Some b) → IfOk r (λ x. IsChecked g flash (at x))
checked_at (Ok x) g flash at b checked is = subst (IsChecked g flash) (sym is) checked
checked_at (Err e) g flash at b checked is = tt
