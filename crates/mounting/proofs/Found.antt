-- The tree that was gone through in the pages that summaries found.
use Rattle.std.specs.Prelude.{◌≡◌, ◌&&◌, ℕ, Bool, true, false, List, Option, Some, None}
use Rattle.std.specs.Option.{option_map, option_and_then}
use Rattle.std.proofs.Common.{refl, sym, ◌∙◌, ap, subst, inl, inr}
use Rattle.std.proofs.lemmas.Bool.{cases_Bool}
use Rattle.nand_model.specs.Calls.{Device}
use Rattle.nand_model.specs.Changes.{OnlyReads}
use Rattle.nand_model.specs.Flash.{Flash, Page, Erased, Written, Uncorrectable, IsWithin}
use Rattle.nand_model.specs.Trusting.{trusted_as}
use Rattle.nand_model.specs.declared.geometry.Geometry.{Geometry}
use Rattle.nand_model.specs.laws.Changes.{only_reads_here}
use Rattle.nand_model.specs.laws.Trusted.{honest_of, trusted_of}
use Rattle.flash_tree.specs.Mount.{sizes_of}
use Rattle.flash_tree.specs.Newest.{Numbers, AreAbove, AreGreatest}
use Rattle.flash_tree.specs.Places.{numbers_of}
use Rattle.flash_tree.specs.laws.Place.{same_flash}
use Rattle.block_state.specs.Table.{Table}
use Rattle.block_state.specs.TableOf.{table}
use Rattle.chunk_index.specs.Counts.{Recounts}
use Rattle.chunk_index.specs.Maps.{committed_pages}
use Rattle.chunk_index.specs.declared.form.CommittedPage.{CommittedPage}
use Rattle.chunk_index.specs.declared.index.Index.{Index}
use Rattle.flash_log.specs.Consistency.{AreCommitted}
use Rattle.name_index.specs.declared.index.NameIndex.{NameIndex}
use Rattle.page_store.specs.Checked.{HasTrueFlash}
use Rattle.page_store.specs.FoundTables.{FindsItsTree, KnowsItsFirsts, WhyNotFound}
use Rattle.page_store.specs.Opened.{IsOpenedBy}
use Rattle.page_store.specs.Shown.{data_of, data_at, committed_data}
use Rattle.page_store.specs.declared.opening.OpenFault.{OpenFault}
use Rattle.page_store.specs.declared.opening.OpenFault.TheVariants as opens
use Rattle.page_store.specs.declared.opening.Opened.{Opened}
use Rattle.pages.specs.Maps.{PageMap, has}
use Rattle.tree_walk.specs.Hashes.{CoversTree}
use Rattle.tree_walk.specs.Trees.{IsLookedUp, keeps_key, objects_listed}
use Rattle.tree_walk.specs.declared.fault.RootFault.{RootFault}
use Rattle.tree_walk.specs.declared.tree.Tree.{Tree}
use Rattle.volume_terms.specs.Sizes.{Sizes}
use Rattle.mounting.specs.Candidates.{candidate_pages, data_or_zeros, read_at}
use Rattle.mounting.specs.Faults.{of_found}
use Rattle.mounting.specs.Mounted.{IsTreeRead, CoversNewest}
use Rattle.mounting.specs.Named.{IsTrustedSince}
use Rattle.mounting.specs.Reads.{EndsMount, ReadsThrough}
use Rattle.mounting.specs.Tables.{KeepsOnly, KnowsBlocks, KnowsFirstsOf}
use Rattle.mounting.specs.Trees.{IsGoneThrough}
use Rattle.mounting.proofs.Deciding.{ListsKeys, IsAsCommitted, are_committed, as_committed, opened_as}
use Rattle.mounting.proofs.Entering.{KeysLaw, tree_read, names_read}
use Rattle.mounting.proofs.Firsts.{known_after, some_number}
use Rattle.mounting.proofs.Lent.{reads_trusted}
use Rattle.mounting.proofs.Narrowing.{gone_in, covers_in}
use Rattle.mounting.proofs.Noting.{whole_none}
use Rattle.mounting.proofs.SureFound.{FootLaw, committed_of_tree}
use Rattle.mounting.proofs.Zeros.{pages_after}

-- ---- where a page is written, what is read of it is its data

read_data : (bytes : ℕ) (p : Page) (xs : List ℕ) → data_of p ≡ Some xs → data_or_zeros bytes p ≡ xs
read_data bytes Erased xs is = absurd cc
read_data bytes (Written ys tag) xs is = cc
read_data bytes Uncorrectable xs is = absurd cc

-- the data of a key that is committed at its newest page
committed_written : (flash : Flash) (y : Index) (o c : ℕ) (at : CommittedPage) (bytes : ℕ) → AreCommitted flash (committed_pages y) → committed_pages y o c ≡ Some at → committed_data y flash o c ≡ Some (read_at bytes flash at)
committed_written flash y o c at bytes committed is =
    let has = (committed o c at is).newest.holds.has in
    let page : flash.page at.block at.page ≡ Written has.bytes _ = has.page in
    ap (option_and_then (data_at flash)) is ∙ ap data_of page ∙ ap Some (sym (ap (data_or_zeros bytes) page))

-- a key with data is committed, and what is read there is its data
committed_read : (flash : Flash) (xs : List ℕ) (bytes : ℕ) (o : Option CommittedPage) → option_and_then (data_at flash) o ≡ Some xs → option_map (read_at bytes flash) o ≡ Some xs
committed_read flash xs bytes None is = absurd cc
committed_read flash xs bytes (Some at) is = ap Some (read_data bytes (flash.page at.block at.page) xs is)

-- ---- what is committed of the tree alone

module _ (d : Device) (x y : Index) (tree : Tree) (only : KeepsOnly (keeps_key tree) x y) (committed : AreCommitted d.flash (committed_pages y)) (keys : KeysLaw) (spare : ℕ) (gone : IsGoneThrough d.geometry (has (candidate_pages x d)) spare tree) where
  abbrev z : Sizes
  z = sizes_of d.geometry spare

  abbrev m : PageMap
  m = candidate_pages x d

  abbrev part : PageMap
  part = committed_data y d.flash

  to : (o c : ℕ) (xs : List ℕ) → IsLookedUp z (has m) (objects_listed tree) o c → m o c ≡ Some xs → part o c ≡ Some xs
  to o c xs looked is = go (committed_pages y o c) refl where
    stays : keeps_key tree o c ≡ true
    stays = (keys z m tree (sym gone.size) gone.tree_is.heads o c).1 looked

    -- it is read where it is committed
    there : option_map (read_at d.geometry.bytes d.flash) (committed_pages y o c) ≡ Some xs
    there = ap (option_map (read_at d.geometry.bytes d.flash)) (only.same o c stays) ∙ is

    go : (o' : Option CommittedPage) → committed_pages y o c ≡ o' → part o c ≡ Some xs
    go None none = absurd (let two : None ≡ Some xs = sym (ap (option_map (read_at d.geometry.bytes d.flash)) none) ∙ there in cc)
    go (Some at) some = committed_written d.flash y o c at d.geometry.bytes committed some ∙ sym (ap (option_map (read_at d.geometry.bytes d.flash)) some) ∙ there

  back : (o c : ℕ) (xs : List ℕ) → part o c ≡ Some xs → m o c ≡ Some xs
  back o c xs is = elim (cases_Bool (keeps_key tree o c)) [
    | inl stays ↦ ap (option_map (read_at d.geometry.bytes d.flash)) (sym (only.same o c stays)) ∙ committed_read d.flash xs d.geometry.bytes (committed_pages y o c) is
    | inr goes ↦ absurd (let two : None ≡ Some xs = sym (ap (option_and_then (data_at d.flash)) (only.none o c goes)) ∙ is in cc)
  ]

  pub gone_committed : IsGoneThrough d.geometry (has part) spare tree
  gone_committed = gone_in d.geometry spare m part tree to back gone

  pub covers_committed : (names : NameIndex) → CoversTree names z m tree → CoversTree names z part tree
  covers_committed names = covers_in z m part tree to back names

-- ---- the tables of a device that is trusted as its pages allow

module _ (reported : Bool) (a b : Device) (opened : Opened) (u : Table) (y : Index) (spare : ℕ) (tree : Tree) (names : NameIndex) (reads : OnlyReads a b)
    (still : IsOpenedBy None (trusted_as false b) u y (numbers_of opened.numbers)) (only : KeepsOnly (keeps_key tree) opened.index y)
    (gone : a.honest ≡ true → IsGoneThrough a.geometry (has (candidate_pages opened.index a)) spare tree)
    (covers : a.honest ≡ true → CoversTree names (sizes_of a.geometry spare) (candidate_pages opened.index a) tree)
    (knows : a.honest ≡ true → KnowsItsFirsts a opened) (within : IsWithin b.geometry.pages b.geometry.blocks b.flash) (keys : KeysLaw) (lists : ListsKeys)
    (is_reported : reported ≡ true → IsAsCommitted b.flash b.geometry.blocks y (numbers_of opened.numbers)) where
  abbrev n : Numbers
  n = numbers_of opened.numbers

  was_honest : (b.honest && reported) ≡ true → a.honest ≡ true
  was_honest both = sym reads.lasts.honest ∙ honest_of b.honest reported both

  flash_is : (b.honest && reported) ≡ true → b.flash ≡ a.flash
  flash_is both = same_flash a b reads (was_honest both)

  decided : (b.honest && reported) ≡ true → IsAsCommitted b.flash b.geometry.blocks y n
  decided both = is_reported (trusted_of b.honest reported both)

  above_was : (b.honest && reported) ≡ true → AreAbove a.flash n
  above_was both = subst (λ (f : Flash). AreAbove f n) (flash_is both) (decided both).above

  committed : (b.honest && reported) ≡ true → AreCommitted b.flash (committed_pages y)
  committed both = are_committed lists b.flash b.geometry.blocks y n (λ o c p is. (still.within o c p is).0) (decided both)

  greatest : (b.honest && reported) ≡ true → AreGreatest b.flash n
  greatest both = subst (λ (f : Flash). AreGreatest f n) (sym (flash_is both)) ((knows (was_honest both)).greatest (above_was both))

  tables : IsOpenedBy None (trusted_as reported b) u y n
  tables = opened_as reported b u y n still committed greatest

  -- it was gone through on the device as it is
  gone_here : (b.honest && reported) ≡ true → IsGoneThrough b.geometry (has (candidate_pages opened.index b)) spare tree
  gone_here both =
      subst (λ (k : PageMap). IsGoneThrough b.geometry (has k) spare tree) (sym (pages_after a b opened.index reads (was_honest both)))
      (subst (λ (g : Geometry). IsGoneThrough g (has (candidate_pages opened.index a)) spare tree) (sym reads.lasts.geometry) (gone (was_honest both)))

  covers_here : (b.honest && reported) ≡ true → CoversTree names (sizes_of b.geometry spare) (candidate_pages opened.index b) tree
  covers_here both =
      subst (λ (k : PageMap). CoversTree names (sizes_of b.geometry spare) k tree) (sym (pages_after a b opened.index reads (was_honest both)))
      (subst (λ (g : Geometry). CoversTree names (sizes_of g spare) (candidate_pages opened.index a) tree) (sym reads.lasts.geometry) (covers (was_honest both)))

  same_keys : KeepsOnly (keeps_key tree) y y
  same_keys = record { same = λ o c stays. refl; none = only.none }

  pub found_tree : IsTreeRead (trusted_as reported b) u y n spare tree
  found_tree = tree_read reported None b b u u y y n spare tree names (only_reads_here b) tables tables same_keys
      (λ both. gone_committed b opened.index y tree only (committed both) keys spare (gone_here both))
      (λ both. covers_committed b opened.index y tree only (committed both) keys spare (gone_here both) names (covers_here both)) within keys

  pub found_names : (b.honest && reported) ≡ true → CoversNewest names (trusted_as reported b) spare tree
  found_names = names_read reported None b b u u y y n spare tree names (only_reads_here b) tables tables same_keys
      (λ both. gone_committed b opened.index y tree only (committed both) keys spare (gone_here both))
      (λ both. covers_committed b opened.index y tree only (committed both) keys spare (gone_here both) names (covers_here both)) within keys

  -- what is known of the first pages of blocks
  pub found_firsts : (before after : ℕ → ℕ) → Recounts before after (table opened.blocks) u → KnowsFirstsOf (trusted_as reported b) u n
  found_firsts before after recounts both left =
      let some = some_number (trusted_as reported b) u y n spare tree both found_tree in
      known_after (trusted_as reported a) (trusted_as reported b) before after (table opened.blocks) u n (reads_trusted reported a b reads) recounts
      (λ was left. (knows (honest_of a.honest reported was)).firsts (above_was both) left some) both left

  pub found_blocks : (before after : ℕ → ℕ) → Recounts before after (table opened.blocks) u → KnowsBlocks (trusted_as reported b) u n
  found_blocks before after recounts = record { firsts = found_firsts before after recounts; whole = whole_none (trusted_as reported b) u.checkpoint still.noted }

-- ---- on a true flash it is trusted

pub sure_committed : ListsKeys → KeysLaw → FootLaw → (a b : Device) (opened : Opened) (y : Index) (spare : ℕ) (tree : Tree) → OnlyReads a b → HasTrueFlash a → FindsItsTree a opened
    → IsWithin b.geometry.pages b.geometry.blocks b.flash → KeepsOnly (keeps_key tree) opened.index y → IsGoneThrough a.geometry (has (candidate_pages opened.index a)) spare tree
    → IsAsCommitted b.flash b.geometry.blocks y (numbers_of opened.numbers)
sure_committed lists keys feet a b opened y spare tree reads is lookups within only gone =
    let same : b.flash ≡ a.flash = same_flash a b reads is.0 in
    let here : IsWithin a.geometry.pages a.geometry.blocks a.flash =
    subst (λ (g : Geometry). IsWithin g.pages g.blocks a.flash) reads.lasts.geometry (subst (λ (f : Flash). IsWithin b.geometry.pages b.geometry.blocks f) same within) in
    subst (λ (f : Flash). IsAsCommitted f b.geometry.blocks y (numbers_of opened.numbers)) (sym same)
    (as_committed lists a.flash b.geometry.blocks y (numbers_of opened.numbers) (committed_of_tree a opened lookups keys feet here y spare tree only gone) lookups.numbers.above)

-- ---- what is said of a result

-- a device that is trusted so
pub since_by : (reported : Bool) (a b now seen : Device) → now ≡ b → seen ≡ trusted_as reported b → OnlyReads a b → (a.gone ≡ false → b.gone ≡ false) → (HasTrueFlash a → reported ≡ true) → IsTrustedSince a now seen
since_by reported a b now seen same is reads power trusted =
    subst (λ (d : Device). IsTrustedSince a d seen) (sym same) (record { reported = reported; read = record { reads = reads; power = power; seen_is = is }; trusted = trusted })
