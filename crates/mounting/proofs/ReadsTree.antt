-- How many pages were read to see the tree of a device whose flash is sound.
use Rattle.std.specs.Prelude.{◌≡◌, ◌≤◌, ◌+◌, ◌*◌, ℕ, Bool, true, Result, Ok, Err, IfOk}
use Rattle.std.proofs.Common.{sym, ◌∙◌, ap, subst, arith}
use Rattle.std.proofs.lemmas.Bool.{and_from}
use Rattle.nand_model.specs.Flash.{Flash}
use Rattle.nand_model.specs.Calls.{Device}
use Rattle.nand_model.specs.Changes.{OnlyReads}
use Rattle.nand_model.specs.declared.geometry.Geometry.{Geometry}
use Rattle.posix_profile.specs.State.{Objects}
use Rattle.flash_tree.specs.Mount.{Answer, Answers, IsWrong, IsDamaged, IsTreeOf, IsVolume, sizes_of}
use Rattle.flash_tree.specs.Sound.{IsSoundFlash}
use Rattle.flash_tree.specs.Tree.{Shows}
use Rattle.flash_tree.specs.laws.Place.{same_flash}
use Rattle.page_store.specs.Checked.{HasTrueFlash}
use Rattle.mount_scan.specs.FoundCheckpoint.{IsWholeOn, ReadsFew}
use Rattle.flash_tree.specs.Checkpoints.{Checkpoint}
use Rattle.mount_scan.specs.FewReads.{AreCosts, AreSizes, ReadsByNeed, sum_below}
use Rattle.mount_scan.specs.Scanned.{good_pages}
use Rattle.pages.specs.Maps.{PageMap, has}
use Rattle.tree_walk.specs.Looked.{looked_pages}
use Rattle.tree_walk.specs.Trees.{IsTreeThrough, tree_pages}
use Rattle.tree_walk.specs.declared.fault.RootFault.{RootFault}
use Rattle.tree_walk.specs.declared.tree.Tree.{Tree}
use Rattle.volume_terms.specs.Sizes.{Sizes, IsSizes}
use Rattle.chunk_index.specs.declared.index.Index.{Index}
use Rattle.mounting.specs.Mounted.{IsTreeShown}
use Rattle.mounting.specs.Named.{IsReadAs, IsTrustedSince}
use Rattle.mounting.specs.Reads.{ArePriced, EndsMount, ReadsAll, ReadsAllTags, ReadsByCheckpoint, ReadsBySummaries, ReadsNeeded, ReadsScanned, ReadsThrough, ReadsTree, ReadsWithoutCheckpoint, all_pages, needed_pages}
use Rattle.mounting.proofs.Noting.{true_after}

-- the laws that are used
pub record ReadLaws : Type 0 where
  pub sizes : (g : Geometry) (m : PageMap) (spare : ℕ) → IsVolume g (has m) spare → IsSizes (sizes_of g spare)
  pub pages : (z : Sizes) (m : PageMap) (tree : Tree) (objects : Objects) → IsSizes z → IsTreeThrough z (has m) tree → Shows z (has m) objects → tree_pages z tree ≡ looked_pages z objects
  pub one : (g : Geometry) (flash : Flash) (a b : Answer) → Answers g flash a → Answers g flash b → a ≡ b

-- a device with the same flash
module _ (a seen : Device) (geometry : seen.geometry ≡ a.geometry) (flash : seen.flash ≡ a.flash) where
  answers_before : (answer : Answer) → Answers seen.geometry seen.flash answer → Answers a.geometry a.flash answer
  answers_before answer reported = subst (λ (g : Geometry). Answers g a.flash answer) geometry (subst (λ (f : Flash). Answers seen.geometry f answer) flash reported)

  -- the pages of a tree that was gone through are those that are looked up to see the flash's
  pub looked_as : ReadLaws → (x : Index) (spare : ℕ) (tree : Tree) (objects : Objects) → Answers seen.geometry seen.flash (IsTreeOf spare objects) → IsTreeShown seen x spare tree objects
      → (s : ℕ) (other : Objects) → IsSoundFlash a.geometry a.flash s other → tree_pages (sizes_of a.geometry spare) tree ≡ looked_pages (sizes_of a.geometry s) other
  looked_as laws x spare tree objects answers shown s other sound =
      let on = shown.on in
      let z : Sizes = sizes_of seen.geometry spare in
      let pages : tree_pages z tree ≡ looked_pages z objects = laws.pages z on.pages tree objects (laws.sizes seen.geometry on.pages spare on.through.volume) on.through.tree_is shown.shows in
      let here : tree_pages (sizes_of a.geometry spare) tree ≡ looked_pages (sizes_of a.geometry spare) objects =
      subst (λ (g : Geometry). tree_pages (sizes_of g spare) tree ≡ looked_pages (sizes_of g spare) objects) geometry pages in
      let same : IsTreeOf spare objects ≡ IsTreeOf s other = laws.one a.geometry a.flash _ _ (answers_before (IsTreeOf spare objects) answers) (sound.volume, sound.shows, sound.room) in
      let spares : spare ≡ s = cc in
      let trees : objects ≡ other = cc in
      here ∙ ap (λ n. looked_pages (sizes_of a.geometry n) objects) spares ∙ ap (λ (o : Objects). looked_pages (sizes_of a.geometry s) o) trees

-- a device that was read since, and is trusted as its flash was true
module _ (a b seen : Device) (since : IsTrustedSince a b seen) (is : HasTrueFlash a) where
  geometry : seen.geometry ≡ a.geometry
  geometry = ap (λ (d : Device). d.geometry) since.read.seen_is ∙ since.read.reads.lasts.geometry

  flash : seen.flash ≡ a.flash
  flash = ap (λ (d : Device). d.flash) since.read.seen_is ∙ same_flash a b since.read.reads is.0

  pub honest_seen : seen.honest ≡ true
  honest_seen = ap (λ (d : Device). d.honest) since.read.seen_is ∙ and_from _ _ (since.read.reads.lasts.honest ∙ is.0) (since.trusted is)

  -- where its flash is sound it is not damaged
  pub not_damaged : ReadLaws → (spare : ℕ) (objects : Objects) → IsSoundFlash a.geometry a.flash spare objects → Answers seen.geometry seen.flash (IsWrong IsDamaged) → ⊥
  not_damaged laws spare objects sound reported =
      let two : IsTreeOf spare objects ≡ IsWrong IsDamaged = laws.one a.geometry a.flash _ _ (sound.volume, sound.shows, sound.room) (answers_before a seen geometry flash (IsWrong IsDamaged) reported) in
      cc

  -- at most the pages that are looked up to see its tree were read
  pub reads_tree : ReadLaws → (x : Index) (spare : ℕ) (tree : Tree) (objects : Objects) → ReadsThrough a b spare tree → Answers seen.geometry seen.flash (IsTreeOf spare objects)
      → IsTreeShown seen x spare tree objects → ReadsTree a b
  reads_tree laws x spare tree objects within_limit answers shown s other sound = let looked = looked_as a seen geometry flash laws x spare tree objects answers shown s other sound in omega (arith, within_limit, looked)

-- the same of a device that was scanned
pub reads_all : (a b : Device) → OnlyReads a b → a.honest ≡ true → ReadLaws → (x : Index) (spare : ℕ) (tree : Tree) (objects : Objects) → ReadsScanned a b spare tree → Answers b.geometry b.flash (IsTreeOf spare objects)
    → IsTreeShown b x spare tree objects → ReadsAll a b
reads_all a b reads honest laws x spare tree objects within_limit answers shown s other sound =
    let looked = looked_as a b reads.lasts.geometry (same_flash a b reads honest) laws x spare tree objects answers shown s other sound in
    omega (arith, within_limit, looked)

-- a flash that is only read stays sound
sound_after : (a b : Device) (spare : ℕ) (objects : Objects) → OnlyReads a b → a.honest ≡ true → IsSoundFlash a.geometry a.flash spare objects → IsSoundFlash b.geometry b.flash spare objects
sound_after a b spare objects reads honest sound =
    subst (λ (g : Geometry). IsSoundFlash g b.flash spare objects) (sym reads.lasts.geometry) (subst (λ (f : Flash). IsSoundFlash a.geometry f spare objects) (sym (same_flash a b reads honest)) sound)

-- after the search for the checkpoint
pub reads_by : (a b new : Device) → OnlyReads a b → ReadsFew a b → (HasTrueFlash b → ReadsTree b new) → ReadsByCheckpoint a new
reads_by a b new reads within_limit tree is c whole spare objects sound =
    let here = sound_after a b spare objects reads is.0 sound in
    let first = within_limit is.0 is.1.truth c whole in
    let then = tree (true_after a b reads is) spare objects here in
    let same : looked_pages (sizes_of b.geometry spare) objects ≡ looked_pages (sizes_of a.geometry spare) objects = ap (λ (g : Geometry). looked_pages (sizes_of g spare) objects) reads.lasts.geometry in
    omega (arith, first, then, same)

-- where a scan would follow, no checkpoint was whole
pub reads_none : (a b e new : Device) (fault : RootFault) → OnlyReads a b
    → (HasTrueFlash b → (spare : ℕ) (tree : Objects) → IsSoundFlash b.geometry b.flash spare tree → EndsMount e fault) → (EndsMount e fault → ⊥) → ReadsByCheckpoint a new
reads_none a b e new fault reads ends not is c whole spare objects sound = absurd (not (ends (true_after a b reads is) spare objects (sound_after a b spare objects reads is.0 sound)))

-- a device that is trusted is read as it is
pub reads_seen : (a b seen : Device) → IsTrustedSince a b seen → ReadsByCheckpoint a b → ReadsByCheckpoint a seen
reads_seen a b seen since within_limit is c whole spare objects sound =
    let same : seen.reads ≡ b.reads = ap (λ (d : Device). d.reads) since.read.seen_is in
    let less = within_limit is c whole spare objects sound in
    omega (arith, less, same)

-- what is said of a result that cannot be
pub ok_unless : {T E : Type 0} {P : T → Type 0} (r : Result T E) (A : Type 0) → (A → IfOk r (λ x. ⊥)) → ((x : T) → (A → ⊥) → P x) → IfOk r P
ok_unless (Ok x) A never by = by x never
ok_unless (Err e) A never by = tt

-- ---- by a scan

-- as many pages are in the good blocks
same_pages : (a b : Device) → OnlyReads a b → a.honest ≡ true → all_pages b ≡ all_pages a
same_pages a b reads honest =
    ap (λ (f : Flash). good_pages f b.geometry.pages b.geometry.blocks) (same_flash a b reads honest) ∙ ap (λ (g : Geometry). good_pages a.flash g.pages g.blocks) reads.lasts.geometry

-- first all pages are read, and then the tree
pub reads_scanned : (a b c : Device) (spare : ℕ) (tree : Tree) → OnlyReads a b → b.reads ≤ a.reads + all_pages a → ReadsThrough b c spare tree → ReadsScanned a c spare tree
reads_scanned a b c spare tree reads first then =
    let same : tree_pages (sizes_of b.geometry spare) tree ≡ tree_pages (sizes_of a.geometry spare) tree = ap (λ (g : Geometry). tree_pages (sizes_of g spare) tree) reads.lasts.geometry in
    omega (arith, first, then, same)

-- after the search, whatever it found
pub tags_after : (a b new : Device) → OnlyReads a b → b.reads ≤ a.reads + (a.geometry.blocks + a.geometry.pages) → (b.honest ≡ true → ReadsAll b new) → ReadsAllTags a new
tags_after a b new reads first all honest spare objects sound =
    let then = all (reads.lasts.honest ∙ honest) spare objects (sound_after a b spare objects reads honest sound) in
    let pages = same_pages a b reads honest in
    let looked : looked_pages (sizes_of b.geometry spare) objects ≡ looked_pages (sizes_of a.geometry spare) objects = ap (λ (g : Geometry). looked_pages (sizes_of g spare) objects) reads.lasts.geometry in
    omega (arith, first, then, pages, looked)

-- a device that is trusted is read as it is
pub tags_seen : (a b seen : Device) → IsReadAs true a b seen → ReadsAllTags a b → ReadsAllTags a seen
tags_seen a b seen read within_limit honest spare objects sound =
    let same : seen.reads ≡ b.reads = ap (λ (d : Device). d.reads) read.seen_is in
    let less = within_limit honest spare objects sound in
    omega (arith, less, same)

-- ---- by summaries

-- as many are needed
needed_same : (a b : Device) (sizes costs : ℕ → ℕ) → OnlyReads a b → needed_pages b sizes costs ≡ needed_pages a sizes costs
needed_same a b sizes costs reads = ap (λ (g : Geometry). sum_below sizes g.blocks + (g.pages + sum_below costs g.blocks)) reads.lasts.geometry

priced_after : (a b : Device) (sizes costs : ℕ → ℕ) → OnlyReads a b → a.honest ≡ true → ArePriced a sizes costs → ArePriced b sizes costs
priced_after a b sizes costs reads honest (are, cost) =
    let flash : a.flash ≡ b.flash = sym (same_flash a b reads honest) in (
      subst (λ (f : Flash). AreSizes f sizes) flash are,
      subst (λ (g : Geometry). AreCosts g b.flash costs) (sym reads.lasts.geometry) (subst (λ (f : Flash). AreCosts a.geometry f costs) flash cost),
    )

-- first what a scan by summaries needs is read, and then the tree
pub reads_needed : (a b c : Device) (spare : ℕ) (tree : Tree) → OnlyReads a b → a.honest ≡ true → ReadsByNeed a b → ReadsThrough b c spare tree → ReadsNeeded a c spare tree
reads_needed a b c spare tree reads honest need then sizes costs (are, cost) =
    let first = need honest sizes costs are cost in
    let same : tree_pages (sizes_of b.geometry spare) tree ≡ tree_pages (sizes_of a.geometry spare) tree = ap (λ (g : Geometry). tree_pages (sizes_of g spare) tree) reads.lasts.geometry in
    omega (arith, first, then, same)

-- of a flash that is sound
pub reads_summaries : (a b seen : Device) → (since : IsTrustedSince a b seen) → (is : HasTrueFlash a) → ReadLaws → (x : Index) (spare : ℕ) (tree : Tree) (objects : Objects) → ReadsNeeded a b spare tree
    → Answers seen.geometry seen.flash (IsTreeOf spare objects) → IsTreeShown seen x spare tree objects → ReadsBySummaries a b
reads_summaries a b seen since is laws x spare tree objects within_limit answers shown s other sound sizes costs are =
    let looked = looked_as a seen (geometry a b seen since is) (flash a b seen since is) laws x spare tree objects answers shown s other sound in
    let read = within_limit sizes costs are in
    omega (arith, read, looked)

-- where a scan would follow, the flash was not sound
pub summaries_not : (a e new : Device) (fault : RootFault) → ((spare : ℕ) (tree : Objects) → IsSoundFlash a.geometry a.flash spare tree → EndsMount e fault) → (EndsMount e fault → ⊥) → ReadsBySummaries a new
summaries_not a e new fault ends not spare objects sound sizes costs are = absurd (not (ends spare objects sound))

-- after the search, which found no checkpoint
pub without_after : (a b new : Device) → OnlyReads a b → b.reads ≤ a.reads + (a.geometry.blocks + a.geometry.pages) → (HasTrueFlash b → ReadsBySummaries b new) → ReadsWithoutCheckpoint a new
without_after a b new reads first within_limit is none spare objects sound sizes costs are =
    let then = within_limit (true_after a b reads is) spare objects (sound_after a b spare objects reads is.0 sound) sizes costs (priced_after a b sizes costs reads is.0 are) in
    let need = needed_same a b sizes costs reads in
    let looked : looked_pages (sizes_of b.geometry spare) objects ≡ looked_pages (sizes_of a.geometry spare) objects = ap (λ (g : Geometry). looked_pages (sizes_of g spare) objects) reads.lasts.geometry in
    omega (arith, first, then, need, looked)

-- where a checkpoint was found there is one
pub without_not : (a new : Device) (c : Checkpoint) → IsWholeOn a c → ReadsWithoutCheckpoint a new
without_not a new c whole is none = absurd (none c (whole is.0))

-- a device that is trusted is read as it is
pub without_seen : (a b seen : Device) → IsTrustedSince a b seen → ReadsWithoutCheckpoint a b → ReadsWithoutCheckpoint a seen
without_seen a b seen since within_limit is none spare objects sound sizes costs are =
    let same : seen.reads ≡ b.reads = ap (λ (d : Device). d.reads) since.read.seen_is in
    let less = within_limit is none spare objects sound sizes costs are in
    omega (arith, less, same)

-- what is said of each result
pub ok_each : {T E : Type 0} {P : T → Type 0} (r : Result T E) → ((x : T) → P x) → IfOk r P
ok_each (Ok x) by = by x
ok_each (Err e) by = tt

-- and of each of which more is said
pub ok_all : {T E : Type 0} {P Q : T → Type 0} (r : Result T E) (A : Type 0) → (A → IfOk r P) → ((x : T) → (A → P x) → Q x) → IfOk r Q
ok_all (Ok x) A reported by = by x reported
ok_all (Err e) A reported by = tt
