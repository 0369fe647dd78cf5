-- From the pages that an index keeps to the flash.
use Rattle.std.specs.Prelude.{◌≡◌, ℕ, IfOk, Result, Ok, Err, Bool, true, false, ◌||◌, not, [], ◌∷◌}
use Rattle.std.proofs.Common.{refl, sym, subst, inl, inr}
use Rattle.nand_model.specs.Flash.{Flash, IsWithin, IsSized}
use Rattle.nand_model.specs.Calls.{Device}
use Rattle.nand_model.specs.Changes.{OnlyReads}
use Rattle.nand_model.specs.declared.geometry.Geometry.{Geometry}
use Rattle.volume_terms.specs.Sizes.{root_number}
use Rattle.posix_profile.specs.State.{Objects}
use Rattle.flash_tree.specs.Newest.{HasNewest}
use Rattle.flash_tree.specs.Tree.{Shows}
use Rattle.flash_tree.specs.Mount.{Wrong, IsNewer, IsDamaged, Wholly, GoesThrough, sizes_of, IsVolume, IsNoVolume, HasWrongRoot, NamesTwice, NotAVolume, IsWrong, Answers}
use Rattle.flash_tree.specs.laws.Place.{same_flash}
use Rattle.std.specs.Prelude.{List}
use Rattle.chunk_index.specs.declared.index.Index.{Index}
use Rattle.page_store.specs.Shown.{committed_data}
use Rattle.pages.specs.Maps.{PageMap, has}
use Rattle.tree_walk.specs.Trees.{IsWrongTree, objects_listed}
use Rattle.mounting.specs.NewestMaps.{IsNewestMap}
use Rattle.mounting.specs.TreeAnswers.{HasWrongTree}
use Rattle.volume_check.specs.Verdicts.{ReportsVerdict, SaysOfFlash}
use Rattle.volume_check.specs.declared.finding.Diagnosis.{Diagnosis}
use Rattle.volume_check.specs.declared.verdict.Verdict.{Verdict}
use Rattle.volume_check.specs.declared.verdict.Verdict.TheVariants as verdicts

-- what follows for a flash from a map of its newest pages
pub record MapsAnswer : Type 0 where
  pub no_volume : (g : Geometry) (flash : Flash) (m : PageMap) → IsNewestMap flash m → IsNoVolume (has m) → Answers g flash NotAVolume
  pub root : (g : Geometry) (flash : Flash) (m : PageMap) (wrong : Wrong) → IsNewestMap flash m → HasWrongRoot g (has m) wrong → Answers g flash (IsWrong wrong)
  pub tree : (g : Geometry) (flash : Flash) (m : PageMap) (spare : ℕ) (wrong : Wrong) → IsNewestMap flash m → IsVolume g (has m) spare
      → IsWrongTree (sizes_of g spare) (has m) wrong → Answers g flash (IsWrong wrong)
  pub volume : (g : Geometry) (flash : Flash) (m : PageMap) (spare : ℕ) → IsNewestMap flash m → IsVolume g (has m) spare → IsVolume g (HasNewest flash) spare
  pub whole : (g : Geometry) (flash : Flash) (m : PageMap) (spare : ℕ) (list : List ℕ) → IsWithin g.pages g.blocks flash → IsSized g.bytes flash
      → IsNewestMap flash m → IsVolume g (has m) spare → GoesThrough (sizes_of g spare) (has m) (root_number ∷ []) 0 (Wholly list)
      → (NamesTwice (sizes_of g spare) (has m) list → ⊥)
      → (objects : Objects) × Shows (sizes_of g spare) (has m) objects × Shows (sizes_of g spare) (HasNewest flash) objects

module _ (laws : MapsAnswer) (g : Geometry) (flash : Flash) (m : PageMap) (newest : IsNewestMap flash m) where
  wrong_tree : (wrong : Wrong) → HasWrongTree g (has m) wrong → Answers g flash (IsWrong wrong)
  wrong_tree wrong (inl root) = laws.root g flash m wrong newest root
  wrong_tree wrong (inr (spare, volume, tree)) = laws.tree g flash m spare wrong newest volume tree

  -- what a verdict says of the pages it says of the flash
  pub says : (v : Verdict) → IsWithin g.pages g.blocks flash → IsSized g.bytes flash → ReportsVerdict g (has m) v → SaysOfFlash g flash v
  says verdicts.Whole within sized reported =
      let is = laws.whole g flash m reported.spare (objects_listed reported.tree) within sized newest reported.volume reported.through.through reported.through.once in
      record { spare = reported.spare; volume = laws.volume g flash m reported.spare newest reported.volume; objects = is.0; shows = is.2 }
  says verdicts.NotAVolume within sized reported = laws.no_volume g flash m newest reported
  says (verdicts.Newer format) within sized reported = wrong_tree (IsNewer format) reported
  says verdicts.Damaged within sized reported = wrong_tree IsDamaged reported

-- an index of the newest pages after some reads is one of those before them
pub newest_map : (a b d : Device) (x y : Index) → OnlyReads a b → a.honest ≡ true → d ≡ b → y ≡ x → IsNewestMap b.flash (committed_data x b.flash) → IsNewestMap a.flash (committed_data y d.flash)
newest_map a b d x y reads honest same index newest =
    subst (λ (z : Index). IsNewestMap a.flash (committed_data z d.flash)) (sym index) (subst (λ (e : Device). IsNewestMap a.flash (committed_data x e.flash)) (sym same)
    (subst (λ (f : Flash). IsNewestMap f (committed_data x b.flash)) (same_flash a b reads honest) newest))

-- and it is one of the flash before them
pub newest_map_here : (a b : Device) (x y : Index) → OnlyReads a b → a.honest ≡ true → y ≡ x → IsNewestMap b.flash (committed_data x b.flash) → IsNewestMap a.flash (committed_data y a.flash)
newest_map_here a b x y reads honest index newest =
    subst (λ (z : Index). IsNewestMap a.flash (committed_data z a.flash)) (sym index) (subst (λ (f : Flash). IsNewestMap f (committed_data x f)) (same_flash a b reads honest) newest)

-- a verdict that is given says it
pub verdict_says : {E : Type 0} (g : Geometry) (flash : Flash) (v : Verdict) → SaysOfFlash g flash v → (result : Result Diagnosis E) → IfOk result (λ d. d.verdict ≡ v)
    → IfOk result (λ d. SaysOfFlash g flash d.verdict)
verdict_says g flash v reported (Err e) is = tt
verdict_says g flash v reported (Ok d) is = subst (SaysOfFlash g flash) (sym is) reported
