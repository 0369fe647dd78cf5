-- What a fault says of the flash.
use Rattle.std.specs.Prelude.{◌≡◌, ◌⊎◌, ℕ, true, false, ◌&&◌}
use Rattle.std.proofs.Common.{refl, sym, ◌∙◌, ap, subst, inl, inr}
use Rattle.nand_model.specs.Calls.{Device}
use Rattle.nand_model.specs.Changes.{OnlyReads}
use Rattle.nand_model.specs.Flash.{Flash}
use Rattle.nand_model.specs.declared.geometry.Geometry.{Geometry}
use Rattle.flash_tree.specs.Mount.{Wrong, Answers, NotAVolume, IsWrong, IsVolume, IsNoVolume, HasWrongRoot, sizes_of}
use Rattle.flash_tree.specs.laws.Place.{same_flash}
use Rattle.chunk_index.specs.declared.index.Index.{Index}
use Rattle.page_store.specs.Shown.{committed_data}
use Rattle.pages.specs.Maps.{PageMap, has}
use Rattle.tree_walk.specs.Trees.{IsWrongTree}
use Rattle.tree_walk.specs.declared.fault.RootFault.{RootFault}
use Rattle.tree_walk.specs.declared.fault.RootFault.TheVariants as roots
use Rattle.mounting.specs.NewestMaps.{IsNewestMap}
use Rattle.mounting.specs.Faults.{AnswersFault}
use Rattle.tree_walk.specs.declared.tree.Tree.{Tree}
use Rattle.mounting.specs.Mounted.{IsTreeOn}
use Rattle.mounting.specs.TreeAnswers.{HasWrongTree, WhyNoTree}
use Rattle.mounting.specs.Trees.{IsGoneThrough}

-- the laws that are used of a map of the newest pages
pub record MapsAnswer : Type 0 where
  pub no_volume : (g : Geometry) (flash : Flash) (m : PageMap) → IsNewestMap flash m → IsNoVolume (has m) → Answers g flash NotAVolume
  pub root : (g : Geometry) (flash : Flash) (m : PageMap) (wrong : Wrong) → IsNewestMap flash m → HasWrongRoot g (has m) wrong → Answers g flash (IsWrong wrong)
  pub tree : (g : Geometry) (flash : Flash) (m : PageMap) (spare : ℕ) (wrong : Wrong) → IsNewestMap flash m → IsVolume g (has m) spare → IsWrongTree (sizes_of g spare) (has m) wrong → Answers g flash (IsWrong wrong)

wrong_answers : MapsAnswer → (g : Geometry) (flash : Flash) (m : PageMap) (wrong : Wrong) → IsNewestMap flash m → HasWrongTree g (has m) wrong → Answers g flash (IsWrong wrong)
wrong_answers laws g flash m wrong newest (inl at_root) = laws.root g flash m wrong newest at_root
wrong_answers laws g flash m wrong newest (inr below) = laws.tree g flash m below.0 wrong newest below.1 below.2

-- what is reported of the pages, and a device that failed
pub answers_fault : MapsAnswer → (d : Device) (m : PageMap) (fault : RootFault) → IsNewestMap d.flash m → WhyNoTree d.geometry (has m) fault → (fault ≡ roots.Device → d.gone ≡ true) → AnswersFault d fault
answers_fault laws d m roots.NoMemory newest reported gone = tt
answers_fault laws d m roots.Device newest reported gone = gone refl
answers_fault laws d m roots.NotAVolume newest reported gone = laws.no_volume d.geometry d.flash m newest reported
answers_fault laws d m (roots.Newer format) newest reported gone = wrong_answers laws d.geometry d.flash m _ newest reported
answers_fault laws d m roots.Damaged newest reported gone = wrong_answers laws d.geometry d.flash m _ newest reported

newest_after : (a b : Device) (m : PageMap) → OnlyReads a b → a.honest ≡ true → IsNewestMap a.flash m → IsNewestMap b.flash m
newest_after a b m reads honest newest = subst (λ (f : Flash). IsNewestMap f m) (sym (same_flash a b reads honest)) newest

-- what is reported of the pages of a device that was scanned, and is only read
pub fault_answered : MapsAnswer → (d back : Device) (x : Index) (fault : RootFault) → OnlyReads d back → (d.honest ≡ true → IsNewestMap d.flash (committed_data x d.flash))
    → ((d.honest && true) ≡ true → WhyNoTree d.geometry (has (committed_data x d.flash)) fault) → (fault ≡ roots.Device → (back.gone ≡ true) ⊎ ((d.honest && true) ≡ false))
    → back.honest ≡ true → AnswersFault back fault
fault_answered laws d back x fault reads newest reported why honest =
    let was : d.honest ≡ true = sym reads.lasts.honest ∙ honest in
    let both : (d.honest && true) ≡ true = ap (λ h. h && true) was in
    let m : PageMap = committed_data x d.flash in
    answers_fault laws back m fault (newest_after d back m reads was (newest was)) (subst (λ (g : Geometry). WhyNoTree g (has m) fault) (sym reads.lasts.geometry) (reported both))
    (λ device. elim (why device) [
      | inl gone ↦ gone
      | inr lies ↦ let two : true ≡ false = sym both ∙ lies in absurd cc
    ])

-- reads leave the tree of a device
pub tree_after : (a b : Device) (x : Index) (spare : ℕ) (tree : Tree) → OnlyReads a b → IsNewestMap a.flash (committed_data x a.flash) → a.honest ≡ true
    → IsGoneThrough a.geometry (has (committed_data x a.flash)) spare tree → IsTreeOn b spare tree
tree_after a b x spare tree reads newest honest through = record {
  pages = committed_data x a.flash;
  newest = newest_after a b (committed_data x a.flash) reads honest newest;
  through = subst (λ (g : Geometry). IsGoneThrough g (has (committed_data x a.flash)) spare tree) (sym reads.lasts.geometry) through;
}
