-- From what is found of the pages that an index keeps to the flash.
use Rattle.std.specs.Prelude.{◌≡◌, ◌<◌, ◌^◌, ℕ, Option, Some, None, IfSome, IfOk, Result, Ok, Err}
use Rattle.std.proofs.Common.{refl, sym, ◌∙◌, ap, subst, inl, inr}
use Rattle.std.specs.Option.{option_and_then}
use Rattle.nand_model.specs.Flash.{Flash}
use Rattle.nand_model.specs.declared.geometry.Geometry.{Geometry}
use Rattle.flash_tree.specs.Newest.{HasNewest}
use Rattle.flash_tree.specs.Mount.{sizes_of, IsVolume}
use Rattle.flash_tree.specs.declared.place.Key.{Key}
use Rattle.chunk_index.specs.declared.form.CommittedPage.{CommittedPage}
use Rattle.chunk_index.specs.declared.index.Index.{Index}
use Rattle.chunk_index.specs.Maps.{committed_pages}
use Rattle.flash_log.specs.Consistency.{AreCommitted}
use Rattle.page_store.specs.Shown.{data_at, committed_data}
use Rattle.pages.specs.Maps.{PageMap, has}
use Rattle.mounting.specs.NewestMaps.{IsNewestMap}
use Rattle.tree_walk.specs.Broken.{Breaks, IsFirstBroken, header_of}
use Rattle.tree_walk.specs.declared.broken.Broken.{Broken}
use Rattle.tree_walk.specs.declared.broken.Rule.{Rule}
use Rattle.volume_terms.specs.Sizes.{root_number}
use Rattle.volume_check.specs.Found.{FindsFault, IsFoundFirst, LiesAt, LiesWhereLow, broken_in}
use Rattle.volume_check.specs.Verdicts.{verdict_of}
use Rattle.volume_check.specs.declared.finding.Diagnosis.{Diagnosis}
use Rattle.volume_check.specs.declared.finding.Finding.{Finding}

-- what follows for a flash from a map of its newest pages that breaks a rule
pub record MapsBreak : Type 0 where
  pub breaks : (g : Geometry) (flash : Flash) (m : PageMap) (spare : ℕ) (key : Key) (rule : Rule) → IsNewestMap flash m
      → Breaks (sizes_of g spare) (has m) key rule → Breaks (sizes_of g spare) (HasNewest flash) key rule
  pub low : (g : Geometry) (m : PageMap) (spare : ℕ) (key : Key) (rule : Rule) → Breaks (sizes_of g spare) (has m) key rule → key.chunk < 2 ^ 32
  pub first : (g : Geometry) (flash : Flash) (m : PageMap) (spare : ℕ) (broken : Broken) → IsNewestMap flash m
      → IsFirstBroken (sizes_of g spare) (has m) broken → IsFirstBroken (sizes_of g spare) (HasNewest flash) broken
  pub volume : (g : Geometry) (flash : Flash) (m : PageMap) (spare : ℕ) → IsNewestMap flash m → IsVolume g (has m) spare → IsVolume g (HasNewest flash) spare

module _ (laws : MapsBreak) (g : Geometry) (flash : Flash) (m : PageMap) (newest : IsNewestMap flash m) where
  first_one : (b : Broken) → IsFoundFirst g (has m) b → IsFoundFirst g (HasNewest flash) b
  first_one b (inl (key, (of, breaks))) = inl (key, (of, laws.breaks g flash m 0 (header_of root_number) b.rule newest breaks))
  first_one b (inr (spare, volume, first)) = inr (spare, laws.volume g flash m spare newest volume, laws.first g flash m spare b newest first)

  pub first : (found : Option Broken) → IfSome found (IsFoundFirst g (has m)) → IfSome found (IsFoundFirst g (HasNewest flash))
  first None is = tt
  first (Some b) is = first_one b is

  pub low : (b : Broken) → IsFoundFirst g (has m) b → b.key.chunk < 2 ^ 32
  low b (inl (key, (of, breaks))) = subst (λ (k : Key). k.chunk < 2 ^ 32) (sym key) (laws.low g m 0 (header_of root_number) b.rule breaks)
  low b (inr (spare, volume, (breaks, met))) = laws.low g m spare b.key b.rule breaks

-- a page that is committed is the newest of its key, and where none is committed there is none
pub lies : (flash : Flash) (x : Index) → AreCommitted flash (committed_pages x) → (key : Key) → (p : CommittedPage)
    → committed_pages x key.object key.chunk ≡ Some p → LiesAt flash key (Some (record { block = p.block; page = p.page }))
lies flash x committed key p is = let at = committed key.object key.chunk p is in (at.tag, at.newest)

pub lies_nowhere : (flash : Flash) (x : Index) → IsNewestMap flash (committed_data x flash) → (key : Key) → key.chunk < 2 ^ 32
    → committed_pages x key.object key.chunk ≡ None → LiesAt flash key None
lies_nowhere flash x newest key low is page has_newest =
    let there = (newest key.object key.chunk page).1 (has_newest, low) in
    let two : None ≡ Some page = sym (ap (option_and_then (data_at flash)) is) ∙ there in
    cc

-- what a check found, of the flash
pub finds_fault : (laws : MapsBreak) (g : Geometry) (flash : Flash) (m : PageMap) → IsNewestMap flash m
    → (found : Option Finding) → IfSome (broken_in found) (IsFoundFirst g (has m)) → (d : Diagnosis) → d.verdict ≡ verdict_of (broken_in found) → d.finding ≡ found
    → IfSome (broken_in found) (LiesWhereLow flash d.place) → FindsFault g flash d
finds_fault laws g flash m newest found is d verdict finding place = record {
  verdict = verdict ∙ ap (λ (f : Option Finding). verdict_of (broken_in f)) (sym finding);
  first = subst (λ (f : Option Finding). IfSome (broken_in f) (IsFoundFirst g (HasNewest flash))) (sym finding) (first laws g flash m newest (broken_in found) is);
  place = subst (λ (f : Option Finding). IfSome (broken_in f) (λ b. LiesAt flash b.key d.place)) (sym finding) (at (broken_in found) is place);
} where
  at : (b : Option Broken) → IfSome b (IsFoundFirst g (has m)) → IfSome b (LiesWhereLow flash d.place) → IfSome b (λ b. LiesAt flash b.key d.place)
  at None is place = tt
  at (Some b) is place = place (low laws g flash m newest b is)

-- and where no fault committed it from being reported
pub diagnosis_finds : {E : Type 0} (laws : MapsBreak) (g : Geometry) (flash : Flash) (m : PageMap) → IsNewestMap flash m
    → (found : Option Finding) → IfSome (broken_in found) (IsFoundFirst g (has m)) → (result : Result Diagnosis E) → IfOk result (λ d. d.verdict ≡ verdict_of (broken_in found))
    → IfOk result (λ d. d.finding ≡ found) → IfOk result (λ d. IfSome (broken_in found) (LiesWhereLow flash d.place)) → IfOk result (FindsFault g flash)
diagnosis_finds laws g flash m newest found is (Err e) verdict finding place = tt
diagnosis_finds laws g flash m newest found is (Ok d) verdict finding place = finds_fault laws g flash m newest found is d verdict finding place
