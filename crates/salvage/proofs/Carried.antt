-- What is known of the pages that were found is known of the pages that a salvage goes by.
use Rattle.std.specs.Prelude.{◌≡◌, Bool, true, false, List}
use Rattle.std.proofs.Common.{sym, subst, inl, inr, ◌∙◌}
use Rattle.nand_model.specs.Calls.{Device}
use Rattle.nand_model.specs.Changes.{OnlyReads}
use Rattle.nand_model.specs.Flash.{Flash}
use Rattle.flash_tree.specs.laws.Place.{same_flash}
use Rattle.chunk_index.specs.declared.index.Index.{Index}
use Rattle.page_store.specs.Shown.{committed_data}
use Rattle.pages.specs.Maps.{PageMap, known_pages}
use Rattle.nand_model.specs.declared.geometry.Geometry.{Geometry}
use Rattle.mounting.specs.NewestMaps.{IsNewestMap}
use Rattle.surviving_pages.specs.declared.survivors.LostPlace.{LostPlace}
use Rattle.volume_check.specs.Verdicts.{ShowsVolume}
use Rattle.salvage.specs.Opened.{GoesBy, GoesBySurvivors}

-- over reads of an honest device, from the flash at the end and the pages of an index to the flash at the beginning and known pages
pub carried : (P : Flash → PageMap → Type 0) (a d e : Device) (x y : Index) → OnlyReads a d → a.honest ≡ true → e ≡ d → y ≡ x
    → P d.flash (committed_data x d.flash) → P a.flash (known_pages e.honest (committed_data y e.flash))
carried P a d e x y reads honest device index has =
    let before : P a.flash (committed_data x d.flash) = subst (λ (f : Flash). P f (committed_data x d.flash)) (same_flash a d reads honest) has in
    let still : d.honest ≡ true = reads.lasts.honest ∙ honest in
    let known : P a.flash (known_pages d.honest (committed_data x d.flash)) = subst (λ (h : Bool). P a.flash (known_pages h (committed_data x d.flash))) (sym still) before in
    let there : P a.flash (known_pages e.honest (committed_data x e.flash)) = subst (λ (k : Device). P a.flash (known_pages k.honest (committed_data x k.flash))) (sym device) known in
    subst (λ (i : Index). P a.flash (known_pages e.honest (committed_data i e.flash))) (sym index) there

-- by whether a whole tree was found: the newest pages of a flash that shows a volume, or the pages that survive
pub goes_by : (g : Geometry) (f : Flash) (m : PageMap) (lost : List LostPlace) (whole : Bool) → (whole ≡ true → ShowsVolume g f)
    → (whole ≡ true → IsNewestMap f m) → (whole ≡ false → GoesBySurvivors f m lost) → GoesBy g f m lost
goes_by g f m lost true shows newest survive = inl (shows cc, newest cc)
goes_by g f m lost false shows newest survive = inr (survive cc)
