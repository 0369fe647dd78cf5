-- What is known of a device's pages.
use Rattle.std.specs.Prelude.{◌≡◌, true, false}
use Rattle.std.proofs.Common.{sym, ◌∙◌, ap, inl, inr}
use Rattle.std.proofs.lemmas.Bool.{cases_Bool}
use Rattle.nand_model.specs.Flash.{Flash}
use Rattle.nand_model.specs.Calls.{Device}
use Rattle.nand_model.specs.Changes.{OnlyReads}
use Rattle.flash_tree.specs.laws.Place.{same_flash}
use Rattle.pages.specs.Maps.{PageMap, known_pages}

-- the pages that are known stay where the device is only read
pub known_same : (a b : Device) (m : Flash → PageMap) → OnlyReads a b → known_pages b.honest (m b.flash) ≡ known_pages a.honest (m a.flash)
known_same a b m reads = elim (cases_Bool a.honest) [
  | inr lies ↦
      let then : b.honest ≡ false = reads.lasts.honest ∙ lies in
      ap (λ h. known_pages h (m b.flash)) then ∙ sym (ap (λ h. known_pages h (m a.flash)) lies)
  | inl honest ↦
      let then : b.honest ≡ true = reads.lasts.honest ∙ honest in
      ap (λ h. known_pages h (m b.flash)) then ∙ ap m (same_flash a b reads honest) ∙ sym (ap (λ h. known_pages h (m a.flash)) honest)
]
