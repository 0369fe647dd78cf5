-- Pages added to those of the blocks before.
use Rattle.std.specs.Prelude.{◌≡◌, ◌<◌, ℕ, ◌+◌, ◌*◌, true, false, List, [], ◌∷◌, ◌++◌, Some, length, slice_get}
use Rattle.std.proofs.Common.{refl, sym, ◌∙◌, ap, subst, inl, inr, arith}
use Rattle.std.proofs.lemmas.Bool.{cases_eq}
use Rattle.std.proofs.lemmas.List.Elements.{All-contains}
use Rattle.std.proofs.lemmas.Nat.{mul-add-lt}
use Rattle.nand_model.specs.declared.geometry.Geometry.{Geometry}
use Rattle.std.proofs.lemmas.List.{get_or_append_left, length-append}
use Rattle.std.proofs.lemmas.Option.{slice_get_within, slice_get-get_or}
use Rattle.nand_model.specs.Flash.{Flash}
use Rattle.nand_model.specs.Calls.{Device}
use Rattle.nand_model.specs.Changes.{OnlyReads}
use Rattle.nand_model.specs.laws.Changes.{only_reads_on, only_reads_here}
use Rattle.flash_tree.specs.laws.Place.{same_flash}
use Rattle.flash_tree.specs.declared.place.Found.{Found}
use Rattle.mount_scan.specs.Scanned.{ArePlaced}
use Rattle.chip_map.specs.declared.page_state.SurveyedPage.{SurveyedPage}
use Rattle.chip_map.specs.Valid.{IsNoted, AreNoted, AreWithin}
use Rattle.chip_map.proofs.Noted.{one_index, in_list}

-- only reads, and the power did not go
pub record HasPower (old new : Device) : Type 0 where
  pub only : OnlyReads old new
  pub power : old.gone ≡ false → new.gone ≡ false

pub power_on : (a b c : Device) → HasPower a b → OnlyReads b c → (b.gone ≡ false → c.gone ≡ false) → HasPower a c
power_on a b c first only power = record { only = only_reads_on a b c first.only only; power = λ is. power (first.power is) }

-- the page after a list's end
at_end : {A : Type 0} (xs : List A) (x : A) → slice_get (xs ++ x ∷ []) (length xs) ≡ Some x
at_end [] x = refl
at_end (y ∷ xs) x = at_end xs x

before_end : {A : Type 0} (xs : List A) (x : A) (k : ℕ) → k < length xs → slice_get (xs ++ x ∷ []) k ≡ slice_get xs k
before_end xs x k lt =
    slice_get-get_or (xs ++ x ∷ []) k x (omega (arith, length-append xs (x ∷ []), lt)) ∙ ap (λ y. Some y) (get_or_append_left xs (x ∷ []) x k lt) ∙ sym (slice_get-get_or xs k x lt)

-- one page more
noted_push : (flash : Flash) (pages b p : ℕ) (list : List SurveyedPage) (page : SurveyedPage) → p < pages → length list ≡ b * pages + p → IsNoted flash b p page → AreNoted flash pages list
    → AreNoted flash pages (list ++ page ∷ [])
noted_push flash pages b p list page lt end is each c q other less at = elim (cases_eq (c * pages + q) (b * pages + p)) [
  | inl same ↦
      let one = one_index c b q p pages less lt same in
      let two : Some page ≡ Some other = sym (at_end list page) ∙ ap (slice_get (list ++ page ∷ [])) (end ∙ sym same) ∙ at in
      let equal : page ≡ other = cc in
      subst (λ n. IsNoted flash n q other) (sym one.0) (subst (λ n. IsNoted flash b n other) (sym one.1) (subst (IsNoted flash b p) equal is))
  | inr ne ↦
      let within : c * pages + q < length list = omega (arith, slice_get_within (list ++ page ∷ []) (c * pages + q) other at, length-append list (page ∷ []), end, ne) in
      each c q other less (sym (before_end list page (c * pages + q) within) ∙ at)
]

pub noted_pushed : (flash : Flash) (pages b p : ℕ) (list new : List SurveyedPage) (page : SurveyedPage) → new ≡ list ++ page ∷ [] → p < pages → length list ≡ b * pages + p → IsNoted flash b p page
    → AreNoted flash pages list → AreNoted flash pages new
noted_pushed flash pages b p list new page pushed lt end is each = subst (AreNoted flash pages) (sym pushed) (noted_push flash pages b p list page lt end is each)

-- of no page nothing is to be shown
pub noted_none : (flash : Flash) (pages : ℕ) → AreNoted flash pages []
noted_none flash pages c q other less at = absurd cc

-- what is noted of a flash after some reads was noted before them
pub noted_back : (a b : Device) (list : List SurveyedPage) → OnlyReads a b → a.honest ≡ true → AreNoted b.flash b.geometry.pages list → AreNoted a.flash a.geometry.pages list
noted_back a b list only honest noted =
    subst (λ (f : Flash). AreNoted f a.geometry.pages list) (same_flash a b only honest) (subst (λ (g : Geometry). AreNoted b.flash g.pages list) only.lasts.geometry noted)

pub noted_on : (a b : Device) (list : List SurveyedPage) → OnlyReads a b → a.honest ≡ true → AreNoted a.flash a.geometry.pages list → AreNoted b.flash b.geometry.pages list
noted_on a b list only honest noted =
    subst (λ (f : Flash). AreNoted f b.geometry.pages list) (sym (same_flash a b only honest)) (subst (λ (g : Geometry). AreNoted a.flash g.pages list) (sym only.lasts.geometry) noted)

pub page_back : (a b : Device) (k p : ℕ) (page : SurveyedPage) → OnlyReads a b → a.honest ≡ true → (b.honest ≡ true → IsNoted b.flash k p page) → IsNoted a.flash k p page
page_back a b k p page only honest noted = subst (λ (f : Flash). IsNoted f k p page) (same_flash a b only honest) (noted (only.lasts.honest ∙ honest))

-- the places that a scan lists are those of pages that were read
pub placed_within : (pages blocks : ℕ) (valid_pages : List Found) (list : List SurveyedPage) → ArePlaced blocks pages valid_pages → length list ≡ blocks * pages → AreWithin pages valid_pages list
placed_within pages blocks valid_pages list placed len k f at =
    let is = All-contains (λ (x : Found). (x.block < blocks) × (x.page < pages)) valid_pages f placed (in_list valid_pages k f at) in
    (is.1, omega (arith, mul-add-lt f.block pages f.page blocks is.0 is.1, len))
