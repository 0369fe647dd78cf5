-- The valid pages, noted one after another.
use Rattle.std.specs.Prelude.{◌≡◌, ◌≢◌, ◌<◌, ℕ, zero, suc, ◌+◌, ◌*◌, ◌/◌, ◌%◌, List, [], ◌∷◌, Option, Some, None, length, slice_get, slice_set, Contains}
use Rattle.std.proofs.Common.{refl, sym, ◌∙◌, ap, subst, inl, inr, arith, get_or}
use Rattle.std.proofs.lemmas.Bool.{cases_eq, false≢true}
use Rattle.std.proofs.lemmas.Nat.{div-mul-add, mod-mul-add}
use Rattle.std.proofs.lemmas.Option.{slice_get_within, slice_get-get_or, get_or_from_slice_get}
use Rattle.nand_model.specs.Flash.{Flash}
use Rattle.flash_tree.specs.Groups.{HasTag, IsPart, IsCounted}
use Rattle.flash_tree.specs.Newest.{Spot, Holds, IsNewest}
use Rattle.flash_tree.specs.Places.{spot_of}
use Rattle.flash_tree.specs.declared.place.Found.{Found}
use Rattle.mount_scan.specs.Scanned.{AreCounted}
use Rattle.mount_scan.specs.NewestMap.{KeyMap, HasEachNewest, page_of}
use Rattle.mount_scan.specs.laws.Scan.{listed_spot}
use Rattle.chip_map.specs.declared.page_state.PageState.{PageState}
use Rattle.chip_map.specs.declared.page_state.PageState.TheVariants as states
use Rattle.chip_map.specs.declared.page_state.SurveyedPage.{SurveyedPage}
use Rattle.chip_map.specs.States.{IsCurrent, IsPageState, AreSurveyed}
use Rattle.chip_map.specs.Valid.{AreValid, LiesAt, IsNotedState, IsNoted, AreNoted, Notes}

-- ---- lists

pub set_here : {A : Type 0} (xs : List A) (k : ℕ) (x : A) → k < length xs → slice_get (slice_set xs k x) k ≡ Some x
set_here [] k x lt = absurd (omega (arith, lt))
set_here (y ∷ xs) zero x lt = refl
set_here (y ∷ xs) (suc k) x lt = set_here xs k x (omega (arith, lt))

pub set_there : {A : Type 0} (xs : List A) (i k : ℕ) (x : A) → k ≢ i → slice_get (slice_set xs i x) k ≡ slice_get xs k
set_there [] i k x ne = refl
set_there (y ∷ xs) zero zero x ne = absurd (ne refl)
set_there (y ∷ xs) zero (suc k) x ne = refl
set_there (y ∷ xs) (suc i) zero x ne = refl
set_there (y ∷ xs) (suc i) (suc k) x ne = set_there xs i k x (λ same. ne (ap suc same))

pub in_list : (list : List Found) (i : ℕ) (f : Found) → slice_get list i ≡ Some f → Contains list f
in_list list i f at = (i, slice_get_within list i f at, get_or_from_slice_get list i f f at)

place_in : (list : List Found) (f : Found) → Contains list f → (i : ℕ) × (slice_get list i ≡ Some f)
place_in list f has = (has.0, slice_get-get_or list has.0 f has.1 ∙ ap (λ (x : Found). Some x) has.2)

-- a number of a page is that of one place
pub one_index : (b c p q n : ℕ) → p < n → q < n → b * n + p ≡ c * n + q → (b ≡ c) × (p ≡ q)
one_index b c p q n lt less same = (
  sym (div-mul-add b n p lt) ∙ ap (λ k. k / n) same ∙ div-mul-add c n q less,
  sym (mod-mul-add b n p lt) ∙ ap (λ k. k % n) same ∙ mod-mul-add c n q less,
)

-- ---- the valid pages

-- those that a scan lists
pub valid_listed : (flash : Flash) (list : List Found) → AreCounted flash list → AreValid flash list
valid_listed flash list valid_pages f = (
  λ has. (valid_pages.each (spot_of f)).1 ((listed_spot list (spot_of f)).1 has),
  λ holds. (listed_spot list (spot_of f)).0 ((valid_pages.each (spot_of f)).0 holds),
)

-- a page whose place is that of the newest page of its key is current
pub lies_current : (flash : Flash) (newest : KeyMap) → HasEachNewest flash newest → (f : Found) → LiesAt (page_of newest f.tag.object f.tag.chunk) f → IsCurrent flash f.block f.page
lies_current flash newest each f (g, is, block, page) =
    let there : IsNewest flash f.tag.object f.tag.chunk (spot_of g) = each.only f.tag.object f.tag.chunk g is in
    let own : IsNewest flash g.tag.object g.tag.chunk (spot_of g) =
    subst (λ o. IsNewest flash o g.tag.chunk (spot_of g)) (sym there.holds.object) (subst (λ c. IsNewest flash f.tag.object c (spot_of g)) (sym there.holds.chunk) there) in
    subst (λ b. IsCurrent flash b f.page) block (subst (λ p. IsCurrent flash g.block p) page (record { tag = g.tag; newest = own }))

-- and a current page is
pub newest_lies : (flash : Flash) (newest : KeyMap) → HasEachNewest flash newest → (f : Found) → IsNewest flash f.tag.object f.tag.chunk (spot_of f) → LiesAt (page_of newest f.tag.object f.tag.chunk) f
newest_lies flash newest each f is =
    let (g, at, same) = each.each f.tag.object f.tag.chunk (spot_of f) is in
    (g, at, ap (λ (s : Spot). s.block) same, ap (λ (s : Spot). s.page) same)

module _ (flash : Flash) (valid : List Found) (are : AreValid flash valid) where
  pub holds_at : (i : ℕ) (f : Found) → slice_get valid i ≡ Some f → Holds flash f.tag.object f.tag.chunk (spot_of f)
  holds_at i f at = (are f).0 (in_list valid i f at)

  -- a valid page that is noted
  noted_page : (i : ℕ) (f : Found) (new : PageState) → slice_get valid i ≡ Some f → IsNotedState flash f.block f.page new → IsNoted flash f.block f.page (record { state = new; tag = Some f.tag })
  noted_page i f new at is =
      let holds = holds_at i f at in
      record {
        state = is;
        tag = λ good. holds.has;
        none = λ bad. absurd (false≢true (sym holds.whole.good ∙ ap flash.bad (sym holds.block) ∙ bad));
      }

  -- one more is noted
  pub noted_more : (pages i : ℕ) (f : Found) (state : PageState) (list : List SurveyedPage) → slice_get valid i ≡ Some f → f.page < pages → f.block * pages + f.page < length list
      → IsNotedState flash f.block f.page state → state ≢ states.Invalid → Notes flash pages valid i list
      → Notes flash pages valid (i + 1) (slice_set list (f.block * pages + f.page) (record { state = state; tag = Some f.tag }))
  noted_more pages i f state list at within inside is not_invalid notes = record {
    each = λ b p page lt there. elim (cases_eq (b * pages + p) (f.block * pages + f.page)) [
      | inr ne ↦ notes.each b p page lt (sym (set_there list (f.block * pages + f.page) (b * pages + p) new ne) ∙ there)
      | inl same ↦
          let one = one_index b f.block p f.page pages lt within same in
          let two : Some new ≡ Some page = sym (set_here list (f.block * pages + f.page) new inside) ∙ ap (slice_get after) (sym same) ∙ there in
          let equal : new ≡ page = cc in
          subst (λ n. IsNoted flash n p page) (sym one.0) (subst (λ n. IsNoted flash f.block n page) (sym one.1) (subst (IsNoted flash f.block f.page) equal (noted_page i f state at is)))
    ];
    noted = λ k g lt at_g. elim (cases_eq (g.block * pages + g.page) (f.block * pages + f.page)) [
      | inl same ↦ record { page = new; there = ap (slice_get after) same ∙ set_here list (f.block * pages + f.page) new inside; valid = not_invalid }
      | inr ne ↦ elim (cases_eq k i) [
        | inl here ↦
            let two : Some f ≡ Some g = sym at ∙ ap (slice_get valid) (sym here) ∙ at_g in
            let equal : f ≡ g = cc in
            absurd (ne (ap (λ (x : Found). x.block * pages + x.page) (sym equal)))
        | inr other ↦
            let was = notes.noted k g (omega (arith, lt, other)) at_g in
            record { page = was.page; there = set_there list (f.block * pages + f.page) (g.block * pages + g.page) new ne ∙ was.there; valid = was.valid }
      ]
    ];
  } where
    new : SurveyedPage
    new = record { state = state; tag = Some f.tag }

    after : List SurveyedPage
    after = slice_set list (f.block * pages + f.page) new

  final_state : (b p : ℕ) (state : PageState) → (state ≡ states.Invalid → IsCounted flash b p → ⊥) → IsNotedState flash b p state → IsPageState flash b p state
  final_state b p states.Bad not is = is
  final_state b p states.Erased not is = is
  final_state b p states.Uncorrectable not is = is
  final_state b p states.Invalid not is = (is, not refl)
  final_state b p states.Stale not is = is
  final_state b p states.Current not is = is

  -- a page that counts is noted as valid
  counted_noted : (pages b p : ℕ) (list : List SurveyedPage) (page : SurveyedPage) → Notes flash pages valid (length valid) list → slice_get list (b * pages + p) ≡ Some page
      → page.state ≡ states.Invalid → IsCounted flash b p → ⊥
  counted_noted pages b p list page notes there invalid valid_pages =
      let part : IsPart flash valid_pages.group valid_pages.index = valid_pages.whole.each valid_pages.index valid_pages.within in
      let f : Found = record { block = b; page = p; tag = part.tag } in
      let has : HasTag flash b p part.tag = subst (λ n. HasTag flash n p part.tag) (sym valid_pages.block) (subst (λ n. HasTag flash valid_pages.group.block n part.tag) (sym valid_pages.page) part.has) in
      let holds : Holds flash f.tag.object f.tag.chunk (spot_of f) = record {
        group = valid_pages.group;
        whole = valid_pages.whole;
        index = valid_pages.index;
        within = valid_pages.within;
        block = valid_pages.block;
        page = valid_pages.page;
        has = has;
        object = refl;
        chunk = refl;
      } in
      let at = place_in valid f ((are f).1 holds) in
      let was = notes.noted at.0 f (slice_get_within valid at.0 f at.1) at.1 in
      let two : Some was.page ≡ Some page = sym was.there ∙ there in
      let equal : was.page ≡ page = cc in
      was.valid (ap (λ (x : SurveyedPage). x.state) equal ∙ invalid)

  -- once all are noted each page is surveyed
  pub all_noted : (pages : ℕ) (list : List SurveyedPage) → Notes flash pages valid (length valid) list → AreSurveyed flash pages list
  all_noted pages list notes b p page lt at =
      let is = notes.each b p page lt at in
      record { state = final_state b p page.state (counted_noted pages b p list page notes at) is.state; tag = is.tag; none = is.none }

-- at first none is
pub none_noted : (flash : Flash) (pages : ℕ) (valid : List Found) (list : List SurveyedPage) → AreNoted flash pages list → Notes flash pages valid 0 list
none_noted flash pages valid list each = record { each = each; noted = λ k f lt. absurd (omega (arith, lt)) }

-- whether there is a page with the place of another
pub lies_none : (m : Option Found) (f : Found) → m ≡ None → LiesAt m f → ⊥
lies_none m f none (g, is, block, page) = absurd (let two : None ≡ Some g = sym none ∙ is in cc)

pub lies_same : (m : Option Found) (f g : Found) → m ≡ Some g → LiesAt m f → (g.block ≡ f.block) × (g.page ≡ f.page)
lies_same m f g there (h, is, block, page) =
    let two : Some g ≡ Some h = sym there ∙ is in
    let one : h ≡ g = cc in
    (subst (λ (x : Found). x.block ≡ f.block) one block, subst (λ (x : Found). x.page ≡ f.page) one page)
