-- The best of the pages that were passed.
use Rattle.std.specs.Prelude.{◌≡◌, ℕ, ◌+◌, true, Option, Some, None, IfSome, IfNone}
use Rattle.std.proofs.Common.{sym, ◌∙◌, ap, subst, inl, inr}
use Rattle.std.proofs.lemmas.Bool.{false≢true}
use Rattle.nand_model.specs.Flash.{Flash, IsWithin}
use Rattle.flash_tree.specs.Newest.{Spot, Holds, IsAfter, IsNewest}
use Rattle.flash_tree.specs.declared.place.Found.{Found}
use Rattle.flash_tree.specs.Places.{spot_of}
use Rattle.test_devices.specs.Searching.{IsBefore, IsBest, IsBetter}
use Rattle.flash_tree.specs.laws.Place.{tag_placed}
use Rattle.flash_tree.specs.laws.Order.{after_on}
use Rattle.flash_tree.specs.laws.Order.{not_after_itself}
use Rattle.test_devices.proofs.Held.{held_spot}
use Rattle.test_devices.proofs.Passing.{one_more_page, one_more_block, before_block}

module _ (f : Flash) (o c : ℕ) where
  -- the best of some pages is the best of others, if what these hold stands among those
  best_among : (b p d q : ℕ) (best : Option Found) → ((t : Spot) → IsBefore d q t.block t.page → Holds f o c t → IsBefore b p t.block t.page)
      → IsBest f o c b p best → IsBest f o c d q best
  best_among b p d q None among is = λ t before holds. is t (among t before holds) holds
  best_among b p d q (Some x) among is = (is.0, λ t before holds. is.1 t (among t before holds) holds)

  -- a page that holds nothing is passed
  pub best_past_page : (b p : ℕ) (best : Option Found) → ((s : Spot) → s.block ≡ b → s.page ≡ p → Holds f o c s → ⊥) → IsBest f o c b p best → IsBest f o c b (p + 1) best
  best_past_page b p best none = best_among b p b (p + 1) best (λ t before holds.
      elim (one_more_page b p t.block t.page before) [ inl passed ↦ passed | inr here ↦ absurd (none t here.0 here.1 holds) ])

  -- a bad block is passed
  pub best_past_bad : (b : ℕ) (best : Option Found) → f.bad b ≡ true → IsBest f o c b 0 best → IsBest f o c (b + 1) 0 best
  best_past_bad b best bad = best_among b 0 (b + 1) 0 best (λ t before holds.
      elim (one_more_block b t.block t.page before) [
        | inl passed ↦ passed
        | inr here ↦ absurd (false≢true (sym holds.whole.good ∙ ap f.bad (sym holds.block ∙ here) ∙ bad))
      ])

  -- with all pages of a block passed it is the next block's turn
  pub best_past_block : (pages blocks b : ℕ) (best : Option Found) → IsWithin pages blocks f → IsBest f o c b pages best → IsBest f o c (b + 1) 0 best
  best_past_block pages blocks b best within = best_among b pages (b + 1) 0 best (λ t before holds.
      elim (one_more_block b t.block t.page before) [
        | inl passed ↦ before_block b pages t.block t.page passed
        | inr here ↦ let at = tag_placed pages blocks f t.block t.page t.tag within holds.has in inr (here, at.1)
      ])

  -- a better page takes the place of the best
  pub best_taken : (b p : ℕ) (best : Option Found) (x : Found) → x.block ≡ b → x.page ≡ p → Holds f o c (spot_of x) → IsBetter x best
      → IsBest f o c b p best → IsBest f o c b (p + 1) (Some x)
  best_taken b p best x block page held better is = (
    held,
    λ t before holds after.
        elim (one_more_page b p t.block t.page before) [
          | inl passed ↦ not_passed best better is t passed holds after
          | inr here ↦
              let same : t ≡ spot_of x = held_spot f o c x.block x.page x.tag held.has t (here.0 ∙ sym block) (here.1 ∙ sym page) holds in
              not_after_itself (spot_of x) (subst (λ s. IsAfter s (spot_of x)) same after)
        ],
  ) where
    not_passed : (before : Option Found) → IsBetter x before → IsBest f o c b p before → (t : Spot) → IsBefore b p t.block t.page → Holds f o c t → IsAfter t (spot_of x) → ⊥
    not_passed None later is t passed holds after = is t passed holds
    not_passed (Some y) later is t passed holds after = is.1 t passed holds (after_on t (spot_of x) (spot_of y) after later)

  -- a page that is no better leaves it
  pub best_stays : (b p : ℕ) (best : Option Found) (x : Found) → x.block ≡ b → x.page ≡ p → Holds f o c (spot_of x) → (IsBetter x best → ⊥)
      → IsBest f o c b p best → IsBest f o c b (p + 1) best
  best_stays b p None x block page held not is = absurd (not tt)
  best_stays b p (Some y) x block page held not is = (
    is.0,
    λ t before holds after.
        elim (one_more_page b p t.block t.page before) [
          | inl passed ↦ is.1 t passed holds after
          | inr here ↦
              let same : t ≡ spot_of x = held_spot f o c x.block x.page x.tag held.has t (here.0 ∙ sym block) (here.1 ∙ sym page) holds in
              not (subst (λ s. IsAfter s (spot_of y)) same after)
        ],
  )

  -- with all blocks passed the best is the newest
  pub newest_at_end : (pages blocks : ℕ) (best : Option Found) → IsWithin pages blocks f → IsBest f o c blocks 0 best → IfSome best (λ x. IsNewest f o c (spot_of x))
  newest_at_end pages blocks None within is = tt
  newest_at_end pages blocks (Some x) within is = record {
    holds = is.0;
    last = λ t holds. let at = tag_placed pages blocks f t.block t.page t.tag within holds.has in is.1 t (inl at.0) holds;
  }

  pub none_at_end : (pages blocks : ℕ) (best : Option Found) → IsWithin pages blocks f → IsBest f o c blocks 0 best → IfNone best ((s : Spot) → Holds f o c s → ⊥)
  none_at_end pages blocks None within is = λ s holds. let at = tag_placed pages blocks f s.block s.page s.tag within holds.has in is s (inl at.0) holds
  none_at_end pages blocks (Some x) within is = tt
