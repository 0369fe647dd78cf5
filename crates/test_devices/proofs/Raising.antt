-- The greatest numbers of the pages that were passed.
use Rattle.std.specs.Prelude.{◌≡◌, ℕ, ◌+◌, true, false}
use Rattle.std.proofs.Common.{refl, sym, ◌∙◌, ap, subst, inl, inr, arith}
use Rattle.std.proofs.lemmas.Bool.{false≢true}
use Rattle.nand_model.specs.Flash.{Flash, IsWithin}
use Rattle.page_tags.specs.declared.tag.Tag.{Tag}
use Rattle.flash_tree.specs.Groups.{HasTag}
use Rattle.flash_tree.specs.Newest.{Numbers, AreGreatest}
use Rattle.test_devices.specs.Searching.{IsBefore, AreRaised, AreGreatestBefore}
use Rattle.flash_tree.specs.laws.Newest.{one_tag}
use Rattle.flash_tree.specs.laws.Place.{tag_placed}
use Rattle.test_devices.proofs.Passing.{one_more_page, one_more_block, before_block, before_next_page, before_next_block}

module _ (f : Flash) where
  -- the greatest of some pages are those of others, if the tags of these stand among those
  greatest_among : (b p d q : ℕ) (n : Numbers) → ((k l : ℕ) (t : Tag) → IsBefore d q k l → f.bad k ≡ false → HasTag f k l t → IsBefore b p k l)
      → ((k l : ℕ) → IsBefore b p k l → IsBefore d q k l) → AreGreatestBefore f b p n → AreGreatestBefore f d q n
  greatest_among b p d q n among within is = record {
    above = λ k l t before good has. is.above k l t (among k l t before good has) good has;
    least = λ m above. is.least m (λ k l t before. above k l t (within k l before));
  }

  -- a page with no tag is passed
  pub greatest_past_page : (b p : ℕ) (n : Numbers) → ((t : Tag) → HasTag f b p t → ⊥) → AreGreatestBefore f b p n → AreGreatestBefore f b (p + 1) n
  greatest_past_page b p n none = greatest_among b p b (p + 1) n
      (λ k l t before good has. elim (one_more_page b p k l before) [
        | inl passed ↦ passed
        | inr here ↦ absurd (none t (subst (λ j. HasTag f j p t) here.0 (subst (λ j. HasTag f k j t) here.1 has)))
      ])
      (before_next_page b p)

  -- a bad block is passed
  pub greatest_past_bad : (b : ℕ) (n : Numbers) → f.bad b ≡ true → AreGreatestBefore f b 0 n → AreGreatestBefore f (b + 1) 0 n
  greatest_past_bad b n bad = greatest_among b 0 (b + 1) 0 n
      (λ k l t before good has. elim (one_more_block b k l before) [
        | inl passed ↦ passed
        | inr here ↦ absurd (false≢true (sym good ∙ ap f.bad here ∙ bad))
      ])
      (before_next_block b 0)

  -- with all pages of a block passed it is the next block's turn
  pub greatest_past_block : (pages blocks b : ℕ) (n : Numbers) → IsWithin pages blocks f → AreGreatestBefore f b pages n → AreGreatestBefore f (b + 1) 0 n
  greatest_past_block pages blocks b n within = greatest_among b pages (b + 1) 0 n
      (λ k l t before good has. elim (one_more_block b k l before) [
        | inl passed ↦ before_block b pages k l passed
        | inr here ↦ inr (here, (tag_placed pages blocks f k l t within has).1)
      ])
      (before_next_block b pages)

  -- the numbers of a page's tag raise them
  pub greatest_raised : (b p : ℕ) (t : Tag) (n m : Numbers) → f.bad b ≡ false → HasTag f b p t → AreRaised n t m → AreGreatestBefore f b p n → AreGreatestBefore f b (p + 1) m
  greatest_raised b p t n m good has raised is = record {
    above = λ k l u before good_there has_there. elim (one_more_page b p k l before) [
      | inl passed ↦
          let below = is.above k l u passed good_there has_there in
          (omega (arith, below.0, raised.version), omega (arith, below.1, raised.group), omega (arith, below.2, raised.seq))
      | inr here ↦
          let same : u ≡ t = one_tag f b p u t (subst (λ j. HasTag f j p u) here.0 (subst (λ j. HasTag f k j u) here.1 has_there)) has in
          let version : u.version ≡ t.version = ap (λ (v : Tag). v.version) same in
          let group : u.group ≡ t.group = ap (λ (v : Tag). v.group) same in
          let seq : u.seq ≡ t.seq = ap (λ (v : Tag). v.seq) same in
          (omega (arith, version, raised.version), omega (arith, group, raised.group), omega (arith, seq, raised.seq))
    ];
    least = λ above_all all.
        let others = is.least above_all (λ k l u before. all k l u (before_next_page b p k l before)) in
        let this = all b p t (inr (refl, omega arith)) good has in
        (omega (arith, others.0, this.0, raised.version), omega (arith, others.1, this.1, raised.group), omega (arith, others.2, this.2, raised.seq));
  }

  -- with all blocks passed they are the greatest of the flash
  pub greatest_at_end : (pages blocks : ℕ) (n : Numbers) → IsWithin pages blocks f → AreGreatestBefore f blocks 0 n → AreGreatest f n
  greatest_at_end pages blocks n within is = record {
    above = λ k l t good has. is.above k l t (inl (tag_placed pages blocks f k l t within has).0) good has;
    least = λ m above. is.least m (λ k l t before. above k l t);
  }
