-- The greatest numbers of the blocks that were read.
use Rattle.std.specs.Prelude.{◌≡◌, ℕ, ◌+◌, max, true, false, List, Option, Some, None, length, slice_get}
use Rattle.std.proofs.Common.{sym, ◌∙◌, ap, subst, inl, inr, arith}
use Rattle.std.proofs.lemmas.Bool.{cases_eq, false≢true}
use Rattle.nand_model.specs.Flash.{Flash, IsWithin}
use Rattle.page_tags.specs.declared.tag.Tag.{Tag}
use Rattle.flash_tree.specs.Groups.{HasTag}
use Rattle.flash_tree.specs.Newest.{Numbers, AreGreatest}
use Rattle.flash_tree.specs.laws.Place.{tag_placed}
use Rattle.mount_scan.specs.Blocks.{AreTags, numbers_in, AreAtMost, AreRaisedBy, AreGreatestBelow, RaisesBy}
use Rattle.mount_scan.proofs.Tagged.{tag_reported}

pub at_most_on : (a b c : Numbers) → AreAtMost a b → AreAtMost b c → AreAtMost a c
at_most_on a b c first then = record { version = omega (arith, first.version, then.version); group = omega (arith, first.group, then.group); seq = omega (arith, first.seq, then.seq) }

-- a page with no tag raises nothing
pub raised_skip : (tags : List (Option Tag)) (i : ℕ) (n m : Numbers) → slice_get tags i ≡ Some None → AreRaisedBy tags i n m → AreRaisedBy tags (i + 1) n m
raised_skip tags i n m none is = record {
  keeps = is.keeps;
  above = λ l t lt at. elim (cases_eq l i) [
    | inr ne ↦ is.above l t (omega (arith, lt, ne)) at
    | inl here ↦ let two : Some (Some t) ≡ Some None = sym at ∙ ap (slice_get tags) here ∙ none in absurd cc
  ];
  least = λ k keeps above. is.least k keeps (λ l t lt. above l t (omega (arith, lt)));
}

-- one more tag raises to the greater of each two numbers
pub raised_more : (tags : List (Option Tag)) (i : ℕ) (t : Tag) (n m new : Numbers) → slice_get tags i ≡ Some (Some t) → new.version ≡ max m.version t.version → new.group ≡ max m.group t.group
    → new.seq ≡ max m.seq t.seq → AreRaisedBy tags i n m → AreRaisedBy tags (i + 1) n new
raised_more tags i t n m new at version group seq is = record {
  keeps = record { version = omega (arith, is.keeps.version, version); group = omega (arith, is.keeps.group, group); seq = omega (arith, is.keeps.seq, seq) };
  above = λ l u lt there. elim (cases_eq l i) [
    | inr ne ↦ let below = is.above l u (omega (arith, lt, ne)) there in record { version = omega (arith, below.version); group = omega (arith, below.group); seq = omega (arith, below.seq) }
    | inl here ↦
        let two : Some (Some u) ≡ Some (Some t) = sym there ∙ ap (slice_get tags) here ∙ at in
        let same : u ≡ t = cc in
        record {
          version = omega (arith, ap (λ (v : Tag). v.version) same);
          group = omega (arith, ap (λ (v : Tag). v.group) same);
          seq = omega (arith, ap (λ (v : Tag). v.seq) same);
        }
  ];
  least = λ k keeps above.
      let others = is.least k keeps (λ l u lt. above l u (omega (arith, lt))) in
      let this = above i t (omega arith) at in
      record { version = omega (arith, others.version, this.version); group = omega (arith, others.group, this.group); seq = omega (arith, others.seq, this.seq) };
}

-- the tags of a block raise the numbers of the blocks before it to those of the blocks up to it
pub greatest_block : (f : Flash) (b pages blocks : ℕ) (tags : List (Option Tag)) (n m : Numbers) → IsWithin pages blocks f → length tags ≡ pages → AreTags f b tags → f.bad b ≡ false
    → AreRaisedBy tags (length tags) n m → AreGreatestBelow f b n → AreGreatestBelow f (b + 1) m
greatest_block f b pages blocks tags n m within len reported good raised is = record {
  above = λ k l t lt good_there has. elim (cases_eq k b) [
    | inr ne ↦ at_most_on (numbers_in t) n m (is.above k l t (omega (arith, lt, ne)) good_there has) raised.keeps
    | inl here ↦
        let has_here : HasTag f b l t = subst (λ j. HasTag f j l t) here has in
        raised.above l t (omega (arith, (tag_placed pages blocks f b l t within has_here).1, len)) (tag_reported f b pages blocks tags within len reported l t has_here)
  ];
  least = λ k above. raised.least k
      (is.least k (λ j l t lt. above j l t (omega (arith, lt))))
      (λ l t lt at. above b l t (omega arith) good (reported l (Some t) at));
}

-- and any numbers to those of the block too
pub raises_block : (f : Flash) (b pages blocks : ℕ) (tags : List (Option Tag)) (n m : Numbers) → IsWithin pages blocks f → length tags ≡ pages → AreTags f b tags → f.bad b ≡ false
    → AreRaisedBy tags (length tags) n m → RaisesBy f b n m
raises_block f b pages blocks tags n m within len reported good raised = record {
  keeps = raised.keeps;
  above = λ _ l t has. raised.above l t (omega (arith, (tag_placed pages blocks f b l t within has).1, len)) (tag_reported f b pages blocks tags within len reported l t has);
  least = λ k keeps above. raised.least k keeps (λ l t lt at. above good l t (reported l (Some t) at));
}

module _ (f : Flash) where
  -- a bad block is passed
  pub greatest_bad : (b : ℕ) (n : Numbers) → f.bad b ≡ true → AreGreatestBelow f b n → AreGreatestBelow f (b + 1) n
  greatest_bad b n bad is = record {
    above = λ k l t lt good has. elim (cases_eq k b) [
      | inr ne ↦ is.above k l t (omega (arith, lt, ne)) good has
      | inl here ↦ absurd (false≢true (sym good ∙ ap f.bad here ∙ bad))
    ];
    least = λ k above. is.least k (λ j l t lt. above j l t (omega (arith, lt)));
  }

  -- below the end of the device they are the greatest of all
  pub greatest_all : (pages blocks : ℕ) (n : Numbers) → IsWithin pages blocks f → AreGreatestBelow f blocks n → AreGreatest f n
  greatest_all pages blocks n within is = record {
    above = λ b p t good has. let below = is.above b p t (tag_placed pages blocks f b p t within has).0 good has in (below.version, below.group, below.seq);
    least = λ m above.
        let most = is.least m (λ b p t lt good has. let below = above b p t good has in record { version = below.0; group = below.1; seq = below.2 }) in
        (most.version, most.group, most.seq);
  }
