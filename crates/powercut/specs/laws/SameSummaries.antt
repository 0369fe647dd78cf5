-- Whether a mount finds the tree of a flash by whichever way it goes depends on pages and marks alone.
use Rattle.std.specs.Prelude.{◌≡◌, ◌+◌, ℕ, Bool, false}
use Rattle.std.proofs.Common.{sym, ◌∙◌, ap}
use mathlib.Core.Logic.{∥∥₁_elim}
use Rattle.nand_model.specs.Flash.{Flash}
use Rattle.nand_model.specs.declared.geometry.Geometry.{Geometry}
use Rattle.flash_tree.specs.ErasedBlocks.{BeginsErased, GoesFirst, OnlyFirstHasTags}
use Rattle.flash_tree.specs.Mount.{sizes_of}
use Rattle.flash_tree.specs.MountableFlash.{IsMountableFlash, IsTreeFindable, MayBeMountable}
use Rattle.flash_tree.specs.Newest.{HasNewest}
use Rattle.flash_tree.specs.Summaries.{AreSummariesRight, IsWholeSummary, MatchesBlock, Summary, summary_group}
use Rattle.flash_tree.specs.Summarizing.{IsFindable}
use Rattle.flash_tree.specs.laws.Tree.{footprint_law}
use Rattle.page_store.specs.Checked.{IsConsistent}
use Rattle.powercut.specs.Living.{HasSame}
use Rattle.powercut.specs.laws.SameFlash.{foot_same, group_same, newest_same, same_back, spot_same, tag_same, true_same, volume_same, whole_same}

module _ (g : Geometry) (a b : Flash) (same : HasSame a b) where
  back : HasSame b a
  back = same_back a b same

  good_back : (k : ℕ) → b.bad k ≡ false → a.bad k ≡ false
  good_back k good = ap (λ (bad : ℕ → Bool). bad k) (sym same.bad) ∙ good

  page_same : (k l : ℕ) → b.page k l ≡ a.page k l
  page_same k l = ap (λ (page : ℕ → ℕ → _). page k l) same.page

  begins_back : (k : ℕ) → BeginsErased b k → BeginsErased a k
  begins_back k (good, erased) = (good_back k good, sym (page_same k 0) ∙ erased)

  -- summaries that are whole there are whole here
  whole_back : (s : Summary) → IsWholeSummary g b s → IsWholeSummary g a s
  whole_back s whole = record {
    good = good_back s.block whole.good;
    form = whole.form;
    pages = λ i lt. let there = whole.pages i lt in (sym (page_same (summary_group s).block ((summary_group s).start + i)) ∙ there.0, there.1);
  }

  matches_back : (s : Summary) → MatchesBlock b s → MatchesBlock a s
  matches_back s matches = record { good = good_back s.head.block matches.good; tag = matches.tag; has = tag_same b a back s.head.block 0 matches.tag matches.has; seq = matches.seq }

  right_same : AreSummariesRight g a → AreSummariesRight g b
  right_same right = record {
    older = λ s whole. right.older s (whole_back s whole);
    versions = λ s e whole. right.versions s e (whole_back s whole);
    below = λ s l t whole matches has. right.below s l t (whole_back s whole) (matches_back s matches) (tag_same b a back s.head.block l t has);
    ordered = record {
      one = λ k l m t u good has has'. right.ordered.one k l m t u (good_back k good) (tag_same b a back k l t has) (tag_same b a back k m u has');
      rise = λ k n l m t u good good' has has'.
          right.ordered.rise k n l m t u (good_back k good) (good_back n good') (tag_same b a back k l t has) (tag_same b a back n m u has');
    };
  }

  first_same : OnlyFirstHasTags a → OnlyFirstHasTags b
  first_same only k j l t lt begins erased has = only k j l t lt (begins_back k begins) (begins_back j erased) (tag_same b a back j l t has)

  goes_same : (k : ℕ) → GoesFirst a k → GoesFirst b k
  goes_same k goes j ne begins = let first = goes j ne (begins_back j begins) in (first.0, λ l t has. first.1 l t (tag_same b a back j l t has))

  findable_same : (o c : ℕ) → IsFindable g a o c → IsFindable g b o c
  findable_same o c found = record {
    ordinary = found.ordinary;
    there = λ q d key. let at = found.there q d key in (at.0, spot_same a b same q d at.0 at.1);
    listed = λ s q d p whole matches key newest. found.listed s q d p (whole_back s whole) (matches_back s matches) key (spot_same b a back q d p newest);
    latest = λ s e p whole matches listed key newest. found.latest s e p (whole_back s whole) (matches_back s matches) listed key (spot_same b a back e.object e.chunk p newest);
    in_order = λ q d l p key newest lt erased. found.in_order q d l p key (spot_same b a back q d p newest) lt (sym (page_same p.block l) ∙ erased);
  }

  tree_same : IsTreeFindable g a → IsTreeFindable g b
  tree_same found spare objects volume shows o c foot =
      findable_same o c (found spare objects (volume_same g b a back spare volume)
      (footprint_law (sizes_of g spare) (HasNewest b) (HasNewest a) objects (λ q d bytes f has. newest_same b a back q d bytes has) shows) o c
      (foot_same (sizes_of g spare) b a back objects o c foot))

  flash_same : IsMountableFlash g a → IsMountableFlash g b
  flash_same is = record {
    summarized = record { right = right_same is.summarized.right; first = first_same is.summarized.first };
    found = tree_same is.found;
    checkpoints = λ c whole. goes_same c.block (is.checkpoints c (whole_same g b a back c whole));
  }

  mountable_same : MayBeMountable g a → MayBeMountable g b
  mountable_same may = ∥∥₁_elim may (λ x y. squash₁ x y) (λ (is : IsMountableFlash g a). ∣ flash_same is ∣₁)

  pub consistent_same : IsConsistent g a → IsConsistent g b
  consistent_same is = record {
    truth = true_same g a b same is.truth;
    mountable = mountable_same is.mountable;
    spare = is.spare;
    objects = is.objects;
    volume = volume_same g a b same is.spare is.volume;
    shows = footprint_law (sizes_of g is.spare) (HasNewest a) (HasNewest b) is.objects (λ o c bytes foot has. newest_same a b same o c bytes has) is.shows;
  }
