-- What is left of a map and of an index, where a test keeps the keys that a tree looks up.
use Rattle.std.specs.Prelude.{◌≡◌, ℕ, Bool, true, false, None, Some}
use Rattle.std.proofs.Common.{sym, ◌∙◌, inl, inr}
use Rattle.std.proofs.lemmas.Bool.{cases_Bool}
use Rattle.nand_model.specs.Flash.{Flash}
use Rattle.volume_terms.specs.Sizes.{Sizes}
use Rattle.posix_profile.specs.State.{Objects}
use Rattle.flash_tree.specs.Newest.{Spot, IsNewest}
use Rattle.chunk_index.specs.declared.form.CommittedPage.{CommittedPage}
use Rattle.chunk_index.specs.declared.index.Index.{Index}
use Rattle.chunk_index.specs.Maps.{CommittedMap, committed_pages, Retains}
use Rattle.pages.specs.Maps.{PageMap}
use Rattle.mounting.specs.Footprints.{KeepsFootprint, IsFootprint}
use Rattle.mounting.specs.CommittedTrees.{LieNewest, KeepsAll, KeepsOnlyTree}

pub part_left : (z : Sizes) (m part : PageMap) (objects : Objects) (keeps : ℕ → ℕ → Bool) → KeepsFootprint z m objects keeps
    → ((o c : ℕ) → keeps o c ≡ true → part o c ≡ m o c) → ((o c : ℕ) → keeps o c ≡ false → part o c ≡ None) → IsFootprint z m objects part
part_left z m part objects keeps those committed gone = record {
  same = λ o c looked. committed o c ((those o c).1 looked);
  none = λ o c not. elim (cases_Bool (keeps o c)) [ inl is ↦ absurd (not ((those o c).0 is)) | inr is ↦ gone o c is ];
}

-- of committed pages only those of the tree are left
pub committed_left : (flash : Flash) (z : Sizes) (m : PageMap) (objects : Objects) (keeps : ℕ → ℕ → Bool) (committed : CommittedMap) → KeepsFootprint z m objects keeps → LieNewest flash committed
    → ((o c : ℕ) (s : Spot) → keeps o c ≡ true → IsNewest flash o c s → (p : CommittedPage) × (committed o c ≡ Some p)) → ((o c : ℕ) → keeps o c ≡ false → committed o c ≡ None)
    → KeepsOnlyTree flash z m objects committed
committed_left flash z m objects keeps committed those lie all gone = record {
  all = λ o c s looked newest. all o c s ((those o c).1 looked) newest;
  only = λ o c p is. elim (cases_Bool (keeps o c)) [
    | inl stays ↦ (those o c).0 stays
    | inr goes ↦ let two : None ≡ Some p = sym (gone o c goes) ∙ is in absurd cc
  ];
  newest = lie;
}

-- and so it is with an index
pub index_left : (flash : Flash) (z : Sizes) (m : PageMap) (objects : Objects) (keeps : ℕ → ℕ → Bool) (old new : Index) → KeepsFootprint z m objects keeps
    → Retains keeps old new → LieNewest flash (committed_pages old) → KeepsAll flash (committed_pages old) → KeepsOnlyTree flash z m objects (committed_pages new)
index_left flash z m objects keeps old new those retains lie all = committed_left flash z m objects keeps (committed_pages new) those still_lie still_there retains.committed_no_more where
  still_lie : LieNewest flash (committed_pages new)
  still_lie o c p is = elim (cases_Bool (keeps o c)) [
    | inl stays ↦ lie o c p (sym (retains.committed o c stays) ∙ is)
    | inr goes ↦ let two : None ≡ Some p = sym (retains.committed_no_more o c goes) ∙ is in absurd cc
  ]

  still_there : (o c : ℕ) (s : Spot) → keeps o c ≡ true → IsNewest flash o c s → (p : CommittedPage) × (committed_pages new o c ≡ Some p)
  still_there o c s stays newest = let p = all o c s newest in (p.0, retains.committed o c stays ∙ p.1)
