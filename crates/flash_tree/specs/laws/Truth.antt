-- What calls in turn keep of checkpoints and summaries.
use Rattle.std.specs.Prelude.{◌≡◌, ℕ, Option, Some, None}
use Rattle.std.proofs.Common.{refl, sym, ◌∙◌, subst}
use Rattle.nand_model.specs.Flash.{Flash}
use Rattle.nand_model.specs.Calls.{Device, Lasts}
use Rattle.nand_model.specs.Changes.{OnlyReads}
use Rattle.nand_model.specs.declared.geometry.Geometry.{Geometry}
use Rattle.flash_tree.specs.Checkpoints.{IsChecked}
use Rattle.flash_tree.specs.Summaries.{AreSummariesRight}
use Rattle.flash_tree.specs.Truth.{KeepsTrue}
use Rattle.flash_tree.specs.laws.Place.{same_flash}

-- two calls in turn
pub true_on : (a b c : Device) (x y z : Option ℕ) → Lasts a b → KeepsTrue a b x y → KeepsTrue b c y z → KeepsTrue a c x z
true_on a b c x y z lasts first after = record {
  noted = λ k is. first.noted k (after.noted k is);
  checked = λ honest is. after.checked (lasts.honest ∙ honest) (first.checked honest is);
  summaries = λ honest right. after.summaries (lasts.honest ∙ honest) (first.summaries honest right);
}

-- no call
pub true_same : (d : Device) (x y : Option ℕ) → y ≡ x → KeepsTrue d d x y
true_same d x y same = record { noted = λ k is. sym same ∙ is; checked = λ honest is. subst (IsChecked d.geometry d.flash) (sym same) is; summaries = λ honest right. right }

-- where no block was noted none is
pub none_after : (old new : Device) (x y : Option ℕ) → KeepsTrue old new x y → x ≡ None → y ≡ None
none_after old new x y keeps none = go y refl where
  go : (z : Option ℕ) → y ≡ z → y ≡ None
  go None is = is
  go (Some k) is = let two : None ≡ Some k = sym none ∙ keeps.noted k is in absurd cc

-- nor any number of reads
pub true_read : (old new : Device) (x y : Option ℕ) → OnlyReads old new → y ≡ x → KeepsTrue old new x y
true_read old new x y reads same = record {
  noted = λ k is. sym same ∙ is;
  checked = λ honest is.
      subst (λ (g : Geometry). IsChecked g new.flash y) (sym reads.lasts.geometry) (subst (λ (f : Flash). IsChecked old.geometry f y) (sym (same_flash old new reads honest))
      (subst (IsChecked old.geometry old.flash) (sym same) is));
  summaries = λ honest right.
      subst (λ (g : Geometry). AreSummariesRight g new.flash) (sym reads.lasts.geometry) (subst (AreSummariesRight old.geometry) (sym (same_flash old new reads honest)) right);
}
