-- What was found of a device is so still after more reads of it.
use Rattle.std.specs.Prelude.{◌≡◌, ◌≢◌, ℕ, Bool, true}
use Rattle.std.proofs.Common.{sym, ◌∙◌, ap, subst}
use Rattle.nand_model.specs.Calls.{Device}
use Rattle.nand_model.specs.Changes.{OnlyReads}
use Rattle.nand_model.specs.Flash.{Flash}
use Rattle.nand_model.specs.declared.geometry.Geometry.{Geometry}
use Rattle.flash_tree.specs.laws.Place.{same_flash}
use Rattle.flash_tree.specs.Places.{numbers_of}
use Rattle.mount_scan.specs.FirstPages.{IsGoodFirst, AreFirstPages, AreAboveFirsts, AreNoneAbove, AreFirstsOf, BeginsRenewed, IsRenewedBelow}
use Rattle.mount_scan.specs.declared.first_page.FirstPage.{FirstPage}
use Rattle.mount_scan.specs.declared.first_page.FirstPage.TheVariants as firsts
use Rattle.mount_scan.specs.declared.first_page.FirstPages.{FirstPages}

good_first_read : (a b : Device) (k : ℕ) (first : FirstPage) → OnlyReads a b → IsGoodFirst a k first → IsGoodFirst b k first
good_first_read a b k firsts.Bad reads is = is
good_first_read a b k firsts.Erased reads is = is
good_first_read a b k firsts.Untagged reads is = is
good_first_read a b k (firsts.Tagged seq) reads is = is
good_first_read a b k (firsts.Summary count number seq) reads is = (is.0, ap (λ (f : ℕ → Bool). f k) reads.bad ∙ is.1)

pub firsts_read : (a b : Device) (pages : FirstPages) → OnlyReads a b → AreFirstsOf a pages → AreFirstsOf b pages
firsts_read a b pages reads are = record {
  noted = record {
    len = are.noted.len ∙ ap (λ (g : Geometry). g.blocks) (sym reads.lasts.geometry);
    good = λ k first at. good_first_read a b k first reads (are.noted.good k first at);
    noted = λ honest. subst (λ (f : Flash). AreFirstPages f pages.pages.items) (flash honest) (are.noted.noted (before honest));
  };
  above = λ honest. subst (λ n. AreAboveFirsts b.flash n (numbers_of pages.numbers)) (ap (λ (g : Geometry). g.blocks) (sym reads.lasts.geometry))
      (subst (λ (f : Flash). AreAboveFirsts f a.geometry.blocks (numbers_of pages.numbers)) (flash honest) (are.above (before honest)));
  least = λ honest. subst (λ (f : Flash). AreNoneAbove f (numbers_of pages.numbers)) (flash honest) (are.least (before honest));
  renewed = λ honest. subst (λ (f : Flash). pages.renewed ≢ 0 → BeginsRenewed f pages.renewed) (flash honest) (are.renewed (before honest));
  latest = λ honest. subst (λ n. IsRenewedBelow b.flash n pages.renewed) (ap (λ (g : Geometry). g.blocks) (sym reads.lasts.geometry))
      (subst (λ (f : Flash). IsRenewedBelow f a.geometry.blocks pages.renewed) (flash honest) (are.latest (before honest)));
} where
  before : b.honest ≡ true → a.honest ≡ true
  before honest = sym reads.lasts.honest ∙ honest

  flash : b.honest ≡ true → a.flash ≡ b.flash
  flash honest = sym (same_flash a b reads (before honest))
