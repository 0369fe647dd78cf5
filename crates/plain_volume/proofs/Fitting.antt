-- What goes makes no more room taken, and who names a directory.
use Rattle.std.specs.Prelude.{◌≡◌, ℕ, true, false, Some, None}
use Rattle.std.proofs.Common.{sym, ◌∙◌, arith, inl, inr}
use Rattle.std.proofs.lemmas.Bool.{true≢false}
use Rattle.std.specs.Cmp.{nat_cmp_total}
use Rattle.std.specs.FinMap as map
use Rattle.volume_terms.specs.Sizes.{Sizes}
use Rattle.posix_profile.specs.Charge.{cost, fits}
use Rattle.posix_profile.specs.Names.{parent, is_named}
use Rattle.posix_profile.specs.State.{Objects}
use Rattle.posix_profile.specs.laws.Charge.{fits_less}
use Rattle.posix_profile.specs.laws.Map.{remove_cases}
use Rattle.posix_profile.specs.laws.Name.{named_from_test, test_from_named, parent_cases}
use Rattle.posix_profile.specs.laws.Total.{total_le}
use Rattle.object_store.specs.Facts.{NamedBy}

pub forget_fits : (z : Sizes) (objects : Objects) (o : ℕ) → fits z objects ≡ true → fits z (map.remove objects o) ≡ true
forget_fits z objects o fit = fits_less z objects (map.remove objects o)
    (total_le nat_cmp_total map.nat_cmp-IsAntisymmetric (cost z) (map.remove objects o) objects (λ k x is.
    (x, (remove_cases nat_cmp_total map.nat_cmp-IsAntisymmetric objects o k x is).1, omega arith))) fit

pub named_by : (objects : Objects) (o : ℕ) → is_named objects o ≡ true → NamedBy objects o (Some (parent objects o))
named_by objects o is = elim (parent_cases objects o) [
  | inl named ↦ named
  | inr none ↦ absurd (none.1 (named_from_test objects o is))
]

pub named_none : (objects : Objects) (o : ℕ) → is_named objects o ≡ false → NamedBy objects o None
named_none objects o is = λ named. true≢false (sym (test_from_named objects o named) ∙ is)
