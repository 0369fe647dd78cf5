-- Pages that are only read are given up as they are.
use Rattle.std.specs.Prelude.{◌≡◌, ℕ, Bool, None, Ok}
use Rattle.std.proofs.Common.{refl, sym, inl}
use Rattle.nand_model.specs.Calls.{Device}
use Rattle.flash_tree.specs.Newest.{Numbers}
use Rattle.pages.specs.State.{PagesState}
use Rattle.page_store.specs.Sealing.{IsSealed}
use Rattle.page_store.specs.laws.Sealing.{ends_going}
use Rattle.page_store.specs.ReadOnly.{IsWorn, HasGreatest, IsCarrying, only_read}
use Rattle.page_store.proofs.Keeping.{goes_on, keeps_all}

pub sealed_reading : (p : PagesState) (n : Numbers) (spare most : ℕ) (refused_change : Bool) (device : Device) → IsWorn p.device n spare → HasGreatest p.device n → IsCarrying p → p.first ≡ None → device ≡ p.device
    → IsSealed ⊥ (only_read p n spare most refused_change) device (Ok tt)
sealed_reading p n spare most refused_change device worn greatest carrying first same = record {
  pages = only_read p n spare most refused_change;
  device_is = sym same;
  ends_on = ends_going (only_read p n spare most refused_change) (only_read p n spare most refused_change) (goes_on p n spare most refused_change refused_change);
  checked = λ _ honest was. was;
  committed = λ sound. keeps_all p n spare most refused_change worn greatest carrying first;
  within_limit = λ was. was;
  ends = inl (λ due. due, record { present = λ o c. refl; committed = λ o c. refl; sound = refl; device = refl; next = refl; checkpoint = refl; first = refl });
}
