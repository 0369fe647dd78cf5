-- What a scan committed is carried.
use Rattle.std.specs.Prelude.{◌≡◌, ◌↔◌, ◌<◌, ◌^◌, ℕ, List, Some}
use Rattle.std.proofs.Common.{sym, ap, subst, ◌∙◌}
use Rattle.nand_model.specs.Calls.{Device}
use Rattle.flash_tree.specs.Newest.{HasNewest}
use Rattle.chunk_index.specs.declared.index.Index.{Index}
use Rattle.page_store.specs.Shown.{committed_data}
use Rattle.pages.specs.Stores.{Carries}

-- by another name of the device and of the index
pub carries_newest : (d e : Device) (x y : Index) → e ≡ d → y ≡ x → ((o c : ℕ) (xs : List ℕ) → (committed_data x d.flash o c ≡ Some xs) ↔ (HasNewest d.flash o c xs × (c < 2 ^ 32)))
    → Carries e.flash (committed_data y e.flash)
carries_newest d e x y device index newest o c xs is =
    subst (λ (a : Device). HasNewest a.flash o c xs) (sym device)
    ((newest o c xs).0 (sym (ap (λ (a : Device). committed_data x a.flash o c) device) ∙ (sym (ap (λ i. committed_data i e.flash o c) index) ∙ is))).0
