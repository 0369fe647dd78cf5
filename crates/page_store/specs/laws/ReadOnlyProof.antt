-- There is at most one proof that an honest device has what the pages hold, so that it can be held as a fact.
use Rattle.page_store.specs.laws.OneProof.{carries_prop}
use Rattle.pages.specs.State.{PagesState}
use Rattle.page_store.specs.ReadOnly.{IsCarrying}

pub carrying_prop : (p : PagesState) → IsProp (IsCarrying p)
carrying_prop p x y = λ k honest. carries_prop p.device.flash p.present (x honest) (y honest) k
