-- What is reported of two trees that are compared.
use Rattle.std.specs.Prelude.{◌≡◌, ◌↔◌, Bool, IsTrue}
use Rattle.std.specs.FinMap as map
use Rattle.posix_profile.specs.State.{Objects, State}
use Rattle.volume_terms.specs.Sizes.{Sizes}

-- from each state that is shown, with no descriptor open: these are its objects where it is so given, and else they are not; and the state is shown afterwards
abbrev pub ReportsSame : {V : Type 0} → (V → Sizes → Bool → State → Type 0) → V → V → Objects → Bool → Type 0
ReportsSame shows old new objects same =
    (z : Sizes) (read_only : Bool) (s : State) → shows old z read_only s → (s.handles ≡ map.empty → IsTrue same ↔ (objects ≡ s.objects)) × shows new z read_only s

-- these are the objects of each state that is shown, with no descriptor open; and the state is shown afterwards
abbrev pub ReportsObjects : {V : Type 0} → (V → Sizes → Bool → State → Type 0) → V → V → Objects → Type 0
ReportsObjects shows old new objects =
    (z : Sizes) (read_only : Bool) (s : State) → shows old z read_only s → (s.handles ≡ map.empty → objects ≡ s.objects) × shows new z read_only s
