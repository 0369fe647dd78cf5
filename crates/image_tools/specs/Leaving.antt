-- What commands leave of a volume.
use Rattle.std.specs.Prelude.{Bool}
use Rattle.posix_profile.specs.State.{Objects, State}
use Rattle.volume_terms.specs.Sizes.{Sizes}

-- from each state that was shown, a state is shown
pub record GoesOn {V : Type 0} (shows : V → Sizes → Bool → State → Type 0) (old new : V) : Type 0 where
  pub shown : (z : Sizes) (read_only : Bool) (s : State) → shows old z read_only s → (t : State) × shows new z read_only t

-- from each state that was shown, a state is shown whose objects are so
abbrev pub Leaves : {V : Type 0} → (V → Sizes → Bool → State → Type 0) → V → V → (Objects → Type 0) → Type 0
Leaves shows old new are = (z : Sizes) (read_only : Bool) (s : State) → shows old z read_only s → (t : State) × are t.objects × shows new z read_only t
