-- There is at most one proof that pages are committed, so that a store can hold it as a fact.
use Rattle.std.specs.Prelude.{◌≡◌, ℕ, Bool, true, false, List}
use Rattle.std.proofs.Common.{ap}
use mathlib.Core.HLevel.{Σ_prop_path}
use denote.Struct.Props.{props}
use Rattle.nand_model.specs.Flash.{Flash, Written}
use Rattle.page_tags.specs.Tags.{tag_bytes}
use Rattle.flash_tree.specs.Newest.{Spot, IsNewest, HasNewest}
use Rattle.flash_tree.specs.laws.Newest.{one_spot}
use Rattle.chunk_index.specs.Maps.{CommittedMap}
use Rattle.flash_log.specs.Consistency.{AreCommitted}
use Rattle.flash_log.specs.laws.OneProof.{are_committed_prop, newest_prop}
use Rattle.pages.specs.Maps.{PageMap}
use Rattle.pages.specs.Stores.{Carries}

abbrev with_from : (f : Flash) (o c : ℕ) (xs : List ℕ) → (s : Spot) × (IsNewest f o c s × (f.page s.block s.page ≡ Written xs (tag_bytes s.tag))) → HasNewest f o c xs
with_from f o c xs s = record { spot = s.0; newest = s.1.0; stored = s.1.1 }

with_prop : (f : Flash) (o c : ℕ) (xs : List ℕ) → IsProp (HasNewest f o c xs)
with_prop f o c xs x y =
    ap (with_from f o c xs) (Σ_prop_path (λ (s : Spot). Prim.hlevel (props, newest_prop f o c s))
    {u = (x.spot, (x.newest, x.stored))} {v = (y.spot, (y.newest, y.stored))} (one_spot f o c x.spot y.spot x.newest y.newest))

pub carries_prop : (f : Flash) (m : PageMap) → IsProp (Carries f m)
carries_prop f m x y = λ k o c xs is. with_prop f o c xs (x o c xs is) (y o c xs is) k

-- where no commit failed, and of an honest device
pub newest_committed_prop : (broken honest : Bool) (f : Flash) (m : CommittedMap) → IsProp (broken ≡ false → honest ≡ true → AreCommitted f m)
newest_committed_prop broken honest f m x y = λ k whole reported. are_committed_prop f m (x whole reported) (y whole reported) k
