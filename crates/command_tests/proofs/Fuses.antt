-- What a store with a fuse has inside, and what a call leaves of it where it is cut off.
use Rattle.std.specs.Prelude.{◌≡◌, ◌⊎◌, ℕ}
use Rattle.std.proofs.Common.{refl, sym, subst, inl, inr}
use Rattle.posix_profile.specs.State.{Objects}
use Rattle.object_store.specs.Stores.{Meaning, IsLawful, Has}
use Rattle.volume_terms.specs.Sizes.{Sizes}
use Rattle.command_tests.specs.Fuses.{IsLost, IsUnread, fused_meaning}

pub inner_has : {S T F : Type 0} (m : Meaning S) (inner : T → S) (calls : T → ℕ) (last : T → F) (is_done : F → Type 0) (z : Sizes) (objects : Objects) (a : T) → Has (fused_meaning m inner calls last is_done) z objects a → Has m z objects (inner a)
inner_has m inner calls last is_done z objects a has = record { numbers = has.numbers; sizes = has.sizes; represents = has.represents; forest = has.forest; fit = has.fit }

-- a call that is cut off before it
pub lost_before : {S : Type 0} (m : Meaning S) (law : IsLawful m) (calls : ℕ) (done : Type 0) (a b : S) (old new : Objects) → calls ≡ 0 → b ≡ a → IsLost m calls done old new a b
lost_before m law calls done a b old new spent same = record { spent = spent; now = old; either = inl refl; left = inl (subst (m.reads a) (sym same) (law.reads_nothing a)) }

-- a read that is cut off before it
pub unread_before : {S : Type 0} (m : Meaning S) (law : IsLawful m) (calls : ℕ) (a b : S) → calls ≡ 0 → b ≡ a → IsUnread m calls a b
unread_before m law calls a b spent same = record { reads = subst (m.reads a) (sym same) (law.reads_nothing a); failed = inl spent }

-- a call that is cut off after it is done, as its fate says
pub lost_after : {S : Type 0} (m : Meaning S) (calls : ℕ) (done : Type 0) (a b : S) (old new : Objects) → calls ≡ 0 → done → m.changes old new a b ⊎ m.commits old a b
    → IsLost m calls done old new a b
lost_after m calls done a b old new spent is left = record { spent = spent; now = new; either = inr refl; left = inr (is, left) }
