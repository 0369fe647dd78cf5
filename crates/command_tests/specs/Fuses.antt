-- What a store with a fuse represents.
use Rattle.std.specs.Prelude.{◌≡◌, ◌⊎◌, ◌<◌, ◌≤◌, ℕ}
use Rattle.posix_profile.specs.State.{Objects}
use Rattle.object_store.specs.Stores.{Meaning}

-- What the last call leaves: what a call leaves that only reads; one that is done may have made the change, or have
-- committed.
abbrev pub LeftBy : {S : Type 0} (m : Meaning S) → Type 0 → Objects → Objects → S → S → Type 0
LeftBy m done old now a b = m.reads a b ⊎ (done × (m.changes old now a b ⊎ m.commits old a b))

-- No call is left, and the last one was cut off: before it, or after it was done, if that is its fate.
pub record IsLost {S : Type 0} (m : Meaning S) (calls : ℕ) (done : Type 0) (old new : Objects) (a b : S) : Type 0 where
  pub spent : calls ≡ 0
  pub now : Objects
  pub either : (now ≡ old) ⊎ (now ≡ new)
  pub left : LeftBy m done old now a b

-- as many calls are left or fewer, and the fate of the last one stays
pub record Spends {T F : Type 0} (calls : T → ℕ) (last : T → F) (a b : T) : Type 0 where
  pub calls_fall : calls b ≤ calls a
  pub fate : last b ≡ last a

-- Calls that only read, of which the last was cut off or failed.
pub record IsUnread {S : Type 0} (m : Meaning S) (calls : ℕ) (a b : S) : Type 0 where
  pub reads : m.reads a b
  pub failed : (calls ≡ 0) ⊎ m.unread a b

-- A store as the one inside, with a count of its calls: one that changes or commits takes one of those that are left, and
-- the last one may be cut off, and is done if its fate says so.
abbrev pub fused_meaning : {S T F : Type 0} (m : Meaning S) (inner : T → S) (calls : T → ℕ) (last : T → F) (is_done : F → Type 0) → Meaning T
fused_meaning m inner calls last is_done = record {
  sizes = λ a. m.sizes (inner a);
  represents = λ a objects. m.represents (inner a) objects;
  shows = λ a tree. m.shows (inner a) tree;
  has_power = λ a. m.has_power (inner a);
  lasts = λ a b. m.lasts (inner a) (inner b) × Spends calls last a b;
  leaves = λ a b. m.leaves (inner a) (inner b);
  reads = λ a b. m.reads (inner a) (inner b) × Spends calls last a b;
  unread = λ a b. IsUnread m (calls b) (inner a) (inner b) × Spends calls last a b;
  changes = λ old new a b. m.changes old new (inner a) (inner b) × (calls b < calls a);
  fails = λ old new a b. IsLost m (calls b) (is_done (last b)) old new (inner a) (inner b) ⊎ m.fails old new (inner a) (inner b);
  commits = λ objects a b. m.commits objects (inner a) (inner b) × (calls b < calls a);
}
