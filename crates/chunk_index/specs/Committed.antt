-- Which keys are committed, in a block and in all.
use Rattle.std.specs.Prelude.{◌≡◌, ◌≢◌, ◌<◌, ℕ, List, length, slice_get, Option, Some, None}
use Rattle.chunk_index.specs.declared.form.CommittedPage.{CommittedPage}
use Rattle.chunk_index.specs.declared.form.CommittedKey.{CommittedKey}
use Rattle.flash_tree.specs.Places.{ComesBefore}
use Rattle.flash_tree.specs.declared.place.Key.{Key}
use Rattle.chunk_index.specs.Maps.{CommittedMap}

-- no key is committed in the block
abbrev pub HoldsNone : CommittedMap → ℕ → Type 0
HoldsNone m b = (o c : ℕ) (p : CommittedPage) → m o c ≡ Some p → p.block ≢ b

-- the key of one comes before that of another
abbrev pub Before : CommittedKey → CommittedKey → Type 0
Before j k = ComesBefore j.key.object j.key.chunk k.key.object k.key.chunk

-- the keys rise, so that no key comes twice
abbrev pub KeyRises : List CommittedKey → Type 0
KeyRises ks = (i j : ℕ) (k l : CommittedKey) → i < j → slice_get ks i ≡ Some k → slice_get ks j ≡ Some l → ComesBefore k.key.object k.key.chunk l.key.object l.key.chunk

-- The list has each committed key with its page, and no other, in rising order.
pub record IsListOf (m : CommittedMap) (ks : List CommittedKey) : Type 0 where
  pub each : (i : ℕ) (k : CommittedKey) → slice_get ks i ≡ Some k → m k.key.object k.key.chunk ≡ Some k.at
  pub all : (o c : ℕ) (p : CommittedPage) → m o c ≡ Some p → (i : ℕ) × (slice_get ks i ≡ Some (record { key = record { object = o; chunk = c }; at = p }))
  pub rise : KeyRises ks

-- so many keys are committed: there is a list of them of this length
abbrev pub HasCommitted : CommittedMap → ℕ → Type 0
HasCommitted m n = (ks : List CommittedKey) × IsListOf m ks × (length ks ≡ n)

-- the key of chunk c of object o comes after another, where there is one
abbrev pub IsAfterKey : ℕ → ℕ → Option Key → Type 0
IsAfterKey o c None = Unit {0}
IsAfterKey o c (Some k) = ComesBefore k.object k.chunk o c

-- the first committed key after another, or of all, with its page; with none, no key is committed after it
abbrev pub IsNextCommitted : CommittedMap → Option Key → Option CommittedKey → Type 0
IsNextCommitted m after None = (o c : ℕ) → IsAfterKey o c after → m o c ≡ None
IsNextCommitted m after (Some k) = (m k.key.object k.key.chunk ≡ Some k.at) × IsAfterKey k.key.object k.key.chunk after
    × ((o c : ℕ) → IsAfterKey o c after → ComesBefore o c k.key.object k.key.chunk → m o c ≡ None)
