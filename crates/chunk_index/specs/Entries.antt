-- What the entries of an index tell.
use Rattle.std.specs.Prelude.{◌≡◌, ◌≢◌, ◌<◌, ◌^◌, ℕ, ◌+◌, List, if◌then◌else◌, ◌==◌, Bool, true, false, Option, Some, None, IfSome}
use Rattle.std.specs.Option.{option_map_or, option_and_then}
use Rattle.std.specs.List.{sum_by}
use Rattle.chunk_index.specs.Lists.{find_by}
use Rattle.chunk_index.specs.declared.form.CommittedPage.{CommittedPage}
use Rattle.chunk_index.specs.declared.form.Form.{Form}
use Rattle.chunk_index.specs.declared.form.Form.TheVariants as forms
use Rattle.chunk_index.specs.declared.form.Present.{Present}
use Rattle.chunk_index.specs.declared.form.Present.TheVariants as presents
use Rattle.chunk_index.specs.declared.form.WrittenGroup.{WrittenGroup}
use Rattle.chunk_index.specs.declared.entry.KeyEntry.{KeyEntry}
use Rattle.chunk_index.specs.declared.entry.State.{State}
use Rattle.chunk_index.specs.declared.entry.State.TheVariants as states

-- the chunk of an entry
abbrev pub chunk : KeyEntry → ℕ
chunk e = e.chunk

-- the page is where it is committed, if it is committed
abbrev pub as_committed : Option CommittedPage → Present
as_committed None = presents.Absent
as_committed (Some p) = presents.OnFlash p

-- the present page, by the committed one and the state
abbrev pub present_by : Option CommittedPage → State → Present
present_by p states.Same = as_committed p
present_by p (states.Buffered i) = presents.InBuffer i
present_by p states.Dropped = presents.Absent
present_by p states.Vacant = presents.Absent

-- the present page of a form
abbrev pub shown_by : Form → Present
shown_by (forms.Buffered i) = presents.InBuffer i
shown_by forms.Dropped = presents.Absent

-- the state that a form gives an entry
abbrev pub state_of : Form → State
state_of (forms.Buffered i) = states.Buffered i
state_of forms.Dropped = states.Dropped

-- what is present is what is committed
abbrev pub is_same_state : State → Bool
is_same_state states.Same = true
is_same_state (states.Buffered i) = false
is_same_state states.Dropped = false
is_same_state states.Vacant = false

abbrev pub is_same : KeyEntry → Bool
is_same e = is_same_state e.state

-- the entry stays when the changes are settled
abbrev pub stays_state : State → Bool
stays_state states.Same = true
stays_state (states.Buffered i) = true
stays_state states.Dropped = false
stays_state states.Vacant = true

-- the committed page that an entry reports; no entry holds none
abbrev pub committed_of : Option KeyEntry → Option CommittedPage
committed_of m = option_and_then (λ (e : KeyEntry). e.committed) m

-- the present page that an entry reports; no entry holds none
abbrev pub present_of : Option KeyEntry → Present
present_of None = presents.Absent
present_of (Some e) = present_by e.committed e.state

-- there is an entry, and it stays when the changes are settled
abbrev pub stays_of : Option KeyEntry → Bool
stays_of m = option_map_or (λ (e : KeyEntry). stays_state e.state) m false

-- what is present is what is committed; so it is without an entry
abbrev pub same_of : Option KeyEntry → Bool
same_of m = option_map_or is_same m true

-- the entry of a chunk whose present page is the committed one
abbrev pub committed_at : ℕ → Option CommittedPage → KeyEntry
committed_at c p = record { chunk = c; committed = p; state = states.Same }

-- an entry in another state
abbrev pub with_state : State → KeyEntry → KeyEntry
with_state s e = record e { state = s }

-- an entry with another committed page
abbrev pub with_committed : Option CommittedPage → KeyEntry → KeyEntry
with_committed p e = record e { committed = p }

-- the page of number i of a group that was written
abbrev pub written_page : WrittenGroup → ℕ → CommittedPage
written_page g i = record { block = g.block; page = g.first + i; version = g.number }

-- what an entry becomes once the pages of the buffer were written as this group; a dropped one goes
abbrev pub settled_by : WrittenGroup → KeyEntry → State → Option KeyEntry
settled_by g e states.Same = Some e
settled_by g e (states.Buffered i) = Some (record e { committed = Some (written_page g i); state = states.Same })
settled_by g e states.Dropped = None
settled_by g e states.Vacant = Some (record e { committed = None; state = states.Same })

abbrev pub settled : WrittenGroup → Option KeyEntry → Option KeyEntry
settled g m = option_and_then (λ e. settled_by g e e.state) m

-- 1 for the block that a page is committed in, and 0 for each other
abbrev pub one_at : Option CommittedPage → ℕ → ℕ
one_at p b = option_map_or (λ q. if q.block == b then 1 else 0) p 0

-- 1 for the block that an entry's page is committed in, and 0 for each other
abbrev pub counted_at : ℕ → KeyEntry → ℕ
counted_at b e = one_at e.committed b

-- what an entry adds; no entry adds nothing
abbrev pub weight : (KeyEntry → ℕ) → Option KeyEntry → ℕ
weight f m = option_map_or f m 0

-- what all entries of an object add
abbrev pub weigh : (KeyEntry → ℕ) → List KeyEntry → ℕ
weigh f es = sum_by f es

-- A chunk has this entry, or none, and no other chunk's entry changes; sums over the entries follow.
pub record Alters (c : ℕ) (to : Option KeyEntry) (old new : List KeyEntry) : Type 0 where
  pub here : find_by chunk new c ≡ to
  pub others : (l : ℕ) → l ≢ c → find_by chunk new l ≡ find_by chunk old l
  pub weighs : (f : KeyEntry → ℕ) → weigh f new + weight f (find_by chunk old c) ≡ weigh f old + weight f to

-- each page of the buffer has a page of 8 bits on the flash, from the group's first on, as each page of a block has
abbrev pub HasPage : WrittenGroup → State → Type 0
HasPage g (states.Buffered i) = g.first + i < 256
HasPage g states.Same = Unit {0}
HasPage g states.Dropped = Unit {0}
HasPage g states.Vacant = Unit {0}

-- a committed page lies in a block below 65535 at a page of 8 bits, as each page of a device does
abbrev pub IsSmallPage : Option CommittedPage → Type 0
IsSmallPage p = IfSome p (λ (q : CommittedPage). (q.block < 65535) × (q.page < 256))

-- a page of the buffer has a number below 253, as each of a quarter of a block does
abbrev pub IsSmallState : State → Type 0
IsSmallState (states.Buffered i) = i < 253
IsSmallState states.Same = Unit {0}
IsSmallState states.Dropped = Unit {0}
IsSmallState states.Vacant = Unit {0}

-- the entry has room in 16 bytes: its committed page and its state are small, and its chunk is one that a tree may look up
pub record IsSmall (e : KeyEntry) : Type 0 where
  pub page : IsSmallPage e.committed
  pub state : IsSmallState e.state
  pub low : e.chunk < 2 ^ 32
