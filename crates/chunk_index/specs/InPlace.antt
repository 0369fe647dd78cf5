-- What becomes of an entry in its place.
use Rattle.std.specs.Prelude.{ℕ, Bool, false, Option, is_none}
use Rattle.std.specs.Option.{option_map, option_map_or, unwrap_or}
use Rattle.chunk_index.specs.declared.form.WrittenGroup.{WrittenGroup}
use Rattle.chunk_index.specs.declared.entry.KeyEntry.{KeyEntry}
use Rattle.chunk_index.specs.declared.entry.State.{State}
use Rattle.chunk_index.specs.declared.entry.State.TheVariants as states
use Rattle.chunk_index.specs.Entries.{settled_by, with_state}

-- a key's entry in another state, where it has one
abbrev pub placed : State → Option KeyEntry → Option KeyEntry
placed s v = option_map (with_state s) v

-- the state once a page of the buffer is present: the one that is there stays, and else the one of this number is
abbrev pub buffered_state : ℕ → State → State
buffered_state n states.Same = states.Buffered n
buffered_state n (states.Buffered i) = states.Buffered i
buffered_state n states.Dropped = states.Buffered n
buffered_state n states.Vacant = states.Buffered n

-- an entry in that state
abbrev pub with_buffered : ℕ → KeyEntry → KeyEntry
with_buffered n e = with_state (buffered_state n e.state) e

-- a key's entry in that state, where it has one
abbrev pub buffered : ℕ → Option KeyEntry → Option KeyEntry
buffered n v = option_map (with_buffered n) v

-- the state of a key's entry; without one, what is present is what is committed
abbrev pub state_in : Option KeyEntry → State
state_in v = option_map_or (λ (e : KeyEntry). e.state) v states.Same

-- the entry goes once the pages of the buffer were written as this group
abbrev pub goes : WrittenGroup → KeyEntry → Bool
goes g e = is_none (settled_by g e e.state)

-- there is an entry, and it goes
abbrev pub goes_of : WrittenGroup → Option KeyEntry → Bool
goes_of g v = option_map_or (goes g) v false

-- what is in an entry's place once it was settled: what it becomes, or, until it is taken out, an entry that goes
abbrev pub left : WrittenGroup → KeyEntry → KeyEntry
left g e = unwrap_or (settled_by g e e.state) e

-- the same of a key that may have no entry
abbrev pub left_of : WrittenGroup → Option KeyEntry → Option KeyEntry
left_of g v = option_map (left g) v
