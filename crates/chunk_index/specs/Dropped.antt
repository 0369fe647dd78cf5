-- Entries of which nothing is present any more.
use Rattle.std.specs.Prelude.{◌≡◌, ◌≢◌, ℕ, nat_lt, if◌then◌else◌, Option}
use Rattle.std.specs.Option.{option_map, option_map_or}
use Rattle.chunk_index.specs.declared.form.CommittedPage.{CommittedPage}
use Rattle.chunk_index.specs.declared.entry.KeyEntry.{KeyEntry}
use Rattle.chunk_index.specs.declared.entry.State.{State}
use Rattle.chunk_index.specs.declared.entry.State.TheVariants as states
use Rattle.chunk_index.specs.Entries.{chunk, with_state}
use Rattle.chunk_index.specs.Shelves.{ObjectMap, look, total}

-- the state once nothing is present any more, by the committed page: where nothing was present, it stays
abbrev pub dropped_state : State → Option CommittedPage → State
dropped_state states.Same p = option_map_or (λ (q : CommittedPage). states.Dropped) p states.Same
dropped_state (states.Buffered i) p = states.Dropped
dropped_state states.Dropped p = states.Dropped
dropped_state states.Vacant p = states.Vacant

-- the entry of which nothing is present any more
abbrev pub dropped : KeyEntry → KeyEntry
dropped e = with_state (dropped_state e.state e.committed) e

-- the same where its chunk is the number or behind it
abbrev pub dropped_from : ℕ → KeyEntry → KeyEntry
dropped_from n e = if nat_lt (chunk e) n then e else dropped e

-- Nothing is present of an object from a chunk on, and no other key's entry changes; a sum of what a dropped entry keeps stays.
pub record DropsFrom (o from : ℕ) (old new : ObjectMap) : Type 0 where
  pub here : (c : ℕ) → look new o c ≡ option_map (dropped_from from) (look old o c)
  pub others : (k c : ℕ) → k ≢ o → look new k c ≡ look old k c
  pub weighs : (f : KeyEntry → ℕ) → ((e : KeyEntry) → f (dropped e) ≡ f e) → total f new ≡ total f old
