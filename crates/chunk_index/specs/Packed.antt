-- What a packed entry means.
use Rattle.std.specs.Prelude.{ℕ, ◌==◌, if◌then◌else◌, Option, Some, None}
use Rattle.chunk_index.specs.declared.form.CommittedPage.{CommittedPage}
use Rattle.chunk_index.specs.declared.entry.State.{State}
use Rattle.chunk_index.specs.declared.entry.State.TheVariants as states
use Rattle.chunk_index.specs.declared.entry.KeyEntry.{KeyEntry}
use Rattle.chunk_index.specs.declared.packed.PackedEntry.TheInside.{Inside}

-- the page, if it is in a block
abbrev pub committed_from : CommittedPage → Option CommittedPage
committed_from p = if p.block == 65535 then None else Some p

-- the state that has the number
abbrev pub state_from : ℕ → State
state_from n = if n == 255 then states.Same else (if n == 254 then states.Dropped else (if n == 253 then states.Vacant else states.Buffered n))

-- the entry that is packed
abbrev pub unpacked : Inside → KeyEntry
unpacked a = record {
  chunk = a.chunk;
  committed = committed_from (record { block = a.block; page = a.page; version = a.version });
  state = state_from a.number;
}
