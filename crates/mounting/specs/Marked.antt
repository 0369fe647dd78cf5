-- Blocks as their device marks them.
use Rattle.std.specs.Prelude.{ℕ, ◌≤◌}
use Rattle.nand_model.specs.Flash.{Flash}
use Rattle.block_state.specs.Table.{Table}

-- the table with the marks of the flash
abbrev pub marked : Flash → Table → Table
marked flash t = record {
  geometry = t.geometry;
  entry = λ b. record (t.entry b) { bad = flash.bad b };
  open_block = t.open_block;
  checkpoint = t.checkpoint;
  next_seq = t.next_seq;
  next_group = t.next_group;
}

-- no block has more committed pages than it has pages
abbrev pub AreFitting : Table → Type 0
AreFitting t = (b : ℕ) → (t.entry b).committed ≤ t.geometry.pages
