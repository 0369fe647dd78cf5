-- What the table of a program represents.
use Rattle.block_state.specs.Table.{Table, entry_at}
use Rattle.block_state.specs.declared.blocks.Blocks.{Blocks}

abbrev pub table : Blocks → Table
table x = record { geometry = x.geometry; entry = entry_at x.entries.items; open_block = x.open_block; checkpoint = x.checkpoint; next_seq = x.next_seq; next_group = x.next_group }
