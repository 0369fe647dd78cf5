use Rattle.block_state.specs.TableOf.{table}
use Rattle.page_store.proofs.Noting.{Noted}
use Rattle.page_store.proofs.first_pages.note_firsts.Given as goal

abbrev pub invariant-loop-block : goal.invariant-loop-block
invariant-loop-block l = Noted l.firsts l.block (table l.fn.blocks) (table l.blocks)
