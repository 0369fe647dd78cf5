use Rattle.std.specs.Prelude.{◌≡◌, true, Result, Ok, Err, IfOk}
use Rattle.std.specs.declared.alloc.AllocError.{AllocError}
use Rattle.nand_model.specs.Calls.{Device}
use Rattle.flash_tree.specs.Newest.{Numbers, AreAbove}
use Rattle.flash_tree.specs.Places.{numbers_of}
use Rattle.block_state.specs.TableOf.{table}
use Rattle.block_state.specs.declared.blocks.Blocks.{Blocks}
use Rattle.transactions.specs.Marking.{IsMarked}
use Rattle.transactions.specs.Ready.{IsReady}
use Rattle.transactions.specs.laws.Ready.{made_ready}
use Rattle.transactions.proofs.table.table_of.Goals as goal

all_ready : (d : Device) (n : Numbers) (r : Result Blocks AllocError) → (d.honest ≡ true → AreAbove d.flash n) → IfOk r (λ blocks. IsMarked d n (table blocks)) → IfOk r (λ blocks. IsReady d (table blocks))
all_ready d n (Err e) above made = tt
all_ready d n (Ok blocks) above made = made_ready d n (table blocks) made above

pub returns-clause-can_write : goal.returns-clause-can_write
returns-clause-can_write g c = all_ready (g.N.Nand.state c.args.device.now) (numbers_of c.args.greatest) c.marked_table.result c.requires.above c.marked_table.ensures
