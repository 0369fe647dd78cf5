use Rattle.std.proofs.Common.{Option, refl, ap, sym, subst, ◌∙◌, arith, inl}
use Rattle.nand_model.specs.Calls.{Device}
use Rattle.nand_model.specs.declared.geometry.Geometry.{Geometry}
use Rattle.block_state.specs.Table.{Table}
use Rattle.block_state.specs.TableOf.{table}
use Rattle.chunk_index.specs.declared.index.Index.{Index}
use Rattle.transactions.specs.Checking.{log_of}
use Rattle.flash_log.specs.Mountable.{IsMountableSince}
use Rattle.flash_log.specs.Snapshots.{Snapshot}
use Rattle.flash_log.specs.Consistency.{AreHeld, IsConsistentLog}
use Rattle.flash_log.specs.laws.Mountable.{mountable_on, mountable_seals}
use Rattle.flash_log.specs.laws.Room.{same_page}
use Rattle.flash_log.specs.laws.Moves.{are_held, lies_apart}
use Rattle.flash_log.specs.CheckpointKeeping.{KeepsPages}
use Rattle.flash_log.proofs.CheckpointKeeping.{keeps_on, keeps_taken, seals_from, seals_here}
use Rattle.flash_log.proofs.CheckpointListed.{can_list, list_committed, may_take, shows_after}
use Rattle.flash_log.proofs.log.Log.seal.Goals as goal

pub invariant_of-self-2-clause-consistent : goal.invariant_of-self-2-clause-consistent
invariant_of-self-2-clause-consistent g c =
    let d : Device = g.N.Nand.state c.args.self.now.device in
    let e : Device = g.N.Nand.state c.allocate_block.new.self.device in
    let t : Table = table c.args.self.now.blocks in
    let u : Table = table c.allocate_block.new.self.blocks in
    let x : Index = c.args.self.now.index in
    let k = c.allocate_block.ensures in
    let held : AreHeld t x = are_held t x (c.the_counts_are_of_the_keys.ensures.none x) c.args.self.now.consistent.tables.counts in
    let f : Device = g.N.Nand.state c.write_into.new.device in
    let v : Table = table c.write_into.new.blocks in
    let w = rw k.index at c.write_into.ensures in
    let takes = c.in_ok-block.ensures.ends.0 in
    let taken : KeepsPages (log_of d t) (log_of e u) = keeps_taken d e t u k.step.lasts k.step.can_write k.step.numbers k.passes in
    let keeps : KeepsPages (log_of d t) (log_of f v) = keeps_on (log_of d t) (log_of e u) (log_of f v) taken w.leaves.keeps in
    let seals = seals_from c.args.self.now.spare x d f t v held c.args.self.now.consistent keeps w.leaves.open_block
    (λ n is. keeps.committed n ∙ ap (λ b. (t.entry b).committed) (w.leaves.checkpoint n is) ∙ takes.uncommitted)
    (λ exact honest checked. w.leaves.checked (list_committed c.args.self.now.spare d t x c.args.self.now.can_write c.args.self.now.consistent held exact e u taken c.in_ok-block.ensures.ends.1) (k.step.lasts.honest ∙ honest) (k.step.numbers.truth.checked honest checked))
    (shows_after c.args.self.now.spare d t x c.args.self.now.can_write c.args.self.now.consistent held f v keeps) in
    subst (λ n. IsConsistentLog n f v c.allocate_block.new.self.index) (sym k.terms.spare) (subst (IsConsistentLog c.args.self.now.spare f v) (sym k.index) seals.consistent)

pub invariant_of-self-2-clause-mountable : goal.invariant_of-self-2-clause-mountable
invariant_of-self-2-clause-mountable g c =
    let d : Device = g.N.Nand.state c.args.self.now.device in
    let e : Device = g.N.Nand.state c.allocate_block.new.self.device in
    let t : Table = table c.args.self.now.blocks in
    let u : Table = table c.allocate_block.new.self.blocks in
    let x : Index = c.args.self.now.index in
    let k = c.allocate_block.ensures in
    let held : AreHeld t x = are_held t x (c.the_counts_are_of_the_keys.ensures.none x) c.args.self.now.consistent.tables.counts in
    let f : Device = g.N.Nand.state c.write_into.new.device in
    let v : Table = table c.write_into.new.blocks in
    let w = rw k.index at c.write_into.ensures in
    let takes = c.in_ok-block.ensures.ends.0 in
    let taken : KeepsPages (log_of d t) (log_of e u) = keeps_taken d e t u k.step.lasts k.step.can_write k.step.numbers k.passes in
    let keeps : KeepsPages (log_of d t) (log_of f v) = keeps_on (log_of d t) (log_of e u) (log_of f v) taken w.leaves.keeps in
    let seals = seals_from c.args.self.now.spare x d f t v held c.args.self.now.consistent keeps w.leaves.open_block
    (λ n is. keeps.committed n ∙ ap (λ b. (t.entry b).committed) (w.leaves.checkpoint n is) ∙ takes.uncommitted)
    (λ exact honest checked. w.leaves.checked (list_committed c.args.self.now.spare d t x c.args.self.now.can_write c.args.self.now.consistent held exact e u taken c.in_ok-block.ensures.ends.1) (k.step.lasts.honest ∙ honest) (k.step.numbers.truth.checked honest checked))
    (shows_after c.args.self.now.spare d t x c.args.self.now.can_write c.args.self.now.consistent held f v keeps) in
    let now = mountable_on c.args.self.now.origin.first (log_of d t) (log_of f v) x x seals.keeps.lasts (mountable_seals c.args.self.now.spare x (log_of d t) (log_of f v) seals) c.args.self.now.mountable in
    subst (λ (b : Option Snapshot). IsMountableSince b (log_of f v) c.allocate_block.new.self.index) (sym k.terms.first) (subst (IsMountableSince c.args.self.now.origin.first (log_of f v)) (sym k.index) now)

pub invariant_of-self-2-clause-can_write : goal.invariant_of-self-2-clause-can_write
invariant_of-self-2-clause-can_write g c = c.write_into.ensures.leaves.keeps.can_write

pub invariant_of-self-2-clause-room_size : goal.invariant_of-self-2-clause-room_size
invariant_of-self-2-clause-room_size g c =
    let size = c.allocate_block.new.self.room_size in
    let geometry = c.write_into.ensures.leaves.keeps.lasts.geometry in
    record {
      copies = let pages = ap (λ (z : Geometry). z.pages) geometry in omega (arith, size.copies, pages);
      entries = let pages = ap (λ (z : Geometry). z.pages) geometry in omega (arith, size.entries, pages);
      scratch = let bytes = ap (λ (z : Geometry). z.bytes) geometry in same_page c.allocate_block.new.self.room.scratch.len c.write_into.new.scratch _ (omega arith) ∙ omega (arith, size.scratch, bytes);
    }

pub returns-in_default-clause-seals : goal.returns-in_default-clause-seals
returns-in_default-clause-seals g c = seals_here c.args.self.now.spare c.args.self.now.index (g.N.Nand.state c.args.self.now.device) (table c.args.self.now.blocks) c.args.self.now.can_write c.args.self.now.consistent

pub returns-in_default-clause-ends : goal.returns-in_default-clause-ends
returns-in_default-clause-ends g c = inl (c.in_default.ensures.none, refl)

pub returns-in_err-block-clause-seals : goal.returns-in_err-block-clause-seals
returns-in_err-block-clause-seals g c =
    let d : Device = g.N.Nand.state c.args.self.now.device in
    let e : Device = g.N.Nand.state c.allocate_block.new.self.device in
    let t : Table = table c.args.self.now.blocks in
    let u : Table = table c.allocate_block.new.self.blocks in
    let x : Index = c.args.self.now.index in
    let k = c.allocate_block.ensures in
    let held : AreHeld t x = are_held t x (c.the_counts_are_of_the_keys.ensures.none x) c.args.self.now.consistent.tables.counts in
    let none = c.in_err-block.ensures.ends.0 in
    let keeps : KeepsPages (log_of d t) (log_of e u) = keeps_taken d e t u k.step.lasts k.step.can_write k.step.numbers k.passes in
    seals_from c.args.self.now.spare x d e t u held c.args.self.now.consistent keeps none.open_block
    (lies_apart t u k.step.numbers.truth.noted k.passes.committed c.args.self.now.consistent.tables.apart) (λ _. k.step.numbers.truth.checked)
    (shows_after c.args.self.now.spare d t x c.args.self.now.can_write c.args.self.now.consistent held e u keeps)

pub write_into-requires-clause-list : goal.write_into-requires-clause-list
write_into-requires-clause-list g c =
    let d : Device = g.N.Nand.state c.args.self.now.device in
    let e : Device = g.N.Nand.state c.allocate_block.new.self.device in
    let t : Table = table c.args.self.now.blocks in
    let u : Table = table c.allocate_block.new.self.blocks in
    let x : Index = c.args.self.now.index in
    let k = c.allocate_block.ensures in
    let held : AreHeld t x = are_held t x (c.the_counts_are_of_the_keys.ensures.none x) c.args.self.now.consistent.tables.counts in
    let extent = c.in-Some.ensures.extent in
    rw k.index (can_list c.args.self.now.spare d t x c.args.self.now.can_write c.args.self.now.consistent e u _ (c.the_counts_add_up_to_the_committed_keys.ensures.all t x c.args.self.now.consistent.tables.counts)
    (c.the_counts_add_up_to_the_committed_keys.ensures.one _) k.step.lasts k.step.can_write c.in-Some.ensures.due refl (c.geometry.ensures ∙ k.step.can_write.geometry) extent.entries extent.pages)

pub write_into-requires-clause-take : goal.write_into-requires-clause-take
write_into-requires-clause-take g c =
    let d : Device = g.N.Nand.state c.args.self.now.device in
    let e : Device = g.N.Nand.state c.allocate_block.new.self.device in
    let t : Table = table c.args.self.now.blocks in
    let u : Table = table c.allocate_block.new.self.blocks in
    let x : Index = c.args.self.now.index in
    let k = c.allocate_block.ensures in
    let held : AreHeld t x = are_held t x (c.the_counts_are_of_the_keys.ensures.none x) c.args.self.now.consistent.tables.counts in
    let ends = c.in_ok-block.ensures.ends in
    rw k.index (may_take c.args.self.now.spare d t x c.args.self.now.can_write c.args.self.now.consistent held e u c.in_ok-block.block k.step.can_write k.passes (keeps_taken d e t u k.step.lasts k.step.can_write k.step.numbers k.passes) ends.0 ends.1)

pub returns-clause-seals : goal.returns-clause-seals
returns-clause-seals g c =
    let d : Device = g.N.Nand.state c.args.self.now.device in
    let e : Device = g.N.Nand.state c.allocate_block.new.self.device in
    let t : Table = table c.args.self.now.blocks in
    let u : Table = table c.allocate_block.new.self.blocks in
    let x : Index = c.args.self.now.index in
    let k = c.allocate_block.ensures in
    let held : AreHeld t x = are_held t x (c.the_counts_are_of_the_keys.ensures.none x) c.args.self.now.consistent.tables.counts in
    let f : Device = g.N.Nand.state c.write_into.new.device in
    let v : Table = table c.write_into.new.blocks in
    let w = rw k.index at c.write_into.ensures in
    let takes = c.in_ok-block.ensures.ends.0 in
    let taken : KeepsPages (log_of d t) (log_of e u) = keeps_taken d e t u k.step.lasts k.step.can_write k.step.numbers k.passes in
    let keeps : KeepsPages (log_of d t) (log_of f v) = keeps_on (log_of d t) (log_of e u) (log_of f v) taken w.leaves.keeps in
    seals_from c.args.self.now.spare x d f t v held c.args.self.now.consistent keeps w.leaves.open_block
    (λ n is. keeps.committed n ∙ ap (λ b. (t.entry b).committed) (w.leaves.checkpoint n is) ∙ takes.uncommitted)
    (λ exact honest checked. w.leaves.checked (list_committed c.args.self.now.spare d t x c.args.self.now.can_write c.args.self.now.consistent held exact e u taken c.in_ok-block.ensures.ends.1) (k.step.lasts.honest ∙ honest) (k.step.numbers.truth.checked honest checked))
    (shows_after c.args.self.now.spare d t x c.args.self.now.can_write c.args.self.now.consistent held f v keeps)
