use Rattle.std.proofs.Common.{◌≡◌, ◌∙◌, ap, sym, arith}
use Rattle.name_index.specs.Hashes.{fnv1a}
use Rattle.page_tags.specs.SlotEntry.{entry_of}
use Rattle.page_tags.specs.Slots.{Entry}
use Rattle.page_tags.specs.laws.Slot.{same_slot}
use Rattle.directories.proofs.Hashed.{more_added, held_as}
use Rattle.directories.proofs.Results.{on_done}
use Rattle.directories.proofs.naming.hash_slot.Goals as goal

pub returns-clause-committed : goal.returns-clause-committed
returns-clause-committed c = more_added c.args.directory c.name_hash.result _ c.args.names.now c.add.new.self c.add.result c.add.ensures.ok c.add.ensures.err

pub returns-clause-here : goal.returns-clause-here
returns-clause-here c = on_done _ _ c.add.result
    (λ adds e tree bytes small.
    let decoded = rw c.in-Some.is at c.decode_tree_slot.ensures.found in
    let same : entry_of c.in-Some.slot ≡ e = same_slot (entry_of c.in-Some.slot) e decoded.0.slot tree.slot (sym decoded.1 ∙ bytes) in
    let hash : c.name_hash.result ≡ fnv1a e.name = c.name_hash.ensures ∙ ap (λ (x : Entry). fnv1a x.name) same in
    held_as c.add.new.self c.args.directory c.name_hash.result _ adds.there (fnv1a e.name) c.args.number hash (omega (arith, small)))
    c.add.ensures.ok
