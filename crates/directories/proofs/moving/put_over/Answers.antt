use Rattle.std.proofs.Common.{◌≡◌, ◌⊎◌, ◌<◌, ◌≤◌, ◌-◌, ◌∙◌, ℕ, None, Some, refl, sym, subst, inl, inr, arith}
use Rattle.std.proofs.lemmas.Result.{err_from_is_err_and}
use Rattle.page_tags.specs.SlotEntry.{entry_of}
use Rattle.page_tags.specs.Slots.{Entry}
use Rattle.volume_terms.specs.Sizes.{page_slots}
use Rattle.pages.specs.laws.Faults.{lacks_memory}
use Rattle.pages.specs.Maps.{PageMap, after_change}
use Rattle.pages.specs.State.{PagesState}
use Rattle.directories.specs.Directories.{SlotOf}
use Rattle.directories.specs.Slots.{AreSlots}
use Rattle.directories.specs.Stores.{ObjectIn}
use Rattle.directories.specs.Writes.{WritesIn}
use Rattle.directories.specs.declared.writing.Writing.{Writing}
use Rattle.directories.specs.declared.writing.Written.{Written}
use Rattle.directories.proofs.PageCounts.{committed_behind}
use Rattle.directories.proofs.Results.{on_ok}
use Rattle.directories.proofs.Written.{alone_below, both_below, bytes_slot, moved_alone, moved_both, slot_of_bytes}
use Rattle.directories.proofs.moving.put_over.Goals as goal
use Rattle.directories.proofs.moving.put_over.Goals.{then-moving-last-via-then-moving-last, then-moving-last-via-else-moving-last+then-moving-put}

pub returns-then-moving-last-clause-moves : goal.returns-then-moving-last-clause-moves
returns-then-moving-last-clause-moves g c = λ sound z size.
    let old : PagesState = g.P.Pages.state c.args.pages.now in
    let it : ObjectIn = record { sizes = z; pages = old.present; object = c.args.directory } in
    let one : (c.args.moving.place ≡ c.args.moving.before - 1) ⊎ (c.args.moving.place ≡ c.args.put.number) = elim c.then-moving-last.branch [
      | then-moving-last-via-then-moving-last w ↦ inl (omega (arith, w.if-moving-last.true))
      | then-moving-last-via-else-moving-last+then-moving-put w ↦ inr (omega (arith, w.if-moving-put.true))
    ] in
    on_ok _ _ c.write.result (λ change w. moved_alone it c.args.moving c.args.put c.args.head change c.requires.counts one w) (c.write.ensures.writes sound z size)

pub returns-then-moving-last-clause-pages : goal.returns-then-moving-last-clause-pages
returns-then-moving-last-clause-pages g c = λ sound z size m.
    let low = (g.met.P.Pages.sized c.args.pages.now).0 in
    let some : 1 ≤ page_slots z = omega (arith, low, size) in
    let count : ℕ = c.args.head.length in
    let writing : Writing = record { first = c.args.put; second = None; before = c.args.moving.before; afterwards = count } in
    on_ok _ _ c.write.result
    (λ change w. committed_behind z m (after_change change m) c.args.directory writing count some (alone_below writing count c.requires.there refl) (w.others m))
    (c.write.ensures.pages sound z size)

pub returns-in_err-bytes-clause-fault : goal.returns-in_err-bytes-clause-fault
returns-in_err-bytes-clause-fault g c = λ sound z size are.
    let s = are (c.args.moving.before - 1) (omega arith) (omega (arith, c.requires.within)) in
    let p = err_from_is_err_and c.from_residual.result c.from_residual.ensures.1 in
    rw (p.1, p.2) (lacks_memory (g.P.Pages.state c.args.pages.now) (g.P.Pages.state c.slot_bytes.new.pages) _ (c.in_err-bytes.ensures.fault sound z size s.0 s.1))

pub returns-in_default-clause-fault : goal.returns-in_default-clause-fault
returns-in_default-clause-fault g c = λ sound z size are.
    let old : PagesState = g.P.Pages.state c.args.pages.now in
    let last : ℕ = c.args.moving.before - 1 in
    let s = are last (omega arith) (omega (arith, c.requires.within)) in
    let none = rw c.in_default.is at c.decode_tree_slot.ensures.none in
    none s.0 s.1.2 (bytes_slot z old.present c.args.directory last c.in_ok-bytes.bytes s.0 (c.in_ok-bytes.ensures.reported sound z size) s.1)

pub returns-clause-moves : goal.returns-clause-moves
returns-clause-moves g c = λ sound z size.
    let old : PagesState = g.P.Pages.state c.args.pages.now in
    let lookups = c.slot_bytes.ensures.lookups in
    let o : ℕ = c.args.directory in
    let moving = c.args.moving in
    let last : ℕ = moving.before - 1 in
    let found = rw c.in-Some.is at c.decode_tree_slot.ensures.found in
    let first : Written = record { number = moving.place; slot = c.in-Some.slot } in
    let e : Entry = entry_of c.in-Some.slot in
    let there : SlotOf z old.present o last e = slot_of_bytes z old.present o last c.in_ok-bytes.bytes e (c.in_ok-bytes.ensures.reported sound z size) found.0 found.1 in
    let writing : Writing = record { first = first; second = Some c.args.put; before = moving.before; afterwards = c.args.head.length } in
    on_ok _ _ c.write-2.result
    (λ change w.
    let here = subst (λ (k : PageMap). WritesIn (record { sizes = z; pages = k; object = o }) writing c.args.head change) lookups.present w in
    moved_both (record { sizes = z; pages = old.present; object = o }) moving c.args.put c.args.head change c.requires.counts first refl there here)
    (c.write-2.ensures.writes (lookups.sound ∙ sound) z (size ∙ sym lookups.page_bytes))

pub returns-clause-pages : goal.returns-clause-pages
returns-clause-pages g c = λ sound z size m.
    let lookups = c.slot_bytes.ensures.lookups in
    let low = (g.met.P.Pages.sized c.args.pages.now).0 in
    let some : 1 ≤ page_slots z = omega (arith, low, size) in
    let count : ℕ = c.args.head.length in
    let moving = c.args.moving in
    let writing : Writing = record { first = record { number = moving.place; slot = c.in-Some.slot }; second = Some c.args.put; before = moving.before; afterwards = count } in
    let less : moving.place < count = omega (arith, c.if-moving-last.false, c.requires.within, c.requires.counts) in
    on_ok _ _ c.write-2.result
    (λ change w. committed_behind z m (after_change change m) c.args.directory writing count some (both_below writing count c.args.put less refl c.requires.there) (w.others m))
    (c.write-2.ensures.pages (lookups.sound ∙ sound) z (size ∙ sym lookups.page_bytes))

pub returns-clause-fault : goal.returns-clause-fault
returns-clause-fault g c = λ sound z size are.
    let lookups = c.slot_bytes.ensures.lookups in
    c.write-2.ensures.fault (lookups.sound ∙ sound) z (size ∙ sym lookups.page_bytes)
    (subst (λ (k : PageMap). AreSlots (SlotOf z k c.args.directory) 0 c.args.moving.before) (sym lookups.present) are)
