use Rattle.std.proofs.Common.{◌≤◌, ◌+◌, ◌∙◌, ℕ, None, refl, sym, subst, inl, arith}
use Rattle.std.proofs.lemmas.Result.{err_from_is_err_and}
use Rattle.page_tags.specs.SlotEntry.{entry_of}
use Rattle.page_tags.specs.Slots.{Entry}
use Rattle.pages.specs.laws.Faults.{lacks_memory}
use Rattle.pages.specs.Maps.{PageMap, after_change}
use Rattle.pages.specs.State.{PagesState}
use Rattle.directories.specs.Directories.{SlotOf}
use Rattle.directories.specs.Slots.{AreSlots}
use Rattle.directories.specs.Writes.{LosesSlot}
use Rattle.directories.specs.declared.writing.Writing.{Writing}
use Rattle.volume_terms.specs.Sizes.{page_slots}
use Rattle.directories.proofs.PageCounts.{committed_behind}
use Rattle.directories.proofs.Results.{on_ok}
use Rattle.directories.proofs.Written.{alone_below, bytes_slot, slot_of_bytes}
use Rattle.directories.proofs.removal.fill.Goals as goal

pub returns-in_err-bytes-clause-fault : goal.returns-in_err-bytes-clause-fault
returns-in_err-bytes-clause-fault g c = λ sound z size are.
    let s = are c.args.shorter.length (omega arith) (omega arith) in
    let p = err_from_is_err_and c.from_residual.result c.from_residual.ensures.1 in
    rw (p.1, p.2) (lacks_memory (g.P.Pages.state c.args.pages.now) (g.P.Pages.state c.slot_bytes.new.pages) _ (c.in_err-bytes.ensures.fault sound z size s.0 s.1))

pub returns-in_default-clause-fault : goal.returns-in_default-clause-fault
returns-in_default-clause-fault g c = λ sound z size are.
    let old : PagesState = g.P.Pages.state c.args.pages.now in
    let s = are c.args.shorter.length (omega arith) (omega arith) in
    let none = rw c.in_default.is at c.decode_tree_slot.ensures.none in
    none s.0 s.1.2 (bytes_slot z old.present c.args.directory c.args.shorter.length c.in_ok-bytes.bytes s.0 (c.in_ok-bytes.ensures.reported sound z size) s.1)

pub returns-clause-fills : goal.returns-clause-fills
returns-clause-fills g c = λ sound z size.
    let old : PagesState = g.P.Pages.state c.args.pages.now in
    let m : PageMap = old.present in
    let lookups = c.slot_bytes.ensures.lookups in
    let len : ℕ = c.args.shorter.length in
    let found = rw c.in-Some.is at c.decode_tree_slot.ensures.found in
    let e : Entry = entry_of c.in-Some.last in
    let last : SlotOf z m c.args.directory len e = slot_of_bytes z m c.args.directory len c.in_ok-bytes.bytes e (c.in_ok-bytes.ensures.reported sound z size) found.0 found.1 in
    on_ok _ _ c.write.result
    (λ change w. subst (λ (k : PageMap). LosesSlot z k change c.args.directory c.args.shorter c.args.place) lookups.present (record {
      header = w.header;
      filled = λ less. (e, subst (λ (k : PageMap). SlotOf z k c.args.directory len e) (sym lookups.present) last, w.written c.args.place e (inl (refl, refl)));
      others = λ k x other less is. w.others k x (record { other = (other, tt); before = omega (arith, less); afterwards = less }) is;
      zeros = w.zeros;
    }))
    (c.write.ensures.writes (lookups.sound ∙ sound) z (size ∙ sym lookups.page_bytes))

pub returns-clause-fault : goal.returns-clause-fault
returns-clause-fault g c = λ sound z size are.
    let lookups = c.slot_bytes.ensures.lookups in
    c.write.ensures.fault (lookups.sound ∙ sound) z (size ∙ sym lookups.page_bytes)
    (subst (λ (k : PageMap). AreSlots (SlotOf z k c.args.directory) 0 (c.args.shorter.length + 1)) (sym lookups.present) are)

pub returns-clause-pages : goal.returns-clause-pages
returns-clause-pages g c = λ sound z size m.
    let lookups = c.slot_bytes.ensures.lookups in
    let low = (g.met.P.Pages.sized c.args.pages.now).0 in
    let some : 1 ≤ page_slots z = omega (arith, low, size) in
    let len : ℕ = c.args.shorter.length in
    let writing : Writing = record { first = record { number = c.args.place; slot = c.in-Some.last }; second = None; before = len + 1; afterwards = len } in
    on_ok _ _ c.write.result
    (λ change w. committed_behind z m (after_change change m) c.args.directory writing len some (alone_below writing len c.requires.within refl) (w.others m))
    (c.write.ensures.pages (lookups.sound ∙ sound) z (size ∙ sym lookups.page_bytes))
