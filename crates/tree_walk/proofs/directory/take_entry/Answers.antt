use Rattle.std.proofs.Common.{◌≡◌, ◌∙◌, ℕ, Option, None, Some, is_some, true, false, refl, sym, ap, subst, inr, rules}
use Rattle.std.specs.FinMap as map
use Rattle.page_tags.specs.SlotEntry.{entry_of}
use Rattle.page_tags.specs.Slots.{Entry}
use Rattle.tree_walk.specs.Faults.{ReportsWrong}
use Rattle.tree_walk.specs.SlotLists.{TakesNone}
use Rattle.tree_walk.proofs.directory.take_entry.Goals as goal

some_there : (x : Option ℕ) → (x ≡ None → ⊥) → (o : ℕ) × (x ≡ Some o)
some_there None not = absurd (not refl)
some_there (Some o) not = (o, refl)

pub returns-then-is_some-clause-fault : goal.returns-then-is_some-clause-fault
returns-then-is_some-clause-fault c = λ new.
    let found = rw c.in-Some.is at c.decode_tree_slot.ensures.found in
    let e : Entry = entry_of c.in-Some.slot in
    let name : c.in_ok-to_vec.field-0.items ≡ e.name = search rules in
    let there = some_there (map.get c.args.seen.now.names e.name) (λ none.
    let led = c.in_ok-led.ensures.led ∙ ap (map.get c.args.seen.now.names) name ∙ none in
    let two : true ≡ false = sym c.if-is_some.true ∙ c.is_some.ensures ∙ ap is_some led in
    absurd cc) in
    subst (ReportsWrong (TakesNone c.args.bytes.now c.args.at c.args.place c.args.seen.now) new) (sym c.breaks-then-is_some.ensures.broken) (inr (refl, (e, found.0, found.1, there)))
