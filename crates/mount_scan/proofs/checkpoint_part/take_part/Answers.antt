use Rattle.std.proofs.Common.{◌≡◌, ◌+◌, ◌-◌, min, List, length, Some, slice_get, sym, subst, ◌∙◌, arith, replicate}
use Rattle.std.proofs.lemmas.Bool.{false≢true}
use Rattle.std.proofs.lemmas.Bool.Decides.{Decides-eqb}
use Rattle.std.proofs.lemmas.Slice.Eq.{slice_eq-Decides}
use Rattle.std.proofs.lemmas.Option.{slice_get_within}
use Rattle.page_tags.specs.Checks.{IsEntryBefore}
use Rattle.page_tags.specs.declared.check.CheckEntry.{CheckEntry}
use Rattle.mount_scan.specs.CheckpointParts.{AreEntries, Takes, IsLast, entry_part}
use Rattle.mount_scan.proofs.CheckpointParts.{more, zeros_past, before_at, entries_more, takes_more, takes_none, entry_of_part}
use Rattle.mount_scan.proofs.checkpoint_part.take_part.Goals as goal

pub returns-then-place-n-clause-yes : goal.returns-then-place-n-clause-yes
returns-then-place-n-clause-yes c is =
    let zeros : c.args.part.now ≡ replicate 32 0 = (slice_eq-Decides Decides-eqb _ _ _ c.eq.ensures).0 is in
    takes_none c.args.entries.now.items c.args.n c.args.place c.args.part.now c.if-place-n.true zeros c.requires.so_far

pub returns-then-place-n-clause-no : goal.returns-then-place-n-clause-no
returns-then-place-n-clause-no c is fs are first same =
    let zeros : c.args.part.now ≡ replicate 32 0 = same ∙ zeros_past fs c.args.place (omega (arith, are.count, c.if-place-n.true)) in
    false≢true (sym is ∙ (slice_eq-Decides Decides-eqb _ _ _ c.eq.ensures).1 zeros)

pub returns-then-not-comes_next-clause-no : goal.returns-then-not-comes_next-clause-no
returns-then-not-comes_next-clause-no c is fs are first same =
    let es = c.args.entries.now.items in
    let place : length es ≡ c.args.place = omega (arith, c.requires.so_far.count, c.if-place-n.false) in
    let f = entry_of_part c.args.n fs c.args.place are (omega (arith, c.if-place-n.false)) in
    let one : c.decode_check_entry-entry.result ≡ f.0 = c.decode_check_entry-entry.ensures.encoded f.0 f.2 (same ∙ f.3) in
    false≢true (sym c.if-not-comes_next.true ∙ c.comes_next.ensures.1 (λ last at.
    let there : slice_get es (length es - 1) ≡ Some last = subst (λ (xs : List CheckEntry). IsLast xs last) c.deref.ensures.value at in
    let lt = slice_get_within es (length es - 1) last there in
    subst (IsEntryBefore last) (sym one) (before_at fs are.rise (length es - 1) c.args.place last f.0 (omega (arith, place, lt)) (first (length es - 1) last there) f.1)))

pub returns-clause-yes : goal.returns-clause-yes
returns-clause-yes c is =
    let es = c.args.entries.now.items in
    let e = c.decode_check_entry-entry.result in
    let so_far : AreEntries (min c.args.n c.args.place) es = c.requires.so_far in
    let place : length es ≡ c.args.place = omega (arith, so_far.count, c.if-place-n.false) in
    let next = c.comes_next.ensures.0 c.if-not-comes_next.false in
    let all : AreEntries (min c.args.n c.args.place + 1) (more es e) =
    entries_more es e (min c.args.n c.args.place) so_far c.decode_check_entry-entry.ensures.valid (λ last at. next last (subst (λ (xs : List CheckEntry). IsLast xs last) (sym c.deref.ensures.value) at)) in
    let count : min c.args.n c.args.place + 1 ≡ min c.args.n (c.args.place + 1) = omega (arith, c.if-place-n.false) in
    let items : more es e ≡ c.push.new.self.items = sym c.in_ok-push.ensures.items in
    subst (λ (xs : List CheckEntry). Takes c.args.n (c.args.place + 1) (λ fs. c.args.part.now ≡ entry_part fs c.args.place) es xs) items
    (takes_more es e c.args.n c.args.place c.args.part.now place (omega (arith, c.if-place-n.false)) c.decode_check_entry-entry.ensures.valid c.decode_check_entry-entry.ensures.said c.decode_check_entry-entry.ensures.encoded
    (subst (λ k. AreEntries k (more es e)) count all))
