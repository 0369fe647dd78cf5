use Rattle.std.proofs.Common.{◌≡◌, ◌<◌, ◌≤◌, ◌∙◌, ◌+◌, List, IfSome, sym, subst, inl, inr, arith}
use Rattle.std.proofs.lemmas.Bool.{cases_lt}
use Rattle.flash_tree.specs.declared.place.FreshPage.{FreshPage}
use Rattle.name_index.specs.Hashes.{fnv1a}
use Rattle.name_index.specs.Names.{Holds}
use Rattle.pages.specs.Maps.{without_cuts}
use Rattle.directories.specs.Leaving.{WritesHash}
use Rattle.directories.proofs.Left.{stays_by, stays_on, held_small}
use Rattle.directories.proofs.leaving.left_slot.Goals as goal
use Rattle.directories.proofs.leaving.left_slot.Goals.{in-Some+else-written-hash, in_default}

pub returns-in_err-slot-clause-none : goal.returns-in_err-slot-clause-none
returns-in_err-slot-clause-none c = rw c.from_residual.ensures (λ z size s holds. elim (cases_lt s c.loop-slot.from) [
  | inl less ↦ c.loop-slot.invariant.committed z size s less holds
  | inr later ↦ absurd (c.in_err-slot.ensures s later (subst (λ h. Holds c.args.names.now c.args.directory h s) (sym c.name_hash-hash.ensures) holds))
])

pub returns-in_err-from-clause-none : goal.returns-in_err-from-clause-none
returns-in_err-from-clause-none c = rw c.from_residual-in_err-from.ensures (λ z size s holds.
    let small : s < 4294967296 = held_small c.args.names.now c.args.directory (fnv1a c.args.name.now) s holds in
    let full = c.in_err-from.ensures in
    let is : IfSome c.hash_in.result (λ h. h ≡ fnv1a c.args.name.now) = elim c.match-hash_in.branch [
      | in-Some+else-written-hash w ↦ rw w.in-Some.is (w.if-written-hash.false ∙ c.name_hash-hash.ensures)
      | in_default w ↦ rw w.in_default.is tt
    ] in
    let here = stays_by z c.args.change.now c.args.directory (fnv1a c.args.name.now) c.in_ok-slot.slot c.args.page_bytes c.deref.result.now c.deref.ensures.value size c.hash_in.result c.hash_in.ensures.hash c.hash_in.ensures.none is in
    let most : s ≤ c.in_ok-slot.slot = elim (cases_lt c.in_ok-slot.slot s) [ inl more ↦ absurd (full (omega (arith, small, more))) | inr most ↦ most ] in
    stays_on z c.args.change.now c.args.directory (fnv1a c.args.name.now) c.args.names.now c.loop-slot.from c.in_ok-slot.slot (c.loop-slot.invariant.committed z size)
    (λ k later held. c.in_ok-slot.ensures.2 k later (subst (λ h. Holds c.args.names.now c.args.directory h k) (sym c.name_hash-hash.ensures) held)) here s most holds)

pub returns-then-written-hash-clause-left : goal.returns-then-written-hash-clause-left
returns-then-written-hash-clause-left c = λ z size. record {
  other = λ same. c.if-written-hash.true (same ∙ sym c.name_hash-hash.ensures);
  written = λ m e at.
      subst (λ (pages : List FreshPage). WritesHash z pages c.args.directory c.in_ok-slot.slot c.in-Some.written) c.deref.ensures.value (c.in-Some.ensures.hash z size) (without_cuts c.args.change.now.cuts.items m) e at;
}

pub loop-slot-smaller : goal.loop-slot-smaller
loop-slot-smaller c =
    let next : c.loop-slot.from ≤ c.in_ok-slot.slot = c.in_ok-slot.ensures.1 in
    let more : c.in_ok-from.from ≡ c.in_ok-slot.slot + 1 = c.in_ok-from.ensures.1 in
    let fits : c.in_ok-slot.slot + 1 < 4294967296 = c.in_ok-from.ensures.0 in
    omega arith

pub loop-slot-preserved : goal.loop-slot-preserved
loop-slot-preserved c = record {
  hash = c.name_hash-hash.ensures;
  committed = λ z size s less holds.
      let is : IfSome c.hash_in.result (λ h. h ≡ fnv1a c.args.name.now) = elim c.match-hash_in.branch [
        | in-Some+else-written-hash w ↦ rw w.in-Some.is (w.if-written-hash.false ∙ c.name_hash-hash.ensures)
        | in_default w ↦ rw w.in_default.is tt
      ] in
      let here = stays_by z c.args.change.now c.args.directory (fnv1a c.args.name.now) c.in_ok-slot.slot c.args.page_bytes c.deref.result.now c.deref.ensures.value size c.hash_in.result c.hash_in.ensures.hash c.hash_in.ensures.none is in
      let most : s ≤ c.in_ok-slot.slot = let next : c.in_ok-from.from ≡ c.in_ok-slot.slot + 1 = c.in_ok-from.ensures.1 in omega (arith, next, less) in
      stays_on z c.args.change.now c.args.directory (fnv1a c.args.name.now) c.args.names.now c.loop-slot.from c.in_ok-slot.slot (c.loop-slot.invariant.committed z size)
      (λ k later held. c.in_ok-slot.ensures.2 k later (subst (λ h. Holds c.args.names.now c.args.directory h k) (sym c.name_hash-hash.ensures) held)) here s most holds;
}
