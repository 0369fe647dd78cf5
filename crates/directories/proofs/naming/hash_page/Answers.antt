use Rattle.std.proofs.Common.{◌≡◌, ◌<◌, ◌+◌, ◌-◌, ◌*◌, ◌∙◌, ℕ, List, take, drop, arith, rules, refl, sym, ap, subst, inl, inr}
use Rattle.std.proofs.lemmas.Bool.{cases_eq}
use Rattle.name_index.specs.Hashes.{fnv1a}
use Rattle.name_index.specs.Names.{Holds}
use Rattle.page_tags.specs.Slots.{slot_bytes}
use Rattle.directories.proofs.Hashed.{more_on, held_as}
use Rattle.directories.proofs.naming.hash_page.Goals as goal

pub returns-in_err-hash_slot-clause-committed : goal.returns-in_err-hash_slot-clause-committed
returns-in_err-hash_slot-clause-committed c = more_on c.args.names.now c.loop-place.names c.hash_slot.new.names c.loop-place.invariant.committed c.hash_slot.ensures.committed

pub loop-place-preserved : goal.loop-place-preserved
loop-place-preserved c = record {
  committed = more_on c.args.names.now c.loop-place.names c.hash_slot.new.names c.loop-place.invariant.committed c.hash_slot.ensures.committed;
  done = λ k e low less at small. elim (cases_eq k c.loop-place.place) [
    | inr other ↦ c.hash_slot.ensures.committed c.args.page.now.key.object (fnv1a e.name) (c.in-Some.first + k) (c.loop-place.invariant.done k e low (omega (arith, less, other)) at small)
    | inl here ↦
        let number : c.in-Some.first + c.from-in-loop-place.result ≡ c.in-Some.first + k = omega (arith, here, c.from-in-loop-place.ensures) in
        let bytes : c.slot_of-bytes.result.now ≡ slot_bytes e =
        c.slot_of-bytes.ensures.bytes ∙ ap (λ (xs : List ℕ). take 272 (drop (272 * c.loop-place.place) xs)) c.deref.ensures.value ∙ ap (λ j. take 272 (drop (272 * j) c.args.page.now.bytes.items)) (sym here) ∙ at.1 in
        held_as c.hash_slot.new.names c.args.page.now.key.object (fnv1a e.name) (c.in-Some.first + c.from-in-loop-place.result)
        (c.in_ok-hash_slot.ensures.here e at.0 bytes (omega (arith, number, small))) (fnv1a e.name) (c.in-Some.first + k) refl number
  ];
}

pub returns-clause-all : goal.returns-clause-all
returns-clause-all c = λ k e less at past small.
    let product : c.in-Some.first ≡ (c.args.page.now.key.chunk - 1) * c.args.slots = search rules in
    let starts : c.saturating_sub-start.result ≡ c.args.from - c.in-Some.first = search rules in
    subst (λ n. Holds c.loop-place.names c.args.page.now.key.object (fnv1a e.name) (n + k)) product
    (c.loop-place.invariant.done k e (omega (arith, starts, product, past)) (omega (arith, less, c.loop-place-test.false)) at (subst (λ n. n + k < 4294967296) (sym product) small))
