use Rattle.std.proofs.Common.{◌≡◌, ◌<◌, ◌≤◌, ◌∙◌, sym, subst, arith, inl, inr}
use Rattle.std.proofs.lemmas.Bool.{cases_lt}
use Rattle.std.proofs.lemmas.Result.{err_from_is_err_and}
use Rattle.name_index.specs.Names.{Holds}
use Rattle.pages.specs.Maps.{PageMap}
use Rattle.pages.specs.State.{PagesState}
use Rattle.pages.specs.laws.Faults.{lacks_on, says_on}
use Rattle.pages.specs.laws.State.{finds_on}
use Rattle.directories.specs.Directories.{SlotOf}
use Rattle.directories.proofs.Held.{asked_on}
use Rattle.directories.proofs.seeking.search_held.Goals as goal

pub returns-in_default-clause-reported : goal.returns-in_default-clause-reported
returns-in_default-clause-reported g c = λ sound z size i less held.
    let next = rw c.in_default.is at c.next_slot.ensures in
    elim (cases_lt i c.loop-from.from) [
      | inl before ↦ c.loop-from.invariant.none sound z size i before held
      | inr later ↦ absurd (next i later (subst (λ h. Holds c.args.names.now c.args.directory h i) (sym c.name_hash-hash.ensures) held))
    ]

pub returns-then-place-length-clause-reported : goal.returns-then-place-length-clause-reported
returns-then-place-length-clause-reported g c = λ sound z size i less held.
    let next = rw c.in-Some.is at c.next_slot.ensures in
    let over : c.args.length ≤ c.in-Some.place = c.if-place-length.true in
    elim (cases_lt i c.loop-from.from) [
      | inl before ↦ c.loop-from.invariant.none sound z size i before held
      | inr later ↦
          let least : c.in-Some.place ≤ i = next.2 i later (subst (λ h. Holds c.args.names.now c.args.directory h i) (sym c.name_hash-hash.ensures) held) in
          absurd (omega (arith, over, least, less))
    ]

pub returns-in_err-object-clause-issued : goal.returns-in_err-object-clause-issued
returns-in_err-object-clause-issued g c =
    let old : PagesState = g.P.Pages.state c.args.pages.now in
    let now : PagesState = g.P.Pages.state c.loop-from.pages in
    let next = rw c.in-Some.is at c.next_slot.ensures in
    let a = asked_on c.args.names.now c.args.directory c.args.name.now old.issued now.issued _ c.loop-from.from c.in-Some.place c.loop-from.invariant.issued next.1
    (subst (λ h. Holds c.args.names.now c.args.directory h c.in-Some.place) c.name_hash-hash.ensures next.0) c.find_in_slot.ensures.issued in
    (a.0, a.1, a.3)

pub returns-in_err-object-clause-fault : goal.returns-in_err-object-clause-fault
returns-in_err-object-clause-fault g c = λ sound z size are.
    let lookups = c.loop-from.invariant.lookups in
    let within : c.in-Some.place < c.args.length = c.if-place-length.false in
    let s = are c.in-Some.place (omega arith) within in
    let r = err_from_is_err_and c.from_residual.result c.from_residual.ensures.1 in
    rw (r.1, r.2) (lacks_on (g.P.Pages.state c.args.pages.now) (g.P.Pages.state c.loop-from.pages) (g.P.Pages.state c.find_in_slot.new.pages) _ lookups.refused
    (c.in_err-object.ensures.fault (lookups.sound ∙ sound) z (size ∙ sym lookups.page_bytes) s.0
    (subst (λ (m : PageMap). SlotOf z m c.args.directory c.in-Some.place s.0) (sym lookups.present) s.1)))

pub returns-in_err-object-clause-why : goal.returns-in_err-object-clause-why
returns-in_err-object-clause-why g c =
    let r = err_from_is_err_and c.from_residual.result c.from_residual.ensures.1 in
    rw (r.1, r.2) (says_on (g.P.Pages.state c.args.pages.now) (g.P.Pages.state c.loop-from.pages) (g.P.Pages.state c.find_in_slot.new.pages) _ c.loop-from.invariant.lookups.refused c.in_err-object.ensures.why)

pub returns-in-Some-2-clause-issued : goal.returns-in-Some-2-clause-issued
returns-in-Some-2-clause-issued g c =
    let old : PagesState = g.P.Pages.state c.args.pages.now in
    let now : PagesState = g.P.Pages.state c.loop-from.pages in
    let next = rw c.in-Some.is at c.next_slot.ensures in
    let a = asked_on c.args.names.now c.args.directory c.args.name.now old.issued now.issued _ c.loop-from.from c.in-Some.place c.loop-from.invariant.issued next.1
    (subst (λ h. Holds c.args.names.now c.args.directory h c.in-Some.place) c.name_hash-hash.ensures next.0) c.find_in_slot.ensures.issued in
    (a.0, a.1, a.3)

pub returns-in-Some-2-clause-reported : goal.returns-in-Some-2-clause-reported
returns-in-Some-2-clause-reported g c = λ sound z size.
    let lookups = c.loop-from.invariant.lookups in
    let t = rw c.in-Some-2.is at (c.in_ok-object.ensures.reported (lookups.sound ∙ sound) z (size ∙ sym lookups.page_bytes)) in
    record {
      entry = t.0;
      there = subst (λ (m : PageMap). SlotOf z m c.args.directory c.in-Some.place t.0) lookups.present t.1;
      least = omega arith;
      most = c.if-place-length.false;
      name_is = t.2.0;
      object_is = t.2.1;
    }

pub loop-from-preserved : goal.loop-from-preserved
loop-from-preserved g c =
    let old : PagesState = g.P.Pages.state c.args.pages.now in
    let now : PagesState = g.P.Pages.state c.loop-from.pages in
    let lookups = c.loop-from.invariant.lookups in
    let next = rw c.in-Some.is at c.next_slot.ensures in
    record {
      lookups = finds_on _ _ _ lookups c.find_in_slot.ensures.lookups;
      power = c.in_ok-object.ensures.power ∙ c.loop-from.invariant.power;
      issued = asked_on c.args.names.now c.args.directory c.args.name.now old.issued now.issued _ c.loop-from.from c.in-Some.place c.loop-from.invariant.issued next.1
          (subst (λ h. Holds c.args.names.now c.args.directory h c.in-Some.place) c.name_hash-hash.ensures next.0) c.find_in_slot.ensures.issued;
      hash = c.name_hash-hash.ensures;
      none = λ sound z size i less held. elim (cases_lt i c.loop-from.from) [
        | inl before ↦ c.loop-from.invariant.none sound z size i before held
        | inr later ↦
            let least : c.in-Some.place ≤ i = next.2 i later (subst (λ h. Holds c.args.names.now c.args.directory h i) (sym c.name_hash-hash.ensures) held) in
            let here : c.in-Some.place ≡ i = omega (arith, least, less) in
            let t = rw c.in_default-2.is at (c.in_ok-object.ensures.reported (lookups.sound ∙ sound) z (size ∙ sym lookups.page_bytes)) in
            (t.0, subst (λ k. SlotOf z old.present c.args.directory k t.0) here (subst (λ (m : PageMap). SlotOf z m c.args.directory c.in-Some.place t.0) lookups.present t.1), t.2)
      ];
    }

pub returns-clause-reported : goal.returns-clause-reported
returns-clause-reported g c = λ sound z size i less held. c.loop-from.invariant.none sound z size i (omega (arith, less, c.loop-from-test.false)) held
