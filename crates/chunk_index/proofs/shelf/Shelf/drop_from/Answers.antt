use Rattle.std.proofs.Common.{ℕ, sym, refl, ◌∙◌}
use Rattle.chunk_index.proofs.Shelving.{look_in}
use Rattle.chunk_index.proofs.Dropping.{drops_written, drops_absent}
use Rattle.chunk_index.proofs.Staying.{none_reported}
use Rattle.chunk_index.proofs.shelf.Shelf.drop_from.Goals as goal

pub invariant_of-self : goal.invariant_of-self
invariant_of-self c =
    let old = c.args.self.now.objects in
    let y = c.drop_from.new.self in
    let through = c.get_mut.follows.holds y in
    let drops = drops_written c.args.object c.args.from old (c.get_mut.follows.lender y) c.in-Some.entries.now y (sym c.in-Some.ensures.value) through c.drop_from.ensures.items in
    record { ordered = through.4; totaled = drops.weighs (λ e. 1) (λ e. refl) ∙ c.args.self.now.totaled; bounded = c.args.self.now.bounded }

pub returns-in-Some-clause-drops : goal.returns-in-Some-clause-drops
returns-in-Some-clause-drops c =
    let y = c.drop_from.new.self in
    drops_written c.args.object c.args.from c.args.self.now.objects (c.get_mut.follows.lender y) c.in-Some.entries.now y (sym c.in-Some.ensures.value) (c.get_mut.follows.holds y) c.drop_from.ensures.items

pub returns-in-Some-clause-none : goal.returns-in-Some-clause-none
returns-in-Some-clause-none c =
    let reported = λ (l : ℕ). look_in c.args.self.now.objects c.args.object l c.in-Some.entries.now (sym c.in-Some.ensures.value) in (
      λ not l le. reported l ∙ c.drop_from.ensures.none.0 not l le,
      λ none. c.drop_from.ensures.none.1 (λ l le. sym (reported l) ∙ none l le),
    )

pub returns-in-None-clause-drops : goal.returns-in-None-clause-drops
returns-in-None-clause-drops c = rw c.get_mut.follows.holds-at-none (drops_absent c.args.object c.args.from c.args.self.now.objects (sym c.in-None.ensures.value))

pub returns-in-None-clause-none : goal.returns-in-None-clause-none
returns-in-None-clause-none c = (λ not l le. none_reported c.args.self.now.objects c.args.object l (sym c.in-None.ensures.value), λ none. refl)
