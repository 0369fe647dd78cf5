use Rattle.std.proofs.Common.{ℕ, sym, ◌∙◌, subst, inl}
use Rattle.flash_tree.specs.Mount.{IsVolume, sizes_of}
use Rattle.pages.specs.Maps.{PageMap, has}
use Rattle.mounting.specs.TreeAnswers.{WhyNoTree, of_walk}
use Rattle.mounting.specs.laws.TreeAnswers.{walk_fails, wrong_below}
use Rattle.mounting.proofs.tree.find_tree.Goals as goal

pub returns-in-Some-clause-issued : goal.returns-in-Some-clause-issued
returns-in-Some-clause-issued g c = λ sound size. c.in-Ok.ensures.issued (sizes_of c.args.geometry c.in-Some.spare) (record { sound = sound; size = size })

pub returns-in-Some-clause-tree : goal.returns-in-Some-clause-tree
returns-in-Some-clause-tree g c = λ sound size.
    let m = (g.P.Pages.state c.args.pages.now).present in
    let geometry = c.args.geometry in
    record {
      volume = c.in-Some.ensures.volume m (c.in-Ok.ensures.tree (sizes_of geometry 0) (record { sound = sound; size = size }));
      size = c.in-Ok.ensures.size ∙ sym size;
      tree_is = c.in-Ok.ensures.tree (sizes_of geometry c.in-Some.spare) (record { sound = sound; size = size });
    }

pub returns-in-Some-clause-names : goal.returns-in-Some-clause-names
returns-in-Some-clause-names g c = λ sound size. c.in-Ok.ensures.hashes (sizes_of c.args.geometry c.in-Some.spare) (record { sound = sound; size = size })

pub returns-in-None-clause-fault : goal.returns-in-None-clause-fault
returns-in-None-clause-fault g c = λ sound size.
    inl (c.in-None.ensures.none (g.P.Pages.state c.args.pages.now).present (c.in-Ok.ensures.tree (sizes_of c.args.geometry 0) (record { sound = sound; size = size })))

pub returns-in-Err-clause-fault : goal.returns-in-Err-clause-fault
returns-in-Err-clause-fault g c = λ sound size.
    let p = g.P.Pages.state c.args.pages.now in
    let q = g.P.Pages.state c.walk.new.pages in
    let geometry = c.args.geometry in
    let lookups = c.walk.ensures.lookups in
    let below = subst (λ (m : PageMap). (spare : ℕ) → IsVolume geometry (has m) spare → WhyNoTree geometry (has m) (of_walk c.in-Err.fault)) (sym lookups.present)
    (λ spare volume. wrong_below geometry (has p.present) spare c.in-Err.fault q volume (c.in-Err.ensures.fault (sizes_of geometry spare) (record { sound = sound; size = size }))) in
    subst (λ (m : PageMap). WhyNoTree geometry (has m) c.first_fault.result) lookups.present
    (c.first_fault.ensures.reason (lookups.sound ∙ sound) (size ∙ sym lookups.page_bytes) below)

pub returns-in-Err-clause-why : goal.returns-in-Err-clause-why
returns-in-Err-clause-why g c = c.first_fault.ensures.device (walk_fails c.in-Err.fault (g.P.Pages.state c.walk.new.pages) c.in-Err.ensures.why)
