use Rattle.std.specs.Bool.{IsTrue}
use Rattle.std.proofs.Common.{◌≡◌, ◌↔◌, Bool, Some, None, sym, subst, eqb, get_or}
use Rattle.std.proofs.lemmas.Bool.{eqb-true, eq-eqb, false≢true}
use Rattle.std.proofs.lemmas.Option.{get_or_from_slice_get}
use Rattle.flash_tree.specs.declared.place.Found.{Found}
use Rattle.mount_scan.specs.NewestMap.{KeyMap, page_of}
use Rattle.chip_map.specs.Valid.{LiesAt}
use Rattle.chip_map.proofs.Noted.{lies_none, lies_same}
use Rattle.chip_map.proofs.marking.is_newest.Goals as goal

-- what a list has past its end
abbrev no_page : Found
no_page = record { block = 0; page = 0; tag = record { index = 0; count = 0; object = 0; chunk = 0; version = 0; group = 0; seq = 0 } }

-- what is said of a page is said of one that is the same
said : (m : KeyMap) (r : Bool) (d f : Found) → d ≡ f → IsTrue r ↔ LiesAt (page_of m d.tag.object d.tag.chunk) d → IsTrue r ↔ LiesAt (page_of m f.tag.object f.tag.chunk) f
said m r d f same is = subst (λ (x : Found). IsTrue r ↔ LiesAt (page_of m x.tag.object x.tag.chunk) x) same is

pub returns-then-other-found : goal.returns-then-other-found
returns-then-other-found c = λ f at.
    let d : Found = get_or c.args.valid.now c.args.i no_page in
    let g : Found = c.in-Some.other.now in
    let there : page_of c.args.newest.now d.tag.object d.tag.chunk ≡ Some g = sym c.in-Some.ensures.value in
    said c.args.newest.now (eqb g.page d.page) d f (get_or_from_slice_get c.args.valid.now c.args.i f no_page at)
    (λ same. (g, there, c.if-other-found.true, eqb-true g.page d.page same), λ lies. eq-eqb g.page d.page (lies_same _ d g there lies).1)

pub returns-else-other-found : goal.returns-else-other-found
returns-else-other-found c = λ f at.
    let d : Found = get_or c.args.valid.now c.args.i no_page in
    let g : Found = c.in-Some.other.now in
    let there : page_of c.args.newest.now d.tag.object d.tag.chunk ≡ Some g = sym c.in-Some.ensures.value in
    said c.args.newest.now (eqb g.block d.block) d f (get_or_from_slice_get c.args.valid.now c.args.i f no_page at)
    (λ same. absurd (c.if-other-found.false (eqb-true g.block d.block same)), λ lies. eq-eqb g.block d.block (lies_same _ d g there lies).0)

pub returns-in-None : goal.returns-in-None
returns-in-None c = λ f at.
    let d : Found = get_or c.args.valid.now c.args.i no_page in
    let none : page_of c.args.newest.now d.tag.object d.tag.chunk ≡ None = sym c.in-None.ensures.value in
    said c.args.newest.now _ d f (get_or_from_slice_get c.args.valid.now c.args.i f no_page at) (λ same. absurd (false≢true same), λ lies. absurd (lies_none _ d none lies))
