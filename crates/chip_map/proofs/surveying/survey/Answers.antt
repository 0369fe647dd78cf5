use Rattle.std.proofs.Common.{◌≡◌, ◌*◌, List, length, sym, ap, ◌∙◌, subst, arith}
use Rattle.std.proofs.lemmas.List.{take_at}
use Rattle.nand_model.specs.Calls.{Device}
use Rattle.nand_model.specs.Changes.{OnlyReads}
use Rattle.nand_model.specs.declared.geometry.Geometry.{Geometry}
use Rattle.flash_tree.specs.declared.place.Found.{Found}
use Rattle.chip_map.specs.States.{AreSurveyed}
use Rattle.chip_map.specs.Surveys.{pages_of}
use Rattle.chip_map.specs.Valid.{AreValid, AreNoted, AreWithin}
use Rattle.chip_map.proofs.Adding.{placed_within, noted_back}
use Rattle.chip_map.proofs.Noted.{valid_listed}
use Rattle.chip_map.proofs.surveying.survey.Goals as goal

pub note_valid-requires-clause-within : goal.note_valid-requires-clause-within
note_valid-requires-clause-within g c =
    let old : Device = g.N.Nand.state c.args.device.now in
    let mid : Device = g.N.Nand.state c.scan.new.device in
    let new : Device = g.N.Nand.state c.read_all.new.device in
    let first : OnlyReads old mid = c.in_ok-found.ensures.reads.only in
    let next : OnlyReads mid new = c.in_ok-pages.ensures.reads in
    let count : c.pages.result ≡ old.geometry.pages = c.pages.ensures ∙ ap (λ (x : Geometry). x.pages) (c.geometry-geometry.ensures ∙ next.lasts.geometry ∙ first.lasts.geometry) in
    let len : length c.deref_mut.result.now ≡ old.geometry.blocks * old.geometry.pages =
    ap length c.deref_mut.ensures.value ∙ c.in_ok-pages.ensures.len ∙ ap (λ (x : Geometry). x.blocks * x.pages) first.lasts.geometry in
    subst (λ n. AreWithin n c.deref.result.now c.deref_mut.result.now) (sym count)
    (subst (λ (xs : List Found). AreWithin old.geometry.pages xs c.deref_mut.result.now) (sym c.deref.ensures.value)
    (placed_within old.geometry.pages old.geometry.blocks _ c.deref_mut.result.now c.in_ok-found.ensures.valid_pages.placed len))

pub returns-clause-pages : goal.returns-clause-pages
returns-clause-pages g c = λ honest.
    let old : Device = g.N.Nand.state c.args.device.now in
    let mid : Device = g.N.Nand.state c.scan.new.device in
    let new : Device = g.N.Nand.state c.read_all.new.device in
    let first : OnlyReads old mid = c.in_ok-found.ensures.reads.only in
    let next : OnlyReads mid new = c.in_ok-pages.ensures.reads in
    let count : c.pages.result ≡ old.geometry.pages = c.pages.ensures ∙ ap (λ (x : Geometry). x.pages) (c.geometry-geometry.ensures ∙ next.lasts.geometry ∙ first.lasts.geometry) in
    let valid : AreValid old.flash c.deref.result.now = subst (AreValid old.flash) (sym c.deref.ensures.value) (valid_listed old.flash _ (c.in_ok-found.ensures.valid_pages.exact honest)) in
    let newest = c.in_ok-found.ensures.newest.exact honest in
    let read : AreNoted old.flash old.geometry.pages c.in_ok-pages.pages.items = noted_back old mid _ first honest (c.in_ok-pages.ensures.noted (first.lasts.honest ∙ honest)) in
    let noted : AreNoted old.flash c.pages.result c.deref_mut.result.now =
    subst (λ n. AreNoted old.flash n c.deref_mut.result.now) (sym count) (subst (AreNoted old.flash old.geometry.pages) (sym c.deref_mut.ensures.value) read) in
    let all : AreSurveyed old.flash c.pages.result c.note_valid.new.pages = c.note_valid.ensures old.flash valid newest noted in
    let same : pages_of c.new.result ≡ c.note_valid.new.pages = c.new.ensures.pages ∙ take_at c.note_valid.new.pages _ c.in_ok-pages.pages.len (omega (arith, c.note_valid.auto.pages, c.deref_mut.ensures.len)) in
    subst (AreSurveyed old.flash old.geometry.pages) (sym same) (subst (λ n. AreSurveyed old.flash n c.note_valid.new.pages) count all)
