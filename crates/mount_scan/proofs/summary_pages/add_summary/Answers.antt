use Rattle.std.proofs.Common.{◌<◌, sym, ◌∙◌, ap, subst, arith, IfSome, IfNone}
use Rattle.std.proofs.lemmas.Option.{slice_get-get_or}
use Rattle.nand_model.specs.Calls.{Device}
use Rattle.nand_model.specs.declared.geometry.Geometry.{Geometry}
use Rattle.mount_scan.specs.FoundSummary.{summary_of, HasForm, IsOf, IsWholeOn, HasNoSummary}
use Rattle.mount_scan.proofs.NamedPages.{may_back, good_first}
use Rattle.mount_scan.specs.declared.first_page.FirstPage.TheVariants as firsts
use Rattle.mount_scan.proofs.OneSummary.{done_none, done_long, done_found, done_unfound, size_of_tag}
use Rattle.mount_scan.proofs.summary_pages.add_summary.Goals as goal

pub read_summary-requires-clause-good : goal.read_summary-requires-clause-good
read_summary-requires-clause-good g c =
    let at = slice_get-get_or c.args.pages.now c.args.block firsts.Bad (omega (arith, c.requires.block, c.requires.pages)) in
    (good_first (g.N.Nand.state c.args.device.now) c.args.block _ _ (c.requires.good c.args.block _ at) (sym c.tag_of_summary.ensures ∙ c.in-Some.is)).1

pub read_summary-requires-clause-tag : goal.read_summary-requires-clause-tag
read_summary-requires-clause-tag g c =
    let at = slice_get-get_or c.args.pages.now c.args.block firsts.Bad (omega (arith, c.requires.block, c.requires.pages)) in
    (good_first (g.N.Nand.state c.args.device.now) c.args.block _ _ (c.requires.good c.args.block _ at) (sym c.tag_of_summary.ensures ∙ c.in-Some.is)).0

pub returns-in_default-clause-done : goal.returns-in_default-clause-done
returns-in_default-clause-done g c d kept were =
    let at = slice_get-get_or c.args.pages.now c.args.block firsts.Bad (omega (arith, c.requires.block, c.requires.pages)) in
    done_none d (g.N.Nand.state c.args.device.now) kept.only (g.met.N.Nand.within c.args.device.now) c.args.block c.args.pages.now kept.noted _ at c.args.summarized.now (sym c.tag_of_summary.ensures ∙ c.in_default.is) were

pub returns-then-first-pages-clause-done : goal.returns-then-first-pages-clause-done
returns-then-first-pages-clause-done g c d kept were =
    let at = slice_get-get_or c.args.pages.now c.args.block firsts.Bad (omega (arith, c.requires.block, c.requires.pages)) in
    let long : (g.N.Nand.state c.args.device.now).geometry.pages < c.in-Some.first.count = omega (arith, c.if-first-pages.true, c.pages.ensures, ap (λ (x : Geometry). x.pages) c.geometry.ensures) in
    done_long d (g.N.Nand.state c.args.device.now) kept.only (g.met.N.Nand.within c.args.device.now) c.args.block c.args.pages.now kept.noted _ at c.args.summarized.now c.in-Some.first (sym c.tag_of_summary.ensures ∙ c.in-Some.is) long were

pub returns-in_err-summary-clause-reads_bounded : goal.returns-in_err-summary-clause-reads_bounded
returns-in_err-summary-clause-reads_bounded g c =
    let at = slice_get-get_or c.args.pages.now c.args.block firsts.Bad (omega (arith, c.requires.block, c.requires.pages)) in
    omega (arith, size_of_tag c.args.pages.now c.args.block _ c.in-Some.first at (sym c.tag_of_summary.ensures ∙ c.in-Some.is), c.in_err-summary.ensures.reads.most)

pub returns-in_err-add-clause-reads_bounded : goal.returns-in_err-add-clause-reads_bounded
returns-in_err-add-clause-reads_bounded g c =
    let at = slice_get-get_or c.args.pages.now c.args.block firsts.Bad (omega (arith, c.requires.block, c.requires.pages)) in
    omega (arith, size_of_tag c.args.pages.now c.args.block _ c.in-Some.first at (sym c.tag_of_summary.ensures ∙ c.in-Some.is), c.in_ok-summary.ensures.reads.most)

pub returns-in_ok-add-clause-reads_bounded : goal.returns-in_ok-add-clause-reads_bounded
returns-in_ok-add-clause-reads_bounded g c =
    let at = slice_get-get_or c.args.pages.now c.args.block firsts.Bad (omega (arith, c.requires.block, c.requires.pages)) in
    omega (arith, size_of_tag c.args.pages.now c.args.block _ c.in-Some.first at (sym c.tag_of_summary.ensures ∙ c.in-Some.is), c.in_ok-summary.ensures.reads.most)

pub returns-in_default-2-clause-reads_bounded : goal.returns-in_default-2-clause-reads_bounded
returns-in_default-2-clause-reads_bounded g c =
    let at = slice_get-get_or c.args.pages.now c.args.block firsts.Bad (omega (arith, c.requires.block, c.requires.pages)) in
    omega (arith, size_of_tag c.args.pages.now c.args.block _ c.in-Some.first at (sym c.tag_of_summary.ensures ∙ c.in-Some.is), c.in_ok-summary.ensures.reads.most)

pub returns-in_ok-add-clause-done : goal.returns-in_ok-add-clause-done
returns-in_ok-add-clause-done g c d kept were =
    let a : Device = g.N.Nand.state c.args.device.now in
    let at = slice_get-get_or c.args.pages.now c.args.block firsts.Bad (omega (arith, c.requires.block, c.requires.pages)) in
    done_found d a kept.only (g.met.N.Nand.within c.args.device.now) c.args.block c.args.pages.now kept.noted _ at c.args.summarized.now c.add.new.self c.in-Some-2.summary c.in-Some.first
    (subst (λ found. IfSome found (IsWholeOn a)) c.in-Some-2.is c.in_ok-summary.ensures.found)
    (subst (λ found. IfSome found (IsOf c.args.block c.in-Some.first)) c.in-Some-2.is c.in_ok-summary.ensures.of)
    c.in_ok-add.ensures.keeps c.in_ok-add.ensures.notes were

pub returns-in_default-2-clause-done : goal.returns-in_default-2-clause-done
returns-in_default-2-clause-done g c d kept were =
    let a : Device = g.N.Nand.state c.args.device.now in
    let at = slice_get-get_or c.args.pages.now c.args.block firsts.Bad (omega (arith, c.requires.block, c.requires.pages)) in
    done_unfound d a kept.only (g.met.N.Nand.within c.args.device.now) c.args.block c.args.pages.now kept.noted _ at c.args.summarized.now c.in-Some.first (sym c.tag_of_summary.ensures ∙ c.in-Some.is)
    (subst (λ found. IfNone found (HasNoSummary a c.args.block c.in-Some.first)) c.in_default-2.is c.in_ok-summary.ensures.none) were

pub returns-in_ok-add-clause-summarized : goal.returns-in_ok-add-clause-summarized
returns-in_ok-add-clause-summarized g c d kept were =
    let a : Device = g.N.Nand.state c.args.device.now in
    c.in_ok-add.ensures.summarized d kept.noted (may_back d a (summary_of c.in-Some-2.summary) kept.only
    (subst (λ found. IfSome found (HasForm a)) c.in-Some-2.is c.in_ok-summary.ensures.form)
    (subst (λ found. IfSome found (IsWholeOn a)) c.in-Some-2.is c.in_ok-summary.ensures.found)) were
