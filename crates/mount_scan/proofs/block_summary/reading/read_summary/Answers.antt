use Rattle.std.proofs.Common.{◌≡◌, ◌*◌, ℕ, List, length, drop, IfSome, IfNone, sym, ap, subst, ◌∙◌}
use Rattle.std.proofs.lemmas.Bool.{false≢true}
use Rattle.std.proofs.lemmas.List.{take_at}
use Rattle.nand_model.specs.Calls.{Device}
use Rattle.nand_model.specs.declared.geometry.Geometry.{Geometry}
use Rattle.mount_scan.specs.declared.block_summary.contents.Contents.{Contents}
use Rattle.mount_scan.specs.SummaryContents.{Says, SaysNone}
use Rattle.mount_scan.proofs.WholeSummary.{whole_made, none_begins, none_lacking, none_said}
use Rattle.mount_scan.proofs.block_summary.reading.read_summary.Goals as goal

pub returns-then-not-may_begin-clause-none : goal.returns-then-not-may_begin-clause-none
returns-then-not-may_begin-clause-none g c =
    none_begins (g.N.Nand.state c.args.device.now) c.args.block c.args.first.now (g.met.N.Nand.within c.args.device.now) (λ may. false≢true (sym c.if-not-may_begin.true ∙ c.may_begin.ensures.1 may))

pub returns-then-not-branch-clause-none : goal.returns-then-not-branch-clause-none
returns-then-not-branch-clause-none g c = none_lacking (g.N.Nand.state c.args.device.now) c.args.block c.args.first.now (c.in_ok-read_pages.ensures.no c.if-not-branch.true)

pub returns-in_default-clause-none : goal.returns-in_default-clause-none
returns-in_default-clause-none g c =
    let d : Device = g.N.Nand.state c.args.device.now in
    let bytes : List ℕ = c.read_pages.new.bytes in
    let geometry : c.geometry-geometry.result ≡ d.geometry = c.geometry-geometry.ensures in
    let value : c.deref.result.now ≡ bytes =
    c.deref.ensures.value ∙ take_at bytes (drop (length bytes) c.in_ok-bytes.bytes.items) c.in_ok-bytes.bytes.len (c.read_pages.auto.bytes ∙ c.deref_mut.ensures.len) in
    let size : c.bytes-size.result ≡ d.geometry.bytes = c.bytes-size.ensures ∙ ap (λ (x : Geometry). x.bytes) geometry in
    let len : length bytes ≡ c.args.first.now.count * d.geometry.bytes = c.read_pages.auto.bytes ∙ c.deref_mut.ensures.len ∙ c.in_ok-bytes.ensures.len ∙ ap (λ n. c.args.first.now.count * n) size in
    let none : SaysNone c.geometry-geometry.result c.args.first.now.count c.deref.result.now =
    subst (λ found. IfNone found (SaysNone c.geometry-geometry.result c.args.first.now.count c.deref.result.now)) c.in_default.is c.in_ok-contents.ensures.none in
    none_said d c.args.block c.args.first.now bytes len (c.in_ok-read_pages.ensures.yes c.if-not-branch.false)
    (subst (λ x. SaysNone x c.args.first.now.count bytes) geometry (subst (SaysNone c.geometry-geometry.result c.args.first.now.count) value none))

pub returns-clause-found : goal.returns-clause-found
returns-clause-found g c =
    let d : Device = g.N.Nand.state c.args.device.now in
    let bytes : List ℕ = c.read_pages.new.bytes in
    let geometry : c.geometry-geometry.result ≡ d.geometry = c.geometry-geometry.ensures in
    let value : c.deref.result.now ≡ bytes =
    c.deref.ensures.value ∙ take_at bytes (drop (length bytes) c.in_ok-bytes.bytes.items) c.in_ok-bytes.bytes.len (c.read_pages.auto.bytes ∙ c.deref_mut.ensures.len) in
    let size : c.bytes-size.result ≡ d.geometry.bytes = c.bytes-size.ensures ∙ ap (λ (x : Geometry). x.bytes) geometry in
    let len : length bytes ≡ c.args.first.now.count * d.geometry.bytes = c.read_pages.auto.bytes ∙ c.deref_mut.ensures.len ∙ c.in_ok-bytes.ensures.len ∙ ap (λ n. c.args.first.now.count * n) size in
    let says : Says d.geometry c.args.first.now.count bytes c.in-Some.contents.head c.in-Some.contents.entries.items =
    subst (λ x. Says x c.args.first.now.count bytes c.in-Some.contents.head c.in-Some.contents.entries.items) geometry
    (subst (λ xs. Says c.geometry-geometry.result c.args.first.now.count xs c.in-Some.contents.head c.in-Some.contents.entries.items)
    value (subst (λ found. IfSome found (λ (x : Contents). Says c.geometry-geometry.result c.args.first.now.count c.deref.result.now x.head x.entries.items)) c.in-Some.is c.in_ok-contents.ensures.found)) in
    whole_made d c.args.block c.args.first.now c.in-Some.contents.head c.in-Some.contents.entries.items bytes says c.requires.good c.requires.tag len (c.in_ok-read_pages.ensures.yes c.if-not-branch.false)
