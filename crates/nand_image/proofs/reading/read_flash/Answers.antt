use Rattle.std.proofs.Common.{◌≡◌, ◌*◌, length, refl, ap, subst, ◌∙◌, rules}
use Rattle.std.proofs.lemmas.Result.{err_from_is_err_and}
use Rattle.nand_model.specs.MemoryState.{device}
use Rattle.nand_model.specs.declared.geometry.Geometry.{Geometry}
use Rattle.nand_image.specs.Layout.{slot_size}
use Rattle.nand_image.specs.Readings.{IsShort, TakesPages}
use Rattle.nand_image.proofs.Bodies.{body_of, pages_fault, end_fault}
use Rattle.nand_image.proofs.reading.read_flash.Goals as goal

pub returns-in_err-read_pages-clause-fault : goal.returns-in_err-read_pages-clause-fault
returns-in_err-read_pages-clause-fault g c =
    let p = err_from_is_err_and c.from_residual-in_err-read_pages.result c.from_residual-in_err-read_pages.ensures.1 in
    let old = g.F.Read.remaining c.args.file.now in
    let mid = g.F.Read.remaining c.read_marks.new.file in
    let fault = c.in_err-read_pages.field-0.0 in
    let marks = c.read_marks.new.marks in
    let wide : length marks ≡ c.args.geometry.blocks = search rules in
    let same : c.read_marks.new.memory.geometry ≡ c.args.geometry = c.in_ok-read_marks.ensures.puts.rests.geometry ∙ c.in_ok-memory.ensures.geometry in
    let short = subst (λ (x : Geometry). IsShort mid (x.blocks * x.pages * slot_size x) fault) same c.in_err-read_pages.ensures.fault in
    rw (p.1, p.2) (pages_fault c.args.geometry old mid old marks wide c.in_ok-read_marks.ensures.whole fault short)

pub returns-in_err-read_end-clause-fault : goal.returns-in_err-read_end-clause-fault
returns-in_err-read_end-clause-fault g c =
    let p = err_from_is_err_and c.from_residual-in_err-read_end.result c.from_residual-in_err-read_end.ensures.1 in
    let old = g.F.Read.remaining c.args.file.now in
    let mid = g.F.Read.remaining c.read_marks.new.file in
    let new = g.F.Read.remaining c.read_pages.new.file in
    let fault = c.in_err-read_end.field-0.0 in
    let marks = c.read_marks.new.marks in
    let wide : length marks ≡ c.args.geometry.blocks = search rules in
    let page = (device c.read_pages.new.memory).flash.page in
    let same : c.read_marks.new.memory.geometry ≡ c.args.geometry = c.in_ok-read_marks.ensures.puts.rests.geometry ∙ c.in_ok-memory.ensures.geometry in
    let pages = subst (λ (x : Geometry). TakesPages mid new x.bytes x.pages (x.blocks * x.pages) page) same c.in_ok-read_pages.ensures.pages in
    rw (p.1, p.2) (end_fault c.args.geometry old mid new marks wide c.in_ok-read_marks.ensures.whole fault page pages c.in_err-read_end.ensures.fault)

pub returns-clause-nexts : goal.returns-clause-nexts
returns-clause-nexts g c b =
    c.in_ok-read_pages.ensures.puts.nexts b (ap (λ f. f b) c.in_ok-read_marks.ensures.puts.next ∙ c.in_ok-memory.ensures.blank.nexts b)

pub returns-clause-body : goal.returns-clause-body
returns-clause-body g c =
    let old = g.F.Read.remaining c.args.file.now in
    let mid = g.F.Read.remaining c.read_marks.new.file in
    let new = g.F.Read.remaining c.read_pages.new.file in
    let marks = c.read_marks.new.marks in
    let wide : length marks ≡ c.args.geometry.blocks = search rules in
    let page = (device c.read_pages.new.memory).flash.page in
    let same : c.read_marks.new.memory.geometry ≡ c.args.geometry = c.in_ok-read_marks.ensures.puts.rests.geometry ∙ c.in_ok-memory.ensures.geometry in
    let pages = subst (λ (x : Geometry). TakesPages mid new x.bytes x.pages (x.blocks * x.pages) page) same c.in_ok-read_pages.ensures.pages in
    body_of c.args.geometry old mid new marks wide c.in_ok-read_marks.ensures.whole page (device c.in_ok-memory.memory) (device c.read_marks.new.memory) (device c.read_pages.new.memory)
    c.in_ok-memory.ensures.blank c.in_ok-read_marks.ensures.puts c.in_ok-read_pages.ensures.puts refl pages c.in_ok-read_end.ensures.ended
