use Rattle.std.proofs.Common.{◌≡◌, ◌<◌, ◌+◌, ◌-◌, ◌*◌, ◌∙◌, ℕ, List, sym, ap, subst, take, drop, length, Some, None, arith}
use Rattle.pages.specs.State.{PagesState, FindsPage}
use Rattle.file_io.specs.Chunks.{overwritten}
use Rattle.file_io.specs.Parts.{part_from, part_of}
use Rattle.file_io.proofs.FilePages.{part_found, part_missing}
use Rattle.file_io.proofs.Ranges.{over_past, put_part}
use Rattle.std.proofs.lemmas.List.{length-take-le, length-drop, length-replicate}
use Rattle.file_io.proofs.reading.read_part.Goals as goal

pub returns-in-Present-clause-part : goal.returns-in-Present-clause-part
returns-in-Present-clause-part g c = λ z moment all f only within.
    let old : PagesState = g.P.Pages.state c.args.pages.now in
    let d : ℕ = c.from-page_bytes.result in
    let k : ℕ = c.args.index in
    let size_old : d ≡ old.page_bytes = c.from-page_bytes.ensures ∙ c.page_bytes.ensures.bytes in
    let begins : k * d < c.args.end = subst (λ n. k * n < c.args.end) (sym size_old) c.requires.meets.begins in
    let ends : c.args.offset < k * d + d = subst (λ n. c.args.offset < k * n + n) (sym size_old) c.requires.meets.ends in
    let from : ℕ = c.saturating_sub-from.result in
    let to : ℕ = c.min-to.result in
    let at : ℕ = c.saturating_sub-at.result in
    let page : List ℕ = c.page-page.result.now in
    let there : old.present c.args.object (1 + k) ≡ Some page =
    subst (FindsPage old.present c.args.object (1 + k) (g.P.Pages.state c.find.new.self).lent) c.in-Present.is (c.in_ok-find.ensures.page f.sound) ∙ ap Some (sym c.page-page.ensures.bytes) in
    let len : length page ≡ d = c.page-page.ensures.size ∙ c.find.ensures.lookups.page_bytes ∙ sym size_old in
    let part = part_found old z c.args.object moment all f d (size_old ∙ sym f.size) k from to (omega (arith, c.requires.not_empty, begins, ends)) (omega arith) (omega (arith, within, begins)) only page there len in
    subst (λ n. c.overwrite.new.buffer ≡ overwritten c.args.buffer.now (part_from n k c.args.offset - c.args.offset) (part_of n k c.args.offset c.args.end all)) (size_old ∙ sym f.size)
    (put_part d k c.args.offset c.args.end from to at all c.args.buffer.now _ _ (omega (arith, begins, ends)) (omega arith) (omega arith) c.overwrite.ensures.bytes part)

pub returns-in-Absent-clause-part : goal.returns-in-Absent-clause-part
returns-in-Absent-clause-part g c = λ z moment all f only within.
    let old : PagesState = g.P.Pages.state c.args.pages.now in
    let d : ℕ = c.from-page_bytes.result in
    let k : ℕ = c.args.index in
    let size_old : d ≡ old.page_bytes = c.from-page_bytes.ensures ∙ c.page_bytes.ensures.bytes in
    let begins : k * d < c.args.end = subst (λ n. k * n < c.args.end) (sym size_old) c.requires.meets.begins in
    let ends : c.args.offset < k * d + d = subst (λ n. c.args.offset < k * n + n) (sym size_old) c.requires.meets.ends in
    let from : ℕ = c.saturating_sub-from.result in
    let to : ℕ = c.min-to.result in
    let at : ℕ = c.saturating_sub-at.result in
    let none : old.present c.args.object (1 + k) ≡ None =
    subst (FindsPage old.present c.args.object (1 + k) (g.P.Pages.state c.find.new.self).lent) c.in-Absent.is (c.in_ok-find.ensures.page f.sound) in
    let part = part_missing old z c.args.object moment all f d (size_old ∙ sym f.size) k from to (omega (arith, c.requires.not_empty, begins, ends)) (omega arith) (omega (arith, within, begins)) none in
    subst (λ n. c.clear.new.buffer ≡ overwritten c.args.buffer.now (part_from n k c.args.offset - c.args.offset) (part_of n k c.args.offset c.args.end all)) (size_old ∙ sym f.size)
    (put_part d k c.args.offset c.args.end from to at all c.args.buffer.now _ _ (omega (arith, begins, ends)) (omega arith) (omega arith) c.clear.ensures.zeros part)

pub returns-in-Present-clause-rest : goal.returns-in-Present-clause-rest
returns-in-Present-clause-rest g c =
    let old : PagesState = g.P.Pages.state c.args.pages.now in
    let d : ℕ = c.from-page_bytes.result in
    let size_old : d ≡ old.page_bytes = c.from-page_bytes.ensures ∙ c.page_bytes.ensures.bytes in
    let begins : c.args.index * d < c.args.end = subst (λ n. c.args.index * n < c.args.end) (sym size_old) c.requires.meets.begins in
    let ends : c.args.offset < c.args.index * d + d = subst (λ n. c.args.offset < c.args.index * n + n) (sym size_old) c.requires.meets.ends in
    let from : ℕ = c.saturating_sub-from.result in
    let to : ℕ = c.min-to.result in
    let at : ℕ = c.saturating_sub-at.result in
    let page : List ℕ = c.page-page.result.now in
    let len : length page ≡ d = c.page-page.ensures.size ∙ c.find.ensures.lookups.page_bytes ∙ sym size_old in
    let count : length (take (to - from) (drop from page)) ≡ to - from = length-take-le (to - from) (drop from page) (omega (arith, len, length-drop from page)) in
    ap (drop (c.args.end - c.args.offset)) c.overwrite.ensures.bytes
    ∙ over_past at (c.args.end - c.args.offset) c.args.buffer.now (take (to - from) (drop from page)) (omega (arith, count, begins, ends, c.requires.not_empty)) (omega (arith, begins, c.requires.room))

pub returns-in-Absent-clause-rest : goal.returns-in-Absent-clause-rest
returns-in-Absent-clause-rest g c =
    let old : PagesState = g.P.Pages.state c.args.pages.now in
    let d : ℕ = c.from-page_bytes.result in
    let size_old : d ≡ old.page_bytes = c.from-page_bytes.ensures ∙ c.page_bytes.ensures.bytes in
    let begins : c.args.index * d < c.args.end = subst (λ n. c.args.index * n < c.args.end) (sym size_old) c.requires.meets.begins in
    let ends : c.args.offset < c.args.index * d + d = subst (λ n. c.args.offset < c.args.index * n + n) (sym size_old) c.requires.meets.ends in
    let from : ℕ = c.saturating_sub-from.result in
    let to : ℕ = c.min-to.result in
    let at : ℕ = c.saturating_sub-at.result in
    ap (drop (c.args.end - c.args.offset)) c.clear.ensures.zeros
    ∙ over_past at (c.args.end - c.args.offset) c.args.buffer.now _ (omega (arith, length-replicate {A = ℕ} (to - from) 0, begins, ends, c.requires.not_empty)) (omega (arith, begins, c.requires.room))
