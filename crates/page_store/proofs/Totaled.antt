-- New keys of pages that are in the count one after the other.
use Rattle.std.specs.Prelude.{◌≡◌, ◌<◌, ◌≤◌, ℕ, ◌+◌, List, [], ◌∷◌, ◌++◌, length, take}
use Rattle.std.proofs.Common.{sym, ◌∙◌, ap, arith, get_or}
use Rattle.std.proofs.Math.Seq.{take-suc}
use Rattle.std.proofs.Math.Numerals.{add-one}
use Rattle.flash_tree.specs.declared.place.FreshPage.{FreshPage}
use Rattle.chunk_index.specs.declared.index.Index.{Index}
use Rattle.chunk_index.specs.Maps.{present}
use Rattle.chunk_index.specs.declared.form.Present.TheVariants as presents
use Rattle.chunk_index.specs.declared.form.Present.{Present}
use Rattle.page_store.specs.Buffering.{lacks, new_keys}

new_push : (x : Index) (ps : List FreshPage) (p : FreshPage) → new_keys x (ps ++ p ∷ []) ≡ new_keys x ps + lacks (present x p.key.object p.key.chunk)
new_push x [] p = omega arith
new_push x (q ∷ ps) p = omega (arith, new_push x ps p)

pub new_more : (x : Index) (pages : List FreshPage) (n : ℕ) (p : FreshPage) → n < length pages → p ≡ get_or pages n p → new_keys x (take (n + 1) pages) ≡ new_keys x (take n pages) + lacks (present x p.key.object p.key.chunk)
new_more x pages n p lt is = ap (λ k. new_keys x (take k pages)) (add-one n) ∙ ap (new_keys x) (take-suc pages n p lt) ∙ ap (λ (q : FreshPage). new_keys x (take n pages ++ q ∷ [])) (sym is) ∙ new_push x (take n pages) p

few_lack : (a : Present) → lacks a ≤ 1
few_lack presents.Absent = omega arith
few_lack (presents.OnFlash k) = omega arith
few_lack (presents.InBuffer i) = omega arith

-- there are no more new keys than pages
pub new_few : (x : Index) (pages : List FreshPage) → new_keys x pages ≤ length pages
new_few x [] = omega arith
new_few x (p ∷ ps) = omega (arith, few_lack (present x p.key.object p.key.chunk), new_few x ps)
