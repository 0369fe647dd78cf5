-- Bytes that are those of pages, one after the other.
use Rattle.std.specs.Prelude.{◌≡◌, ◌<◌, ◌≤◌, ℕ, zero, suc, ◌+◌, ◌*◌, List, [], ◌∷◌, ◌++◌, length, take, drop}
use Rattle.std.proofs.Common.{refl, sym, ◌∙◌, ap, ap₂, arith, length-drop, drop-drop}
use Rattle.std.proofs.Math.Nat.{mul-le-mul_right}
use Rattle.std.proofs.lemmas.List.{take_at, drop_at, drop-take, take-append-drop, length-take-le}
use Rattle.std.proofs.lemmas.Slice.{take-put_mid_below}
use borrow.Rule.Slice.PartMut.{put_mid}
use Rattle.mount_scan.specs.SummaryGroups.{page_in}

-- a page lies within the pages
pub page_within : (i n d : ℕ) → i < n → i * d + d ≤ n * d
page_within i n d lt =
    let le : (i + 1) * d ≤ n * d = mul-le-mul_right d (omega (arith, lt)) in
    let one : (i + 1) * d ≡ i * d + d = grind arith in
    omega (arith, le, one)

-- a page by its end
page_ends : (d : ℕ) (bytes : List ℕ) (i : ℕ) → page_in d bytes i ≡ drop (i * d) (take (i * d + d) bytes)
page_ends d bytes i = sym (drop-take (i * d) d bytes)

-- the page that was written there
pub page_put : (d i k : ℕ) (bytes page : List ℕ) → i * d ≤ length bytes → length page ≡ d → page_in d (put_mid (i * d) k bytes page) i ≡ page
page_put d i k bytes page le len =
    ap (take d) (drop_at (take (i * d) bytes) (page ++ drop k (drop (i * d) bytes)) (i * d) (length-take-le (i * d) bytes le)) ∙ take_at page (drop k (drop (i * d) bytes)) d len

-- and those before it
pub page_committed : (d i j k : ℕ) (bytes page : List ℕ) → i * d ≤ length bytes → j < i → page_in d (put_mid (i * d) k bytes page) j ≡ page_in d bytes j
page_committed d i j k bytes page le lt =
    page_ends d (put_mid (i * d) k bytes page) j ∙ ap (drop (j * d)) (take-put_mid_below (i * d) k bytes page (j * d + d) (page_within j i d lt) le) ∙ sym (page_ends d bytes j)

-- bytes with the same pages are the same
pub same_pages : (d n : ℕ) (xs ys : List ℕ) → length xs ≡ n * d → length ys ≡ n * d → ((i : ℕ) → i < n → page_in d xs i ≡ page_in d ys i) → xs ≡ ys
same_pages d zero [] [] len len' same = refl
same_pages d zero [] (y ∷ ys) len len' same = absurd (omega (arith, len'))
same_pages d zero (x ∷ xs) ys len len' same = absurd (omega (arith, len))
same_pages d (suc n) xs ys len len' same =
    let size : suc n * d ≡ d + n * d = grind arith in
    let start : 0 * d ≡ 0 = omega arith in
    let first : take d xs ≡ take d ys = ap (λ k. take d (drop k xs)) (sym start) ∙ same 0 (omega arith) ∙ ap (λ k. take d (drop k ys)) start in
    let rest : drop d xs ≡ drop d ys =
    same_pages d n (drop d xs) (drop d ys) (omega (arith, len, size, length-drop d xs)) (omega (arith, len', size, length-drop d ys)) (λ i lt.
    let at : d + i * d ≡ (i + 1) * d = grind arith in
    ap (take d) (drop-drop (i * d) d xs) ∙ ap (λ k. take d (drop k xs)) at ∙ same (i + 1) (omega (arith, lt)) ∙ ap (λ k. take d (drop k ys)) (sym at) ∙ ap (take d) (sym (drop-drop (i * d) d ys))) in
    sym (take-append-drop d xs) ∙ ap₂ ◌++◌ first rest ∙ take-append-drop d ys
