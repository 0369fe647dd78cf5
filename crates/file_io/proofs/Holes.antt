-- How many of some chunks have a page.
use Rattle.std.proofs.Common.{◌≡◌, ◌≤◌, ◌<◌, ◌+◌, ◌-◌, ◌/◌, ℕ, zero, suc, sym, subst, min, arith}
use Rattle.file_io.proofs.Ranges.{asked_for}
use Rattle.pages.specs.Maps.{PageMap}
use Rattle.file_io.specs.Chunks.{chunks_over, one_page, count_pages}

-- among more chunks are no fewer pages
pub count_more : (m : PageMap) (o k n more : ℕ) → count_pages m o k n ≤ count_pages m o k (n + more)
count_more m o k n zero =
    let same : n ≡ n + 0 = omega arith in
    subst (λ x. count_pages m o k n ≤ count_pages m o k x) same (omega arith)
count_more m o k n (suc more) =
    let next : suc (n + more) ≡ n + suc more = omega arith in
    let one : count_pages m o k n ≤ count_pages m o k (suc (n + more)) = omega (arith, count_more m o k n more) in
    subst (λ x. count_pages m o k n ≤ count_pages m o k x) next one

pub count_most : (m : PageMap) (o k n n' : ℕ) → n ≤ n' → count_pages m o k n ≤ count_pages m o k n'
count_most m o k n n' less = subst (λ x. count_pages m o k n ≤ count_pages m o k x) (omega (arith, less)) (count_more m o k n (n' - n))

-- with one more chunk, its page is in the count too
pub count_next : (m : PageMap) (o first index issued now new : ℕ) → first ≤ index → now ≤ issued + count_pages m o (1 + first) (index - first)
    → new ≤ now + one_page (m o (1 + index)) → new ≤ issued + count_pages m o (1 + first) (index + 1 - first)
count_next m o first index issued now new low before one =
    let next : index + 1 - first ≡ suc (index - first) = omega (arith, low) in
    let here : 1 + first + (index - first) ≡ 1 + index = omega (arith, low) in
    let there : new ≤ now + one_page (m o (1 + first + (index - first))) = subst (λ n. new ≤ now + one_page (m o n)) (sym here) one in
    let sum : new ≤ issued + count_pages m o (1 + first) (suc (index - first)) = omega (arith, before, there) in
    subst (λ n. new ≤ issued + count_pages m o (1 + first) n) (sym next) sum

-- no more is looked up than the pages among the chunks of the range
pub counted_for : (d size off count len end got : ℕ) (m : PageMap) (o first now : ℕ) → d ≡ size → end ≡ min len (off + count) → off < end
    → now ≤ first + count_pages m o (1 + off / d) got → got ≤ (end - 1) / d + 1 - off / d
    → now ≤ first + count_pages m o (1 + off / size) (chunks_over size off (min count (len - off)))
counted_for d size off count len end got m o first now same is some issued within_limit =
    let fewer : got ≤ 0 + chunks_over size off (min count (len - off)) =
    asked_for d size off count len end 0 got got same is some (omega arith) within_limit in
    let most : count_pages m o (1 + off / d) got ≤ count_pages m o (1 + off / d) (chunks_over size off (min count (len - off))) = count_most m o (1 + off / d) got (chunks_over size off (min count (len - off))) (omega (arith, fewer)) in
    subst (λ k. now ≤ first + count_pages m o (1 + off / k) (chunks_over size off (min count (len - off)))) same (omega (arith, issued, most))
