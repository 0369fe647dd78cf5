-- What a block has as its whole summary is one.
use Rattle.std.specs.Prelude.{◌≡◌, ◌<◌, ◌≤◌, ℕ, zero, suc, ◌+◌, ◌-◌, ◌*◌, List, [], ◌∷◌, ◌++◌, length, take, drop, replicate, flat_map, All}
use Rattle.std.proofs.Common.{refl, sym, ◌∙◌, ap, subst, arith, append_assoc, length-append, length-drop, drop-drop}
use Rattle.std.proofs.lemmas.List.{take-append-drop, length-replicate}
use Rattle.nand_model.specs.Flash.{Flash, Written}
use Rattle.nand_model.specs.declared.geometry.Geometry.{Geometry}
use Rattle.page_tags.specs.declared.tag.Tag.{Tag}
use Rattle.page_tags.specs.declared.check.CheckEntry.{CheckEntry}
use Rattle.page_tags.specs.declared.summary_head.SummaryHead.{SummaryHead}
use Rattle.page_tags.specs.Tags.{tag_bytes}
use Rattle.page_tags.specs.Checks.{check_entry_bytes, check_entry_in, IsCheckEntry}
use Rattle.page_tags.specs.Summaries.{head_bytes, head_in, summary_bytes, IsHead}
use Rattle.page_tags.specs.laws.Check.{entry_read}
use Rattle.page_tags.specs.laws.Summary.{head_read}
use Rattle.volume_terms.specs.Rounding.{ceiling}
use Rattle.flash_tree.specs.Groups.{HasTag, IsGroup}
use Rattle.flash_tree.specs.Summaries.{Summary, summary_group, summary_tag, summary_page, IsWholeSummary}
use Rattle.flash_tree.specs.laws.Newest.{one_tag}

-- ---- lists of parts

-- lists of so many parts are one where their parts are
same_parts : (d n : ℕ) (xs ys : List ℕ) → length xs ≤ n * d → length ys ≤ n * d → ((i : ℕ) → i < n → take d (drop (i * d) xs) ≡ take d (drop (i * d) ys)) → xs ≡ ys
same_parts d zero [] [] within_limit few' each = refl
same_parts d zero (x ∷ xs) ys within_limit few' each = absurd (omega (arith, within_limit))
same_parts d zero [] (y ∷ ys) within_limit few' each = absurd (omega (arith, few'))
same_parts d (suc n) xs ys within_limit few' each =
    let none : 0 * d ≡ 0 = omega arith in
    let first : take d xs ≡ take d ys = ap (λ k. take d (drop k xs)) (sym none) ∙ each 0 (omega arith) ∙ ap (λ k. take d (drop k ys)) none in
    let size : suc n * d ≡ d + n * d = grind arith in
    let less : (l : List ℕ) → length l ≤ suc n * d → length (drop d l) ≤ n * d = λ l le. let len = length-drop d l in omega (arith, len, le, size) in
    let rest : drop d xs ≡ drop d ys = same_parts d n (drop d xs) (drop d ys) (less xs within_limit) (less ys few') (λ i lt.
    let next : d + i * d ≡ suc i * d = grind arith in
    let at : (l : List ℕ) → drop (i * d) (drop d l) ≡ drop (suc i * d) l = λ l. drop-drop (i * d) d l ∙ ap (λ k. drop k l) next in
    ap (take d) (at xs) ∙ each (suc i) (omega (arith, lt)) ∙ ap (take d) (sym (at ys))) in
    sym (take-append-drop d xs) ∙ ap (λ v. v ++ drop d xs) first ∙ ap (λ v. take d ys ++ v) rest ∙ take-append-drop d ys

-- fronts of one length are one
fronts : (xs ys us vs : List ℕ) → length xs ≡ length ys → xs ++ us ≡ ys ++ vs → (xs ≡ ys) × (us ≡ vs)
fronts [] [] us vs len same = (refl, same)
fronts [] (y ∷ ys) us vs len same = absurd (omega arith)
fronts (x ∷ xs) [] us vs len same = absurd (omega arith)
fronts (x ∷ xs) (y ∷ ys) us vs len same =
    let head : x ≡ y = cc in
    let tail : xs ++ us ≡ ys ++ vs = cc in
    let rest = fronts xs ys us vs (omega arith) tail in
    (ap (λ v. v ∷ xs) head ∙ ap (λ v. y ∷ v) rest.0, rest.1)

length-head : (h : SummaryHead) → length (head_bytes h) ≡ 32
unfolding head_bytes
length-head h = omega arith

length-entry : (e : CheckEntry) → length (check_entry_bytes e) ≡ 32
unfolding check_entry_bytes
length-entry e = omega arith

length-entries : (es : List CheckEntry) → length (flat_map check_entry_bytes es) ≡ 32 * length es
length-entries [] = refl
length-entries (e ∷ es) =
    let first = length-entry e in
    let rest = length-entries es in
    let both : length (check_entry_bytes e ++ flat_map check_entry_bytes es) ≡ length (check_entry_bytes e) + length (flat_map check_entry_bytes es) = length-append (check_entry_bytes e) (flat_map check_entry_bytes es) in
    omega (arith, first, rest, both)

-- so many entries are what their bytes say
same_entries : (es fs : List CheckEntry) (us vs : List ℕ) → length es ≡ length fs → All IsCheckEntry es → All IsCheckEntry fs → flat_map check_entry_bytes es ++ us ≡ flat_map check_entry_bytes fs ++ vs → es ≡ fs
same_entries [] [] us vs len right right' same = refl
same_entries [] (f ∷ fs) us vs len right right' same = absurd (omega arith)
same_entries (e ∷ es) [] us vs len right right' same = absurd (omega arith)
same_entries (e ∷ es) (f ∷ fs) us vs len right right' same =
    let parts = fronts (check_entry_bytes e) (check_entry_bytes f) (flat_map check_entry_bytes es ++ us) (flat_map check_entry_bytes fs ++ vs) (length-entry e ∙ sym (length-entry f))
    (sym (append_assoc (check_entry_bytes e) (flat_map check_entry_bytes es) us) ∙ same ∙ append_assoc (check_entry_bytes f) (flat_map check_entry_bytes fs) vs) in
    let first : e ≡ f = sym (entry_read e (right 0 e (omega arith))) ∙ ap check_entry_in parts.0 ∙ entry_read f (right' 0 f (omega arith)) in
    let rest : es ≡ fs = same_entries es fs us vs (omega (arith, len)) (λ k d lt. right (suc k) d (omega (arith, lt))) (λ k d lt. right' (suc k) d (omega (arith, lt))) parts.1 in
    ap (λ x. x ∷ es) first ∙ ap (λ xs. f ∷ xs) rest

-- the bytes of a summary fill its pages
length-summary : (size : ℕ) (h : SummaryHead) (es : List CheckEntry) → 32 * (1 + length es) ≤ size → length (summary_bytes size h es) ≡ size
length-summary size h es fits =
    let rest = replicate (size - 32 * (1 + length es)) 0 in
    let zeros : length rest ≡ size - 32 * (1 + length es) = length-replicate (size - 32 * (1 + length es)) 0 in
    let most = length-append (head_bytes h) (flat_map check_entry_bytes es) in
    let all = length-append (head_bytes h ++ flat_map check_entry_bytes es) rest in
    let front = length-head h in
    let middle = length-entries es in
    omega (arith, zeros, most, all, front, middle, fits)

-- what is said in so many bytes is one
same_said : (size : ℕ) (h k : SummaryHead) (es fs : List CheckEntry) → IsHead h → IsHead k → h.entries ≡ length es → k.entries ≡ length fs
    → All IsCheckEntry es → All IsCheckEntry fs → summary_bytes size h es ≡ summary_bytes size k fs → (h ≡ k) × (es ≡ fs)
same_said size h k es fs right right' count count' each each' same =
    let zeros : List CheckEntry → List ℕ = λ xs. replicate (size - 32 * (1 + length xs)) 0 in
    let join : (x : SummaryHead) (xs : List CheckEntry) → summary_bytes size x xs ≡ head_bytes x ++ (flat_map check_entry_bytes xs ++ zeros xs) = λ x xs.
    append_assoc (head_bytes x) (flat_map check_entry_bytes xs) (zeros xs) in
    let parts = fronts (head_bytes h) (head_bytes k) (flat_map check_entry_bytes es ++ zeros es) (flat_map check_entry_bytes fs ++ zeros fs)
    (length-head h ∙ sym (length-head k)) (sym (join h es) ∙ same ∙ join k fs) in
    let heads : h ≡ k = sym (head_read h right) ∙ ap head_in parts.0 ∙ head_read k right' in
    (heads, same_entries es fs _ _ (sym count ∙ ap (λ (x : SummaryHead). x.entries) heads ∙ count') each each' parts.1)

-- ---- whole summaries

-- what is some at all is at least one part
ceiling_least : (n d : ℕ) → 1 ≤ d → 1 ≤ n → 1 ≤ ceiling n d
ceiling_least n d some more = grind arith

-- and the parts reach to the end
ceiling_reaches : (n d : ℕ) → 1 ≤ d → n ≤ ceiling n d * d
ceiling_reaches n d some = grind arith

module _ (g : Geometry) (flash : Flash) where
  pub some_pages : (s : Summary) → IsWholeSummary g flash s → 1 ≤ s.size
  some_pages s whole =
      let most = ceiling_least (32 * (1 + length s.entries)) g.bytes (omega (arith, g.least_bytes)) (omega arith) in
      omega (arith, most, whole.form.size)

  -- each page of a whole summary has its tag
  pub part_tag : (s : Summary) → IsWholeSummary g flash s → (i : ℕ) → i < s.size → HasTag flash s.block (0 + i) (summary_tag s i)
  part_tag s whole i lt = record { bytes = summary_page g.bytes s i; page = (whole.pages i lt).0; valid = (whole.pages i lt).1 }

  -- and so has page 0, with which it begins
  pub first_tag : (s : Summary) → IsWholeSummary g flash s → HasTag flash s.block 0 (summary_tag s 0)
  first_tag s whole = part_tag s whole 0 (some_pages s whole)

  pub group_whole : (s : Summary) → IsWholeSummary g flash s → IsGroup flash (summary_group s)
  group_whole s whole = record {
    good = whole.good;
    some = some_pages s whole;
    each = λ i lt. record { tag = summary_tag s i; has = part_tag s whole i lt; index = refl; count = refl; group = refl; seq = refl };
  }

  -- what a summary says has room in its pages
  room : (s : Summary) → IsWholeSummary g flash s → 32 * (1 + length s.entries) ≤ s.size * g.bytes
  room s whole =
      let reach = ceiling_reaches (32 * (1 + length s.entries)) g.bytes (omega (arith, g.least_bytes)) in
      let size : s.size * g.bytes ≡ ceiling (32 * (1 + length s.entries)) g.bytes * g.bytes = ap (λ n. n * g.bytes) whole.form.size in
      omega (arith, reach, size)

  -- what a block has as its whole summary is one
  pub same_summary : (s t : Summary) → IsWholeSummary g flash s → IsWholeSummary g flash t → s.block ≡ t.block → s ≡ t
  same_summary s t whole other block =
      let tags : summary_tag s 0 ≡ summary_tag t 0 = one_tag flash t.block 0 (summary_tag s 0) (summary_tag t 0) (subst (λ k. HasTag flash k 0 (summary_tag s 0)) block (first_tag s whole)) (first_tag t other) in
      let size : s.size ≡ t.size = ap (λ (x : Tag). x.count) tags in
      let number : s.number ≡ t.number = ap (λ (x : Tag). x.group) tags in
      let seq : s.seq ≡ t.seq = ap (λ (x : Tag). x.seq) tags in
      let pages : (i : ℕ) → i < s.size → summary_page g.bytes s i ≡ summary_page g.bytes t i = λ i lt.
      let two : Written (summary_page g.bytes s i) (tag_bytes (summary_tag s i)) ≡ Written (summary_page g.bytes t i) (tag_bytes (summary_tag t i)) =
      sym (whole.pages i lt).0 ∙ ap (λ k. flash.page k (0 + i)) block ∙ (other.pages i (omega (arith, lt, size))).0 in
      cc in
      let full = length-summary (s.size * g.bytes) s.head s.entries (room s whole) in
      let full' = length-summary (t.size * g.bytes) t.head t.entries (room t other) in
      let sizes : s.size * g.bytes ≡ t.size * g.bytes = ap (λ n. n * g.bytes) size in
      let bytes = same_parts g.bytes s.size (summary_bytes (s.size * g.bytes) s.head s.entries) (summary_bytes (t.size * g.bytes) t.head t.entries) (omega (arith, full)) (omega (arith, full', sizes)) pages in
      let said = same_said (t.size * g.bytes) s.head t.head s.entries t.entries whole.form.head other.form.head whole.form.count other.form.count
      (λ k d lt. (whole.form.each k d lt).entry) (λ k d lt. (other.form.each k d lt).entry) (ap (λ n. summary_bytes n s.head s.entries) (sym sizes) ∙ bytes) in
      λ i. record { block = block i; size = size i; number = number i; seq = seq i; head = said.0 i; entries = said.1 i }
