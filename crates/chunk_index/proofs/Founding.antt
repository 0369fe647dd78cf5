-- The adding of the pages of a scan, bucket by bucket.
use Rattle.std.proofs.Common.{◌≡◌, ℕ, ◌+◌, ◌-◌, ◌<◌, ◌^◌, List, length, get_or, slice_get, Some, None, sym, ap, subst, ◌∙◌, arith, inl, inr}
use Rattle.std.specs.Prelude.{map}
use Rattle.std.specs.List.{AllPairs}
use Rattle.std.proofs.lemmas.Bool.{cases_eq, cases_lt}
use Rattle.std.proofs.lemmas.List.{length-map}
use Rattle.std.proofs.lemmas.Option.{get_or_from_slice_get, slice_get-get_or, slice_get_within}
use Rattle.mount_scan.specs.declared.page_copy.PageCopy.{PageCopy}
use Rattle.mount_scan.specs.Keys.{HaveOtherKeys}
use Rattle.mount_scan.specs.Listed.{IsPartAt}
use Rattle.chunk_index.specs.declared.form.CommittedKey.{CommittedKey}
use Rattle.chunk_index.specs.Adding.{copy_key, AreOfOtherKeys, AreInPages, AreLow, AreWithin, AreAbsent, AddsFirst}
use Rattle.chunk_index.specs.Entries.{committed_at}
use Rattle.chunk_index.specs.Found.{HasPages}
use Rattle.chunk_index.specs.Newest.{page_of, IsFoundOf, LieInPages, LieLow, LieWithin}
use Rattle.chunk_index.specs.Shelves.{ObjectMap, look, Differs}
use Rattle.chunk_index.proofs.Adding.{mapped, mapped_from}

-- keys that are not one differ
keys_differ : (f g : PageCopy) → HaveOtherKeys f g → Differs f.object f.chunk g.object g.chunk
keys_differ f g other = elim (cases_eq f.object g.object) [
  | inr ne ↦ inl (λ is. ne (sym is))
  | inl object ↦ elim (cases_eq f.chunk g.chunk) [ inr ne ↦ inr (λ is. ne (sym is)) | inl chunk ↦ absurd (other (object, chunk)) ]
]

-- before the first page there is no entry
pub pages_none : (fs : List PageCopy) (m : ObjectMap) → ((o c : ℕ) → look m o c ≡ None) → HasPages fs 0 m
pages_none fs m empty = record {
  done = λ i d lt. absurd (omega (arith, lt));
  rest = λ o c n. empty o c;
}

module _ (fs : List PageCopy) (n : ℕ) (part : List PageCopy) (at : IsPartAt fs n part) where
  -- a page of the part stands in the list
  there : (i : ℕ) (f d : PageCopy) → slice_get part i ≡ Some f → get_or fs (n + i) d ≡ f
  there i f d is = at.each i d (slice_get_within part i f is) ∙ get_or_from_slice_get part i f d is

  pub part_once : AllPairs HaveOtherKeys fs → AreOfOtherKeys (map copy_key part)
  part_once once i j k l lt is also =
      let one = mapped_from copy_key part i k is in
      let two = mapped_from copy_key part j l also in
      let less = slice_get_within part j two.0 two.1 in
      let other : HaveOtherKeys (get_or fs (n + i) one.0) (get_or fs (n + j) one.0) = once (n + i) (n + j) one.0 (omega (arith, lt)) (omega (arith, less, at.within)) in
      let apart : HaveOtherKeys one.0 two.0 = subst (λ (g : PageCopy). HaveOtherKeys one.0 g) (there j two.0 one.0 two.1) (subst (λ (f : PageCopy). HaveOtherKeys f (get_or fs (n + j) one.0)) (there i one.0 one.0 one.1) other) in
      subst (λ (g : CommittedKey). Differs k.key.object k.key.chunk g.key.object g.key.chunk) two.2
      (subst (λ (f : CommittedKey). Differs f.key.object f.key.chunk two.0.object two.0.chunk) one.2 (keys_differ one.0 two.0 apart))

  pub part_within : (blocks : ℕ) → LieWithin blocks fs → AreWithin blocks (map copy_key part)
  part_within blocks within i k is =
      let one = mapped_from copy_key part i k is in
      let less = slice_get_within part i one.0 one.1 in
      let lies : one.0.block < blocks = subst (λ (f : PageCopy). f.block < blocks) (there i one.0 one.0 one.1) (within (n + i) one.0 (omega (arith, less, at.within))) in
      subst (λ (g : CommittedKey). g.at.block < blocks) one.2 lies

  pub part_low : LieLow fs → AreLow (map copy_key part)
  part_low low i k is =
      let one = mapped_from copy_key part i k is in
      let less = slice_get_within part i one.0 one.1 in
      let lies : one.0.chunk < 2 ^ 32 = subst (λ (f : PageCopy). f.chunk < 2 ^ 32) (there i one.0 one.0 one.1) (low (n + i) one.0 (omega (arith, less, at.within))) in
      subst (λ (g : CommittedKey). g.key.chunk < 2 ^ 32) one.2 lies

  pub part_in_pages : (pages : ℕ) → LieInPages pages fs → AreInPages pages (map copy_key part)
  part_in_pages pages within i k is =
      let one = mapped_from copy_key part i k is in
      let less = slice_get_within part i one.0 one.1 in
      let lies : one.0.page < pages = subst (λ (f : PageCopy). f.page < pages) (there i one.0 one.0 one.1) (within (n + i) one.0 (omega (arith, less, at.within))) in
      subst (λ (g : CommittedKey). g.at.page < pages) one.2 lies

  module _ (old : ObjectMap) (once : AllPairs HaveOtherKeys fs) (has : HasPages fs n old) where
    -- no page before the part is of the key of one in it
    before_other : (i j : ℕ) (f d : PageCopy) → slice_get part i ≡ Some f → j < n → IsFoundOf f.object f.chunk (get_or fs j d) → ⊥
    before_other i j f d is lt of =
        let less = slice_get_within part i f is in
        let other : HaveOtherKeys (get_or fs j d) (get_or fs (n + i) d) = once j (n + i) d (omega (arith, lt)) (omega (arith, less, at.within)) in
        subst (λ (g : PageCopy). HaveOtherKeys (get_or fs j d) g) (there i f d is) other of

    pub part_absent : AreAbsent (map copy_key part) old
    part_absent i k is =
        let one = mapped_from copy_key part i k is in
        let f : PageCopy = one.0 in
        subst (λ (g : CommittedKey). look old g.key.object g.key.chunk ≡ None) one.2 (has.rest f.object f.chunk (λ j d lt of. before_other i j f d one.1 lt of))

    -- the pages of the part are added
    has_more : (new : ObjectMap) → AddsFirst (map copy_key part) (length part) old new → HasPages fs (n + length part) new
    has_more new adds = record {
      done = λ i d lt. elim (cases_lt i n) [
        | inl less ↦
            let g : PageCopy = get_or fs i d in
            adds.rest g.object g.chunk (λ j k within is of.
            let one = mapped_from copy_key part j k is in
            let same : copy_key one.0 ≡ k = one.2 in
            before_other j i one.0 d one.1 less (sym of.0 ∙ ap (λ (y : CommittedKey). y.key.object) (sym same), sym of.1 ∙ ap (λ (y : CommittedKey). y.key.chunk) (sym same))) ∙ has.done i d less
        | inr ge ↦
            let j : i - n < length part = omega (arith, lt, ge) in
            let same : n + (i - n) ≡ i = omega (arith, ge) in
            let f : PageCopy = get_or part (i - n) d in
            let is : slice_get part (i - n) ≡ Some f = slice_get-get_or part (i - n) d j in
            let here : get_or fs i d ≡ f = ap (λ k. get_or fs k d) (sym same) ∙ there (i - n) f d is in
            subst (λ (g : PageCopy). look new g.object g.chunk ≡ Some (committed_at g.chunk (Some (page_of g)))) (sym here) (adds.done (i - n) (copy_key f) j (mapped copy_key part (i - n) f is))
      ];
      rest = λ o c none.
          adds.rest o c (λ j k lt is of.
          let one = mapped_from copy_key part j k is in
          let same : copy_key one.0 ≡ k = one.2 in
          let found : IsFoundOf o c one.0 = (ap (λ (y : CommittedKey). y.key.object) same ∙ of.0, ap (λ (y : CommittedKey). y.key.chunk) same ∙ of.1) in
          none (n + j) one.0 (omega (arith, lt)) (subst (IsFoundOf o c) (sym (there j one.0 one.0 one.1)) found))
          ∙ has.rest o c (λ i d lt. none i d (omega (arith, lt)));
    }

    pub part_more : (new : ObjectMap) → AddsFirst (map copy_key part) (length (map copy_key part)) old new → HasPages fs (n + length part) new
    part_more new adds = has_more new (subst (λ k. AddsFirst (map copy_key part) k old new) (length-map part copy_key) adds)
