-- A change of a file's length as a whole: the tail, the cut and the header.
use Rattle.std.specs.Prelude.{◌≡◌, ◌⊎◌, ◌<◌, ◌≤◌, ℕ, zero, suc, ◌+◌, ◌-◌, ◌*◌, ◌/◌, ◌^◌, true, false, List, [], ◌∷◌, ◌++◌, length, slice_get, Some, None}
use Rattle.std.proofs.Common.{refl, sym, ◌∙◌, ap, subst, inl, inr, arith}
use Rattle.std.proofs.Math.Nat.{div-mul-le_self, lt-div-mul-add}
use Rattle.std.proofs.lemmas.Bool.{cases_lt, cases_Bool}
use Rattle.page_tags.specs.HeaderFields.{file_fields}
use Rattle.page_tags.specs.Headers.{Fields, IsHeader, IsBytes, MayBeSet, header_bytes, is_present}
use Rattle.page_tags.specs.declared.header.ObjectKind.TheVariants as kinds
use Rattle.posix_profile.specs.Changes.{resized}
use Rattle.volume_terms.specs.Sizes.{Sizes}
use Rattle.volume_terms.specs.laws.List.{push_last}
use Rattle.pages.specs.Maps.{PageMap, with_pages, without_cuts, after_change}
use Rattle.pages.specs.laws.Maps.{page_here, cut_here, cut_elsewhere}
use Rattle.pages.specs.State.{PagesState}
use Rattle.pages.specs.declared.change.Change.{Change}
use Rattle.pages.specs.declared.change.Cut.{Cut}
use Rattle.flash_tree.specs.declared.place.FreshPage.{FreshPage}
use Rattle.file_io.specs.Files.{FileIn, Becomes}
use Rattle.file_io.specs.Chunks.{AreOf, HoldChunks, IsTail, IsAmong}
use Rattle.file_io.specs.Cuts.{CutsFrom}
use Rattle.file_io.proofs.Becoming.{becomes}
use Rattle.file_io.proofs.PageLists.{hold_push}
use Rattle.file_io.proofs.WholeWrites.{OrHeader, but_header, header_push, header_valid}
use Rattle.file_io.proofs.WriteChunks.{resize_chunks}
use Rattle.file_io.proofs.Written.{length-resized, grown_at}

-- one cut from a chunk on
pub one_cut : (o committed chunks : ℕ) → committed < chunks → (x : Cut) → x.object ≡ o → x.from ≡ 1 + committed → CutsFrom o committed chunks (x ∷ [])
one_cut o committed chunks more x object from = record {
  only = λ p c i is. only p c i is.cut is.there is.object is.chunk;
  all = λ c less past. (0, record { cut = x; there = refl; object = object; chunk = omega (arith, from, past) });
  within_limit = omega arith;
}
  where
    only : (p c i : ℕ) (y : Cut) → slice_get (x ∷ []) i ≡ Some y → y.object ≡ p → y.from ≤ c → (p ≡ o) × (1 + committed ≤ c) × (committed < chunks)
    only p c zero y there is past =
        let one : x ≡ y = cc in
        let at : x.from ≤ c = subst (λ (w : Cut). w.from ≤ c) (sym one) past in
        (sym is ∙ ap (λ (w : Cut). w.object) (sym one) ∙ object, omega (arith, from, at), more)
    only p c (suc i) y there is past = let two : None ≡ Some y = there in absurd cc

-- rounded up
pub ceil_high : (n d : ℕ) → 1 ≤ d → n ≤ (n + d - 1) / d * d
ceil_high n d some = let up : n + d - 1 < (n + d - 1) / d * d + d = lt-div-mul-add (omega (arith, some)) in omega (arith, up, some)

pub ceil_low : (n d : ℕ) → 1 ≤ d → (n + d - 1) / d * d < n + d
ceil_low n d some = omega (arith, div-mul-le_self (n + d - 1) d, some)

-- a bit of the header is of a chunk of the file
pub bit_within : (d : ℕ) (f : Fields) (len k : ℕ) → IsHeader d f → f.kind ≡ kinds.File → f.length ≡ len → is_present f.bits (1 + k) ≡ true → 1 + k ≤ (len + d - 1) / d
bit_within d f len k valid kind is set =
    subst (λ n. 1 + k ≤ (n + d - 1) / d) is (subst (λ q. MayBeSet d q f.length (1 + k)) kind (valid.within (1 + k) (omega arith) set))

-- the bits after the cut
pub resize_valid : (d len was : ℕ) (old : List ℕ) → IsHeader d (file_fields len was old) → (n moment : ℕ) (bits : List ℕ) → n ≤ 8 * (d - 32) * d → moment < 2 ^ 64 → length bits ≡ length old → IsBytes bits
    → ((k : ℕ) → (n + d - 1) / d ≤ k → k < (len + d - 1) / d → is_present bits (1 + k) ≡ false)
    → ((k : ℕ) → (k < (n + d - 1) / d) ⊎ ((len + d - 1) / d ≤ k) → is_present bits (1 + k) ≡ is_present old (1 + k)) → IsHeader d (file_fields n moment bits)
resize_valid d len was old is n moment bits fits when room bytes cleared others = header_valid d len was old is n moment bits when fits room bytes within
  where
    within : (k : ℕ) → is_present bits (1 + k) ≡ true → 1 + k ≤ (n + d - 1) / d
    within k set = elim (cases_lt k ((n + d - 1) / d)) [
      | inl low ↦ omega (arith, low)
      | inr past ↦ elim (cases_lt k ((len + d - 1) / d)) [
        | inl inside ↦ let two : true ≡ false = sym set ∙ cleared k past inside in absurd cc
        | inr behind ↦
            let was_set : 1 + k ≤ (len + d - 1) / d = is.within (1 + k) (omega arith) (sym (others k (inr behind)) ∙ set) in
            absurd (omega (arith, was_set, behind))
      ]
    ]

-- what the tail held, it holds of the file that grew
pub tail_grows : (o d len limit n : ℕ) (bits all : List ℕ) (pages : List FreshPage) → (length all < n ⊎ (limit ≡ 0)) → AreOf o (IsTail d len bits limit) pages → HoldChunks d all pages → HoldChunks d (resized all n) pages
tail_grows o d len limit n bits all pages (inl grows) of hold i k p is chunk =
    let was = hold i k p is chunk in
    record { size = was.size; each = λ j less. was.each j less ∙ sym (grown_at all n (omega (arith, grows)) (k * d + j)) }
tail_grows o d len limit n bits all pages (inr none) of hold i k p is chunk = absurd (omega (arith, none, (of.each i p is).1.before))

module _ (p : PagesState) (z : Sizes) (o before : ℕ) (all : List ℕ) (f : FileIn p z o before all) (d : ℕ) (size : d ≡ z.page_bytes) (some : 1 ≤ d)
    (len : ℕ) (len_is : len ≡ length all) (was : List ℕ) (was_is : was ≡ f.reads.fields.bits) (n moment : ℕ) where
  -- a file that has the length and the moment already
  pub resize_same : n ≡ len → f.reads.fields.moment ≡ moment → (change : Change) → change.pages.items ≡ [] → change.cuts.items ≡ [] → Becomes z p.present (after_change change p.present) o f.reads.fields 0 0 moment (resized all n)
  resize_same is when change no_pages no_cuts =
      let stays = λ (c : ℕ). keeps change no_pages no_cuts c in
      becomes p z o before moment all (resized all n) f d size some (after_change change p.present) f.reads.fields (stays 0 ∙ f.reads.has.0)
      (subst (λ x. IsHeader x f.reads.fields) (sym size) f.reads.has.1) f.reads.kind when (f.reads.size ∙ sym len_is ∙ sym is ∙ sym (length-resized all n))
      (λ k. inr (inl (record {
        page = stays (1 + k);
        set = refl;
        same = λ j less within. grown_at all n (omega (arith, is, len_is)) (k * d + j);
        hole = λ j less within past. absurd (omega (arith, within, past, is, len_is, length-resized all n));
      })))
      0 0 (λ k low high. absurd (omega (arith, high))) (λ k is. inl is)
    where
      keeps : (change : Change) → change.pages.items ≡ [] → change.cuts.items ≡ [] → (c : ℕ) → after_change change p.present o c ≡ p.present o c
      keeps change no_pages no_cuts c =
          ap (λ (xs : List FreshPage). with_pages xs (without_cuts change.cuts.items p.present) o c) no_pages ∙ ap (λ (xs : List Cut). without_cuts xs p.present o c) no_cuts

  module _ (limit : ℕ) (grows : len < n → limit ≡ (n + d - 1) / d) (stays : n ≤ len → limit ≡ 0) (pages : List FreshPage) (of : AreOf o (IsTail d len was limit) pages) (hold : HoldChunks d all pages)
      (change : Change) (cuts : CutsFrom o ((n + d - 1) / d) ((len + d - 1) / d) change.cuts.items) (q : FreshPage) (items : change.pages.items ≡ pages ++ q ∷ []) (object : q.key.object ≡ o) (chunk : q.key.chunk ≡ 0)
      (bits : List ℕ) (header : q.bytes.items ≡ header_bytes (file_fields n moment bits)) (valid : IsHeader d (file_fields n moment bits))
      (cleared : (k : ℕ) → (n + d - 1) / d ≤ k → k < (len + d - 1) / d → is_present bits (1 + k) ≡ false)
      (others : (k : ℕ) → (k < (n + d - 1) / d) ⊎ ((len + d - 1) / d ≤ k) → is_present bits (1 + k) ≡ is_present was (1 + k)) where
    m : PageMap
    m = without_cuts change.cuts.items p.present

    grown : length all < n ⊎ (limit ≡ 0)
    grown = elim (cases_lt len n) [
      | inl more ↦ inl (omega (arith, more, len_is))
      | inr less ↦ inr (stays less)
    ]

    uncut_before : (c : ℕ) → c < 1 + (n + d - 1) / d → without_cuts change.cuts.items p.present o c ≡ p.present o c
    uncut_before c low = cut_elsewhere change.cuts.items p.present o c (λ i is. omega (arith, low, (cuts.only o c i is).1))

    old_unset : (k : ℕ) → (len + d - 1) / d ≤ k → is_present was (1 + k) ≡ false
    old_unset k past = elim (cases_Bool (is_present was (1 + k))) [
      | inr unset ↦ unset
      | inl set ↦
          let within : 1 + k ≤ (length all + d - 1) / d = bit_within d f.reads.fields (length all) k (subst (λ x. IsHeader x f.reads.fields) (sym size) f.reads.has.1) f.reads.kind f.reads.size
          (ap (λ (xs : List ℕ). is_present xs (1 + k)) (sym was_is) ∙ set) in
          let same : (length all + d - 1) / d ≡ (len + d - 1) / d = ap (λ x. (x + d - 1) / d) (sym len_is) in
          absurd (omega (arith, within, same, past))
    ]

    unset_past : (k : ℕ) → (n + d - 1) / d ≤ k → is_present bits (1 + k) ≡ false
    unset_past k low = elim (cases_lt k ((len + d - 1) / d)) [
      | inl inside ↦ cleared k low inside
      | inr past ↦ others k (inr past) ∙ old_unset k past
    ]

    not_tail : (k : ℕ) → (n + d - 1) / d ≤ k → IsTail d len was limit (1 + k) → ⊥
    not_tail k low tail = elim (cases_lt len n) [
      | inl more ↦ omega (arith, grows more, tail.chunk, tail.before, low)
      | inr less ↦ omega (arith, stays less, tail.before)
    ]

    past : (k : ℕ) → (n + d - 1) / d ≤ k → ((without_cuts change.cuts.items p.present o (1 + k) ≡ p.present o (1 + k)) × (is_present bits (1 + k) ≡ is_present was (1 + k)))
        ⊎ ((IsTail d len was limit (1 + k) → ⊥) × (without_cuts change.cuts.items p.present o (1 + k) ≡ None) × (is_present bits (1 + k) ≡ false))
    past k low = elim (cases_lt ((n + d - 1) / d) ((len + d - 1) / d)) [
      | inl more ↦
          let at = cuts.all (1 + k) more (omega (arith, low)) in
          inr (not_tail k low, cut_here change.cuts.items p.present o (1 + k) at.0 at.1, unset_past k low)
      | inr within_limit ↦ inl (
        cut_elsewhere change.cuts.items p.present o (1 + k) (λ i is. omega (arith, within_limit, (cuts.only o (1 + k) i is).2)),
        unset_past k low ∙ sym (old_unset k (omega (arith, within_limit, low))),
      )
    ]

    old_bit : (k : ℕ) → is_present bits (1 + k) ≡ true → (is_present f.reads.fields.bits (1 + k) ≡ true) ⊎ IsAmong 0 0 (1 + k)
    old_bit k is = elim (cases_lt k ((n + d - 1) / d)) [
      | inl low ↦ inl (ap (λ (xs : List ℕ). is_present xs (1 + k)) (sym was_is) ∙ sym (others k (inl low)) ∙ is)
      | inr high ↦ let two : true ≡ false = sym is ∙ unset_past k high in absurd cc
    ]

    pub resize_new : Becomes z p.present (after_change change p.present) o f.reads.fields 0 0 moment (resized all n)
    resize_new =
        let IsOne : ℕ → Type 0 = IsTail d len was limit in
        let pushed = header_push o (IsTail d len was limit) pages q of (λ tail. omega (arith, tail.chunk)) object chunk in
        let of' = subst (λ (xs : List FreshPage). AreOf o (OrHeader (IsTail d len was limit)) xs) (sym items) pushed in
        let held = tail_grows o d len limit n was all pages grown of hold in
        let hold' = subst (λ (xs : List FreshPage). HoldChunks d (resized all n) xs) (sym items) (hold_push d (resized all n) pages q held (λ k is. absurd (omega (arith, is, chunk)))) in
        let there : slice_get change.pages.items (length pages) ≡ Some q = ap (λ (xs : List FreshPage). slice_get xs (length pages)) items ∙ push_last pages q in
        let at : after_change change p.present o 0 ≡ Some (header_bytes (file_fields n moment bits)) =
        ap (λ k. after_change change p.present k 0) (sym object) ∙ ap (λ k. after_change change p.present q.key.object k) (sym chunk)
        ∙ page_here change.pages.items (without_cuts change.cuts.items p.present) of'.apart (length pages) q there ∙ ap Some header in
        becomes p z o before moment all (resized all n) f d size some (after_change change p.present) (file_fields n moment bits) at valid refl refl (sym (length-resized all n))
        (resize_chunks p z o before all f d size some len len_is was was_is n limit ((n + d - 1) / d) (ceil_low n d some) (ceil_high n d some) (λ more. grows (omega (arith, more, len_is))) (λ less. stays (omega (arith, less, len_is)))
        (OrHeader (IsTail d len was limit)) change.pages.items of' (but_header (IsTail d len was limit)) (λ c is. inl is) hold' bits (λ k low. others k (inl low)) (without_cuts change.cuts.items p.present)
        (λ k low. uncut_before (1 + k) (omega (arith, low))) past)
        0 0 (λ k low high. absurd (omega (arith, high))) old_bit
