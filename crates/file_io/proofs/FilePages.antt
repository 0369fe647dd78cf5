-- What the pages of a file say.
use Rattle.std.specs.Prelude.{◌≡◌, ◌⊎◌, ◌<◌, ◌≤◌, ℕ, ◌+◌, ◌-◌, ◌*◌, ◌/◌, ◌%◌, true, false, List, length, take, drop, replicate, get_or, Some, None}
use Rattle.std.proofs.Common.{sym, ◌∙◌, ap, subst, inl, inr, arith}
use Rattle.std.proofs.lemmas.List.{ext_get_or, get_or-take, get_or-drop, length-take-le, length-drop, length-replicate, get_or-replicate}
use Rattle.std.proofs.lemmas.Nat.{div-mul-add, mod-mul-add}
use Rattle.page_tags.specs.Headers.{Fields, is_present}
use Rattle.flash_tree.specs.Tree.{ByteIs}
use Rattle.volume_terms.specs.Sizes.{Sizes}
use Rattle.pages.specs.Maps.{PageMap, has}
use Rattle.pages.specs.State.{PagesState, OnlyFinds}
use Rattle.file_io.specs.Files.{FileIn, HasOnly}

-- a key has one page
pub one_page : (m : PageMap) (o c : ℕ) (xs ys : List ℕ) → m o c ≡ Some xs → m o c ≡ Some ys → xs ≡ ys
one_page m o c xs ys x y = let two : Some xs ≡ Some ys = sym x ∙ y in cc

-- the file, after a look-up
abbrev pub later : (p q : PagesState) (z : Sizes) (o moment : ℕ) (bytes : List ℕ) → OnlyFinds p q → FileIn p z o moment bytes → FileIn q z o moment bytes
later p q z o moment bytes lookups f = record {
  sound = lookups.sound ∙ f.sound;
  size = f.size ∙ sym lookups.page_bytes;
  reads = record {
    fields = f.reads.fields;
    has = (ap (λ (m : PageMap). m o 0) lookups.present ∙ f.reads.has.0, f.reads.has.1);
    kind = f.reads.kind;
    when = f.reads.when;
    size = f.reads.size;
    each = λ i less. subst (λ (m : PageMap). ByteIs z (has m) o f.reads.fields i (get_or bytes i 0)) (sym lookups.present) (f.reads.each i less);
  };
}

-- and where it had no other page it has none
pub only_later : (p q : PagesState) (o : ℕ) (f : Fields) → OnlyFinds p q → HasOnly p.present o f → HasOnly q.present o f
only_later p q o f lookups only = subst (λ (m : PageMap). HasOnly m o f) (sym lookups.present) only

-- byte j of the chunk that is chunk 1 + k of the object
abbrev pub ByteIn : PageMap → ℕ → List ℕ → ℕ → ℕ → ℕ → Type 0
ByteIn m o bits k j byte =
    ((is_present bits (1 + k) ≡ true) × ((page : List ℕ) × (m o (1 + k) ≡ Some page) × (get_or page j 0 ≡ byte)))
    ⊎ ((is_present bits (1 + k) ≡ false) × (byte ≡ 0))

module _ (p : PagesState) (z : Sizes) (o moment : ℕ) (bytes : List ℕ) (f : FileIn p z o moment bytes) (d : ℕ) (size : d ≡ z.page_bytes) where
  -- a byte of a chunk
  pub byte_in : (k j : ℕ) → j < d → k * d + j < length bytes → ByteIn p.present o f.reads.fields.bits k j (get_or bytes (k * d + j) 0)
  byte_in k j less within =
      let is : ByteIs z (has p.present) o f.reads.fields (k * d + j) (get_or bytes (k * d + j) 0) = f.reads.each (k * d + j) within in
      let chunk : (k * d + j) / z.page_bytes ≡ k = ap (λ n. (k * d + j) / n) (sym size) ∙ div-mul-add k d j less in
      let place : (k * d + j) % z.page_bytes ≡ j = ap (λ n. (k * d + j) % n) (sym size) ∙ mod-mul-add k d j less in
      subst (λ n. ByteIn p.present o f.reads.fields.bits k n (get_or bytes (k * d + j) 0)) place
      (subst (λ n. ByteIn p.present o f.reads.fields.bits n ((k * d + j) % z.page_bytes) (get_or bytes (k * d + j) 0)) chunk is)

  module _ (k from to : ℕ) (order : from ≤ to) (within_limit : to ≤ d) (within : k * d + to ≤ length bytes) where
    part_len : length (take (to - from) (drop (k * d + from) bytes)) ≡ to - from
    part_len = length-take-le (to - from) (drop (k * d + from) bytes) (omega (arith, within, order, length-drop (k * d + from) bytes))

    part_at : (j : ℕ) → j < to - from → get_or (take (to - from) (drop (k * d + from) bytes)) j 0 ≡ get_or bytes (k * d + (from + j)) 0
    part_at j less = get_or-take (to - from) (drop (k * d + from) bytes) j 0 less ∙ get_or-drop (k * d + from) bytes j 0
        ∙ (let place : k * d + from + j ≡ k * d + (from + j) = omega arith in ap (λ n. get_or bytes n 0) place)

    -- a chunk that has a page has its part of the bytes there, where the header names all chunks
    pub part_found : HasOnly p.present o f.reads.fields → (page : List ℕ) → p.present o (1 + k) ≡ Some page → length page ≡ d
        → take (to - from) (drop from page) ≡ take (to - from) (drop (k * d + from) bytes)
    part_found only page there len =
        let here : length (take (to - from) (drop from page)) ≡ to - from = length-take-le (to - from) (drop from page) (omega (arith, within_limit, len, length-drop from page)) in
        ext_get_or 0 _ _ (here ∙ sym part_len) (λ j less.
        let lt : j < to - from = omega (arith, less, here) in
        get_or-take (to - from) (drop from page) j 0 lt ∙ get_or-drop from page j 0 ∙ elim (byte_in k (from + j) (omega (arith, lt, within_limit)) (omega (arith, lt, within))) [
          | inl is ↦ ap (λ (xs : List ℕ). get_or xs (from + j) 0) (one_page p.present o (1 + k) page is.1.0 there is.1.1) ∙ is.1.2
          | inr is ↦ let two : None ≡ Some page = sym (only (1 + k) (omega arith) is.0) ∙ there in absurd cc
        ] ∙ sym (part_at j lt))

    -- one that has none reads as zeros
    pub part_missing : p.present o (1 + k) ≡ None → replicate (to - from) 0 ≡ take (to - from) (drop (k * d + from) bytes)
    part_missing none = ext_get_or 0 _ _ (length-replicate {A = ℕ} (to - from) 0 ∙ sym part_len) (λ j less.
        let lt : j < to - from = omega (arith, less, length-replicate {A = ℕ} (to - from) 0) in
        get_or-replicate (to - from) j 0 0 lt ∙ elim (byte_in k (from + j) (omega (arith, lt, within_limit)) (omega (arith, lt, within))) [
          | inl is ↦ let two : None ≡ Some is.1.0 = sym none ∙ is.1.1 in absurd cc
          | inr is ↦ sym is.1
        ] ∙ sym (part_at j lt))

    -- the page of a chunk that is present
    pub page_there : from < to → is_present f.reads.fields.bits (1 + k) ≡ true → (page : List ℕ) × (p.present o (1 + k) ≡ Some page)
    page_there some set = elim (byte_in k from (omega (arith, some, within_limit)) (omega (arith, some, within))) [
      | inl is ↦ (is.1.0, is.1.1)
      | inr is ↦ let two : true ≡ false = sym set ∙ is.0 in absurd cc
    ]
