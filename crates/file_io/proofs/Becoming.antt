-- What a file becomes, chunk by chunk.
use Rattle.std.specs.Prelude.{◌≡◌, ◌⊎◌, ◌<◌, ◌≤◌, ℕ, ◌+◌, ◌-◌, ◌*◌, ◌/◌, ◌%◌, true, false, List, length, get_or, Some, None}
use Rattle.std.proofs.Common.{sym, ◌∙◌, ap, subst, inl, inr, arith}
use Rattle.std.proofs.Math.Nat.{div-add-mod'}
use Rattle.std.proofs.lemmas.Bool.{cases_lt}
use Rattle.std.proofs.lemmas.List.{get_or_past}
use Rattle.page_tags.specs.Headers.{Fields, IsHeader, header_bytes, is_present}
use Rattle.page_tags.specs.declared.header.ObjectKind.TheVariants as kinds
use Rattle.flash_tree.specs.Tree.{ByteIs}
use Rattle.volume_terms.specs.Sizes.{Sizes}
use Rattle.pages.specs.Maps.{PageMap, has}
use Rattle.pages.specs.State.{PagesState}
use Rattle.file_io.specs.Files.{FileIn, HasOnly, Becomes}
use Rattle.file_io.specs.Chunks.{HoldsChunk, IsAmong}
use Rattle.file_io.proofs.FilePages.{byte_in, ByteIn}

-- a chunk of which there is a new page
pub record IsFresh (d o : ℕ) (m : PageMap) (new bits : List ℕ) (k : ℕ) : Type 0 where
  pub set : is_present bits (1 + k) ≡ true
  pub page : List ℕ
  pub there : m o (1 + k) ≡ Some page
  pub holds : HoldsChunk d new k page

-- a chunk that stays as it was
pub record IsCommittedKey (d o : ℕ) (old m : PageMap) (all new was bits : List ℕ) (k : ℕ) : Type 0 where
  pub page : m o (1 + k) ≡ old o (1 + k)
  pub set : is_present bits (1 + k) ≡ is_present was (1 + k)
  pub same : (j : ℕ) → j < d → k * d + j < length new → get_or new (k * d + j) 0 ≡ get_or all (k * d + j) 0
  pub hole : (j : ℕ) → j < d → k * d + j < length new → length all ≤ k * d + j → is_present was (1 + k) ≡ false

-- a chunk that is no more
pub record IsGone (d o : ℕ) (m : PageMap) (new bits : List ℕ) (k : ℕ) : Type 0 where
  pub page : m o (1 + k) ≡ None
  pub unset : is_present bits (1 + k) ≡ false
  pub past : length new ≤ k * d

module _ (p : PagesState) (z : Sizes) (o before moment : ℕ) (all new : List ℕ) (f : FileIn p z o before all) (d : ℕ) (size : d ≡ z.page_bytes) (some : 1 ≤ d)
    (m : PageMap) (head : Fields) (there : m o 0 ≡ Some (header_bytes head)) (valid : IsHeader d head) (kind : head.kind ≡ kinds.File) (when : head.moment ≡ moment) (long : head.length ≡ length new)
    (chunks : (k : ℕ) → IsFresh d o m new head.bits k ⊎ IsCommittedKey d o p.present m all new f.reads.fields.bits head.bits k ⊎ IsGone d o m new head.bits k) where
  -- a byte of a chunk
  new_byte : (k j : ℕ) → j < d → k * d + j < length new → ByteIn m o head.bits k j (get_or new (k * d + j) 0)
  new_byte k j less within = elim (chunks k) [
    | inl x ↦ inl (x.set, (x.page, x.there, x.holds.each j less))
    | inr (inl x) ↦ elim (cases_lt (k * d + j) (length all)) [
      | inl old ↦ elim (byte_in p z o before all f d size k j less old) [
        | inl y ↦ inl (x.set ∙ y.0, (y.1.0, x.page ∙ y.1.1, y.1.2 ∙ sym (x.same j less within)))
        | inr y ↦ inr (x.set ∙ y.0, x.same j less within ∙ y.1)
      ]
      | inr past ↦ inr (x.set ∙ x.hole j less within past, x.same j less within ∙ get_or_past all (k * d + j) 0 past)
    ]
    | inr (inr x) ↦ absurd (omega (arith, within, x.past))
  ]

  new_at : (i : ℕ) → i < length new → ByteIs z (has m) o head i (get_or new i 0)
  new_at i less =
      let place : i / d * d + i % d ≡ i = div-add-mod' i d in
      let last : i % d < d = omega (arith, some) in
      let is : ByteIn m o head.bits (i / d) (i % d) (get_or new (i / d * d + i % d) 0) = new_byte (i / d) (i % d) last (omega (arith, place, less)) in
      let at : ByteIn m o head.bits (i / d) (i % d) (get_or new i 0) = subst (λ n. ByteIn m o head.bits (i / d) (i % d) (get_or new n 0)) place is in
      subst (λ n. ByteIn m o head.bits (i / n) (i % n) (get_or new i 0)) size at

  only : HasOnly p.present o f.reads.fields → HasOnly m o head
  only named c first unset =
      let is : 1 + (c - 1) ≡ c = omega (arith, first) in
      subst (λ n. m o n ≡ None) is (elim (chunks (c - 1)) [
        | inl x ↦ let two : true ≡ false = sym x.set ∙ ap (is_present head.bits) is ∙ unset in absurd cc
        | inr (inl x) ↦ x.page ∙ named (1 + (c - 1)) (omega arith) (sym x.set ∙ ap (is_present head.bits) is ∙ unset)
        | inr (inr x) ↦ x.page
      ])

  pub becomes : (first end : ℕ) → ((k : ℕ) → first ≤ k → k < end → is_present head.bits (1 + k) ≡ true)
      → ((k : ℕ) → is_present head.bits (1 + k) ≡ true → (is_present f.reads.fields.bits (1 + k) ≡ true) ⊎ IsAmong first end (1 + k)) → Becomes z p.present m o f.reads.fields first end moment new
  becomes first end written others = record {
    reads = record {
      fields = head;
      has = (there, subst (λ n. IsHeader n head) size valid);
      kind = kind;
      when = when;
      size = long;
      each = new_at;
    };
    written = λ c among.
        let place : 1 + (c - 1) ≡ c = omega (arith, among.from) in
        sym (ap (is_present head.bits) place) ∙ written (c - 1) (omega (arith, among.from)) (omega (arith, among.from, among.to));
    others = λ c some set.
        let place : 1 + (c - 1) ≡ c = omega (arith, some) in
        subst (λ n. (is_present f.reads.fields.bits n ≡ true) ⊎ IsAmong first end n) place (others (c - 1) (ap (is_present head.bits) place ∙ set));
    only = only;
  }
