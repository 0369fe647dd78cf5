-- The numbers of blocks that their first pages give them.
use Rattle.std.specs.Prelude.{◌≡◌, ◌<◌, ◌⊎◌, ℕ, ◌+◌, List, Option, Some, None, slice_get}
use Rattle.std.proofs.Common.{refl, sym, ◌∙◌, ap, subst, inl, inr, arith}
use Rattle.std.proofs.lemmas.Bool.{cases_eq, cases_lt}
use Rattle.nand_model.specs.declared.geometry.Geometry.{Geometry}
use Rattle.mount_scan.specs.declared.first_page.FirstPage.{FirstPage}
use Rattle.block_state.specs.declared.blocks.BlockEntry.{BlockEntry}
use Rattle.block_state.specs.Table.{Table, Sets}
use Rattle.page_store.specs.KnownFirsts.{NotesFirst, NotesFirsts, IsNumbered, number_of_first}
use Rattle.page_store.specs.Opened.{OnlySeqs, NotesOne}

-- what is known once the first n blocks were gone through
pub record Noted (pages : List FirstPage) (n : ℕ) (old new : Table) : Type 0 where
  pub only : OnlySeqs old new
  pub notes : NotesFirsts pages n old new

pub noted_none : (pages : List FirstPage) (t : Table) → Noted pages 0 t t
noted_none pages t = record {
  only = record { bad = λ b. refl; committed = λ b. refl; geometry = refl; open_block = refl; checkpoint = refl; next_group = refl; next_seq = refl };
  notes = record {
    numbered = λ b seq is. let lt = is.within in absurd (omega (arith, lt));
    others = λ b not. refl;
  };
}

pub number_or_none : (x : Option ℕ) → (x ≡ None) ⊎ ((k : ℕ) × (x ≡ Some k))
number_or_none None = inl refl
number_or_none (Some k) = inr (k, refl)

pub one_first : (pages : List FirstPage) (b : ℕ) (f g : FirstPage) → slice_get pages b ≡ Some f → slice_get pages b ≡ Some g → f ≡ g
one_first pages b f g x y = let two : Some f ≡ Some g = sym x ∙ y in cc

-- the number of a block is that of its first page
pub number_is : (pages : List FirstPage) (m n b seq : ℕ) (t : Table) (first : FirstPage) → slice_get pages n ≡ Some first → b ≡ n → IsNumbered pages m t b seq → number_of_first first ≡ Some seq
number_is pages m n b seq t first at here is = ap number_of_first (one_first pages n first is.first at (subst (λ k. slice_get pages k ≡ Some is.first) here is.there)) ∙ is.number

fewer : (pages : List FirstPage) (n b seq : ℕ) (t : Table) → (b ≡ n → ⊥) → IsNumbered pages (n + 1) t b seq → IsNumbered pages n t b seq
fewer pages n b seq t ne is = record { within = let lt = is.within in omega (arith, lt, ne); first = is.first; there = is.there; number = is.number; below = is.below }

more : (pages : List FirstPage) (n b seq : ℕ) (t : Table) → IsNumbered pages n t b seq → IsNumbered pages (n + 1) t b seq
more pages n b seq t is = record { within = let lt = is.within in omega (arith, lt); first = is.first; there = is.there; number = is.number; below = is.below }

-- a block more that gets no number
skip : (pages : List FirstPage) (n : ℕ) (old t : Table) → ((seq : ℕ) → IsNumbered pages (n + 1) old n seq → ⊥) → Noted pages n old t → Noted pages (n + 1) old t
skip pages n old t none before = record {
  only = before.only;
  notes = record {
    numbered = λ b seq is. elim (cases_eq b n) [
      | inl here ↦ absurd (none seq (subst (λ k. IsNumbered pages (n + 1) old k seq) here is))
      | inr ne ↦ before.notes.numbered b seq (fewer pages n b seq old ne is)
    ];
    others = λ b not. before.notes.others b (λ seq is. not seq (more pages n b seq old is));
  };
}

entry_bad : (k seq : ℕ) (t t' : Table) → Sets k (record (t.entry k) { seq = seq; next = t.geometry.pages }) t t' → (b : ℕ) → (t'.entry b).bad ≡ (t.entry b).bad
entry_bad k seq t t' sets b = elim (cases_eq b k) [
  | inl here ↦ ap (λ j. (t'.entry j).bad) here ∙ ap (λ (e : BlockEntry). e.bad) sets.here ∙ ap (λ j. (t.entry j).bad) (sym here)
  | inr ne ↦ ap (λ (e : BlockEntry). e.bad) (sets.others b ne)
]

entry_committed : (k seq : ℕ) (t t' : Table) → Sets k (record (t.entry k) { seq = seq; next = t.geometry.pages }) t t' → (b : ℕ) → (t'.entry b).committed ≡ (t.entry b).committed
entry_committed k seq t t' sets b = elim (cases_eq b k) [
  | inl here ↦ ap (λ j. (t'.entry j).committed) here ∙ ap (λ (e : BlockEntry). e.committed) sets.here ∙ ap (λ j. (t.entry j).committed) (sym here)
  | inr ne ↦ ap (λ (e : BlockEntry). e.committed) (sets.others b ne)
]

-- a block more, which gets this number
numbers : (pages : List FirstPage) (n k : ℕ) (first : FirstPage) (old t t' : Table) → slice_get pages n ≡ Some first → number_of_first first ≡ Some k → k < t.next_seq → NotesOne n k t t'
    → Noted pages n old t → Noted pages (n + 1) old t'
numbers pages n k first old t t' at number below one before =
    let sets = one.sets below in
    let handed = before.only.next_seq in
    record {
      only = record {
        bad = λ b. entry_bad n k t t' sets b ∙ before.only.bad b;
        committed = λ b. entry_committed n k t t' sets b ∙ before.only.committed b;
        geometry = sets.geometry ∙ before.only.geometry;
        open_block = one.open_block ∙ before.only.open_block;
        checkpoint = one.checkpoint ∙ before.only.checkpoint;
        next_group = sets.next_group ∙ before.only.next_group;
        next_seq = one.next_seq ∙ before.only.next_seq;
      };
      notes = record {
        numbered = λ b seq is. elim (cases_eq b n) [
          | inl here ↦
              let two : Some k ≡ Some seq = sym number ∙ number_is pages (n + 1) n b seq old first at here is in
              let same : k ≡ seq = cc in (
                ap (λ j. (t'.entry j).seq) here ∙ ap (λ (e : BlockEntry). e.seq) sets.here ∙ same,
                ap (λ j. (t'.entry j).next) here ∙ ap (λ (e : BlockEntry). e.next) sets.here ∙ ap (λ (g : Geometry). g.pages) before.only.geometry,
              )
          | inr ne ↦
              let was = before.notes.numbered b seq (fewer pages n b seq old ne is) in
              let same = sets.others b ne in
              (ap (λ (e : BlockEntry). e.seq) same ∙ was.0, ap (λ (e : BlockEntry). e.next) same ∙ was.1)
        ];
        others = λ b not. elim (cases_eq b n) [
          | inl here ↦ absurd (subst (λ j. ((seq : ℕ) → IsNumbered pages (n + 1) old j seq → ⊥) → ⊥) (sym here)
              (λ none. none k (record { within = omega arith; first = first; there = at; number = number; below = omega (arith, below, handed) })) not)
          | inr ne ↦ sets.others b ne ∙ before.notes.others b (λ seq is. not seq (more pages n b seq old is))
        ];
      };
    }

-- a block more
pub noted_more : (pages : List FirstPage) (n : ℕ) (first : FirstPage) (old t t' : Table) → slice_get pages n ≡ Some first → NotesFirst n first t t' → Noted pages n old t → Noted pages (n + 1) old t'
noted_more pages n first old t t' at notes before = elim (number_or_none (number_of_first first)) [
  | inl none ↦ subst (Noted pages (n + 1) old) (sym (notes.none none)) (skip pages n old t
      (λ seq is. let two : None ≡ Some seq = sym none ∙ number_is pages (n + 1) n n seq old first at refl is in absurd cc) before)
  | inr (k, number) ↦ elim (cases_lt k t.next_seq) [
    | inl below ↦ numbers pages n k first old t t' at number below (notes.some k number) before
    | inr above ↦ subst (Noted pages (n + 1) old) (sym ((notes.some k number).same above)) (skip pages n old t
        (λ seq is.
        let two : Some k ≡ Some seq = sym number ∙ number_is pages (n + 1) n n seq old first at refl is in
        let same : k ≡ seq = cc in
        let below = is.below in
        let handed = before.only.next_seq in
        absurd (omega (arith, same, below, above, handed))) before)
  ]
]
