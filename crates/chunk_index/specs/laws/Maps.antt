-- What holds of an index after a change, where it held before.
use Rattle.std.specs.Prelude.{◌≡◌, ◌<◌, ℕ, Bool}
use Rattle.std.proofs.Common.{sym, ap, ◌∙◌, inl, inr, arith}
use Rattle.std.proofs.lemmas.Bool.{cases_eq, cases_lt, cases_Bool}
use Rattle.block_state.specs.Table.{Table}
use Rattle.chunk_index.specs.declared.form.PagePlace.{PagePlace}
use Rattle.chunk_index.specs.declared.form.CommittedPage.{CommittedPage}
use Rattle.chunk_index.specs.declared.form.Form.TheVariants as forms
use Rattle.chunk_index.specs.declared.form.Present.{Present}
use Rattle.chunk_index.specs.declared.form.Present.TheVariants as presents
use Rattle.chunk_index.specs.declared.index.Index.{Index}
use Rattle.chunk_index.specs.Maps.{present, CountsAgree, IsEmpty, SameCommitted, SamePresent, Places, Cuts, Copies, Retains, moved_to}

-- the counts agree, where no committed page changes
pub agree_same : (t : Table) (old new : Index) → SameCommitted old new → CountsAgree t old → CountsAgree t new
agree_same t old new same agree = record { counts = λ b. agree.counts b ∙ sym (same.counts b); within = λ b le. same.counts b ∙ agree.within b le }

-- the buffer has at most n pages that are present
abbrev pub BufferBelow : ℕ → Index → Type 0
BufferBelow n x = (o c i : ℕ) → present x o c ≡ presents.InBuffer i → i < n

pub below_empty : (n : ℕ) (x : Index) → IsEmpty x → BufferBelow n x
below_empty n x empty o c i is = let both : presents.Absent ≡ presents.InBuffer i = sym (empty.present o c) ∙ is in absurd cc

pub below_same : (n : ℕ) (old new : Index) → SamePresent old new → BufferBelow n old → BufferBelow n new
below_same n old new same below o c i is = below o c i (sym (same o c) ∙ is)

-- after a page below n was placed
pub below_placed : (n p o c : ℕ) (old new : Index) → Places o c (forms.Buffered p) old new → p < n → BufferBelow n old → BufferBelow n new
below_placed n p o c old new places lt below k l i is = elim (cases_eq k o) [
  | inr ne ↦ below k l i (sym (places.others k l (inl ne)) ∙ is)
  | inl e ↦ elim (cases_eq l c) [
    | inr ne ↦ below k l i (sym (places.others k l (inr ne)) ∙ is)
    | inl d ↦
        let both : presents.InBuffer p ≡ presents.InBuffer i = sym (ap (λ q. present new q l) e ∙ ap (present new o) d ∙ places.here) ∙ is in
        let same : p ≡ i = cc in
        omega (arith, lt, same)
  ]
]

-- after a cut
pub below_cut : (n o from : ℕ) (old new : Index) → Cuts o from old new → BufferBelow n old → BufferBelow n new
below_cut n o from old new cuts below k l i is = elim (cases_eq k o) [
  | inr ne ↦ below k l i (sym (cuts.others k l (inl ne)) ∙ is)
  | inl e ↦ elim (cases_lt l from) [
    | inl lt ↦ below k l i (sym (cuts.others k l (inr lt)) ∙ is)
    | inr ge ↦ let both : presents.Absent ≡ presents.InBuffer i = sym (ap (λ q. present new q l) e ∙ cuts.gone l ge) ∙ is in absurd cc
  ]
]

moved_buffer : (p : CommittedPage) (q : Present) (i : ℕ) → moved_to p q ≡ presents.InBuffer i → q ≡ presents.InBuffer i
moved_buffer p presents.Absent i is = absurd cc
moved_buffer p (presents.OnFlash k) i is = absurd cc
moved_buffer p (presents.InBuffer j) i is = is

-- after a copy
pub below_copied : (n o c : ℕ) (place : PagePlace) (was : CommittedPage) (old new : Index) → Copies o c place was old new → BufferBelow n old → BufferBelow n new
below_copied n o c place was old new copies below k l i is = elim (cases_eq k o) [
  | inr ne ↦ below k l i (sym (copies.present_elsewhere k l (inl ne)) ∙ is)
  | inl e ↦ elim (cases_eq l c) [
    | inr ne ↦ below k l i (sym (copies.present_elsewhere k l (inr ne)) ∙ is)
    | inl d ↦
        let there : present old o c ≡ presents.InBuffer i = moved_buffer _ (present old o c) i (sym copies.present_here ∙ sym (ap (λ q. present new q l) e ∙ ap (present new o) d) ∙ is) in
        below k l i (ap (λ q. present old q l) e ∙ ap (present old o) d ∙ there)
  ]
]

-- where only some keys stay
pub below_retained : (n : ℕ) (keeps : ℕ → ℕ → Bool) (old new : Index) → Retains keeps old new → BufferBelow n old → BufferBelow n new
below_retained n keeps old new retains below k l i is = elim (cases_Bool (keeps k l)) [
  | inl stays ↦ below k l i (sym (retains.present k l stays) ∙ is)
  | inr goes ↦ let both : presents.Absent ≡ presents.InBuffer i = sym (retains.present_no_more k l goes) ∙ is in absurd cc
]
