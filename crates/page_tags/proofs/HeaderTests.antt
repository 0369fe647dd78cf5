-- What the tests of a page report on its header and its faults.
use Rattle.std.proofs.Common.{◌≡◌, ◌≢◌, ◌≤◌, ℕ, List, length, take, drop, replicate, get_or, sym, ap, ◌∙◌, inl, inr, subst, Bool, true, false, eqb, ◌++◌, take-append-drop, arith}
use Rattle.std.proofs.lemmas.Bool.{cases_lt, false≢true}
use Rattle.std.proofs.lemmas.Bool.Decides.{Decides-eqb}
use Rattle.std.proofs.lemmas.Slice.Eq.{starts_is}
use Rattle.std.specs.List.{starts_with}
use Rattle.byteorder.specs.Endian.{little_bytes, little_number}
use Rattle.byteorder.specs.Numbers.{little_number-reads_back}
use Rattle.page_tags.specs.declared.header.Format.{Format}
use Rattle.page_tags.specs.declared.header.Format.TheVariants as formats
use Rattle.page_tags.specs.declared.header.ObjectKind.{ObjectKind}
use Rattle.page_tags.specs.declared.header.HeaderFault.{HeaderFault}
use Rattle.page_tags.specs.declared.header.HeaderFault.TheVariants as faults
use Rattle.page_tags.specs.Headers.{Fields, IsBytes, IsFirstFault, IsHeaderOf, format_number, kind_number, HasFault, is_present, magic, length_in, moment_in}
use Rattle.page_tags.specs.laws.Byte.{little_bytes_at}
use Rattle.page_tags.specs.HeaderParts.{HasPast, IsSoundHeader, fields_in, last_chunk}
use Rattle.page_tags.specs.laws.Header.{header_from_sound, header_or_fault, may_be_set, pad_from_past, same_format, same_kind}

-- a format that does not allow the moment is the first one
dated_in_one : (page : List ℕ) (format : Format) → get_or page 4 0 ≡ format_number format → ¬ (format ≡ formats.One → moment_in page ≡ 0) → HasFault page faults.Pad
dated_in_one page formats.One is dated = inl (is, λ none. dated (λ _. none))
dated_in_one page formats.Two is dated = absurd (dated (λ one. cc))

-- the number of eight zeros is 0, and of no other bytes
zero_in_zeros : (page : List ℕ) → take 8 (drop 24 page) ≡ replicate 8 0 → little_number 8 (drop 24 page) ≡ 0
zero_in_zeros page zeros =
    ap (little_number 8) (sym (take-append-drop 8 (drop 24 page)) ∙ ap (λ front. front ++ drop 8 (drop 24 page)) zeros)
    ∙ little_number-reads_back 8 0 (drop 8 (drop 24 page)) (omega arith)

zeros_from_zero : (page : List ℕ) → 32 ≤ length page → IsBytes page → little_number 8 (drop 24 page) ≡ 0 → take 8 (drop 24 page) ≡ replicate 8 0
zeros_from_zero page least bytes zero = sym (little_bytes_at 8 24 page (omega (arith, least)) bytes) ∙ ap (little_bytes 8) zero

module _ (page : List ℕ) (format : Format) (kind : ObjectKind) (format_next : get_or page 4 0 ≡ format_number format) (kind_next : get_or page 5 0 ≡ kind_number kind) where
  pub pad_by_moment : ¬ (format ≡ formats.One → moment_in page ≡ 0) → HasFault page faults.Pad
  pad_by_moment dated = dated_in_one page format format_next dated

  pub pad_by_number : little_number 8 (drop 24 page) ≢ 0 → HasFault page faults.Pad
  pad_by_number some = inr (inl (λ zeros. some (zero_in_zeros page zeros)))

  pub pad_by_past : (bits : List ℕ) → bits ≡ drop 32 page → HasPast bits (last_chunk (length page) kind (length_in page)) → HasFault page faults.Pad
  pad_by_past bits is past = pad_from_past page kind kind_next (subst (λ bs. HasPast bs (last_chunk (length page) kind (length_in page))) is past)

  pub no_pad_fault :
      32 ≤ length page → IsBytes page → (format ≡ formats.One → moment_in page ≡ 0) → little_number 8 (drop 24 page) ≡ 0
      → (bits : List ℕ) → bits ≡ drop 32 page → (HasPast bits (last_chunk (length page) kind (length_in page)) → ⊥) → HasFault page faults.Pad → ⊥
  no_pad_fault least bytes undated zeros bits is none (inl dated) = dated.1 (undated (same_format format formats.One (sym format_next ∙ dated.0)))
  no_pad_fault least bytes undated zeros bits is none (inr (inl other)) =
      other (zeros_from_zero page least bytes zeros)
  no_pad_fault least bytes undated zeros bits is none (inr (inr past)) =
      let same : past.0 ≡ kind = same_kind past.0 kind (sym past.2 ∙ kind_next) in
      elim (cases_lt (last_chunk (length page) kind (length_in page)) past.1) [
        | inl after ↦ none (past.1, after, ap (λ bs. is_present bs past.1) is ∙ past.4)
        | inr within ↦ past.5 (may_be_set (length page) past.0 (length_in page) past.1 past.3 (omega (arith, ap (λ k. last_chunk (length page) k (length_in page)) same)))
      ]

-- ---- the magic, by the test of the page's beginning

pub magical : (page : List ℕ) (reported : Bool) → reported ≡ starts_with eqb page magic → reported ≡ true → take 4 page ≡ magic
magical page reported is yes_reported = ap (take 4) ((starts_is Decides-eqb page magic reported is).0 yes_reported)

pub not_magical : (page : List ℕ) (reported : Bool) → reported ≡ starts_with eqb page magic → reported ≡ false → take 4 page ≡ magic → ⊥
not_magical page reported is not_reported first =
    let whole : page ≡ magic ++ drop 4 page = sym (take-append-drop 4 page) ∙ ap (λ front. front ++ drop 4 page) first in
    false≢true (sym not_reported ∙ (starts_is Decides-eqb page magic reported is).1 (drop 4 page) whole)

-- ---- what a decoder's answer means

-- a page with a first fault is no header
pub no_header : (page : List ℕ) (fault : HeaderFault) → length page ≤ 4096 → IsFirstFault page fault → (f : Fields) → IsHeaderOf page f → ⊥
no_header page fault within_limit first f h = header_or_fault page f fault within_limit h first.here

-- what was read, part by part
pub header_from_reads :
    (page : List ℕ) (format : Format) (kind : ObjectKind) → 32 ≤ length page → IsBytes page → IsSoundHeader page format kind
    → (f : Fields) → f.format ≡ format → f.kind ≡ kind → f.spare ≡ little_number 2 (drop 6 page) → f.length ≡ length_in page → f.moment ≡ moment_in page
    → f.bits ≡ drop 32 page → IsHeaderOf page f
header_from_reads page format kind least bytes sound f format_is kind_is spare len moment bits =
    let same : fields_in page format kind ≡ f = λ i. record {
      format = sym format_is i;
      kind = sym kind_is i;
      spare = sym spare i;
      length = sym len i;
      moment = sym moment i;
      bits = sym bits i;
    } in
    subst (IsHeaderOf page) same (header_from_sound page format kind least bytes sound)
