-- The bytes of a header, as they are written in two parts, or before bits that stay.
use Rattle.std.proofs.Common.{◌≡◌, ◌≤◌, ℕ, ◌-◌, List, [], ◌++◌, length, drop, ap, ap₂, ◌∙◌, append-nil, length-drop, take_at, arith}
use borrow.Rule.Slice.PartMut.{put_mid}
use Rattle.std.proofs.lemmas.List.{drop_all}
use Rattle.page_tags.specs.Headers.{Fields, header_bytes}
use Rattle.page_tags.specs.HeaderParts.{head_bytes}

pub header_written :
    (f : Fields) (old head bits : List ℕ) → 32 ≤ length old → length f.bits ≡ length old - 32 → head ≡ head_bytes f → bits ≡ f.bits
    → put_mid 32 (length (head ++ drop 32 old) - 32) (head ++ drop 32 old) bits ≡ header_bytes f
unfolding header_bytes
header_written f old head bits least room head_is bits_are =
    let len : length head ≡ 32 = ap length head_is in
    let none : drop (length (head ++ drop 32 old) - 32) (drop 32 (head ++ drop 32 old)) ≡ [] =
    drop_all (length (head ++ drop 32 old) - 32) (drop 32 (head ++ drop 32 old)) (omega (arith, length-drop 32 (head ++ drop 32 old))) in
    ap₂ ◌++◌ (take_at head (drop 32 old) 32 len ∙ head_is) (ap (λ rest. bits ++ rest) none ∙ append-nil bits ∙ bits_are)

-- the bytes before bits that stand there
pub header_in_place : (f : Fields) (head : List ℕ) → head ≡ head_bytes f → head ++ f.bits ≡ header_bytes f
unfolding header_bytes
header_in_place f head is = ap (λ front. front ++ f.bits) is
