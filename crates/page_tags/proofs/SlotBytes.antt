-- The bytes of a slot, as they are written part by part.
use Rattle.std.proofs.Common.{◌≡◌, ◌≤◌, ℕ, ◌+◌, ◌-◌, List, ◌++◌, length, take, drop, replicate, ap, ap₂, ◌∙◌, length-append, length-drop, length-take, take_at, arith}
use borrow.Rule.Slice.PartMut.{put_mid}
use Rattle.byteorder.specs.Endian.{little_bytes}
use Rattle.page_tags.specs.Slots.{Entry, slot_bytes}
use Rattle.page_tags.proofs.Parts.{length-put_mid, two_parts}

module _ (s : Entry) (old head name zeros : List ℕ) where
  -- when the name has been written
  abbrev named : List ℕ
  named = put_mid 10 (10 + length s.name - 10) (head ++ drop 10 old) name

  pub slot_written :
      length old ≡ 272 → length s.name ≤ 255 → head ≡ little_bytes 8 s.object ++ little_bytes 2 (length s.name) → name ≡ s.name
      → zeros ≡ replicate (length (take (length named - (10 + length s.name)) (drop (10 + length s.name) named))) 0
      → put_mid (10 + length s.name) (length named - (10 + length s.name)) named zeros ≡ slot_bytes s
  unfolding slot_bytes
  slot_written size within_limit head_is name_is zeros_are =
      let ten : length head ≡ 10 = ap length head_is in
      let all : length (head ++ drop 10 old) ≡ 272 = omega (arith, length-append head (drop 10 old), length-drop 10 old) in
      let name_len : length name ≡ length s.name = ap length name_is in
      let named_len : length named ≡ 272 = length-put_mid 10 (10 + length s.name - 10) (head ++ drop 10 old) name (omega arith) (omega arith) ∙ all in
      let rest : length (take (length named - (10 + length s.name)) (drop (10 + length s.name) named)) ≡ 262 - length s.name =
      omega (arith, length-take (length named - (10 + length s.name)) (drop (10 + length s.name) named), length-drop (10 + length s.name) named) in
      two_parts 10 (10 + length s.name) (length named - (10 + length s.name)) (head ++ drop 10 old) name zeros (omega arith) (omega arith) (omega arith) (omega arith)
      ∙ ap₂ (λ front back. front ++ back) (ap₂ ◌++◌ (take_at head (drop 10 old) 10 ten ∙ head_is) name_is) (zeros_are ∙ ap (λ n. replicate n 0) rest)
