-- Bytes that are read into a buffer from its front on.
use Rattle.std.proofs.Common.{◌≡◌, ◌≤◌, ℕ, ◌+◌, ◌-◌, List, ◌++◌, length, take, drop, Option, Some, sym, ap, subst, ◌∙◌, arith, le_refl, lit≤, take_all, take-take, length-take-le}
use Rattle.std.proofs.lemmas.Slice.{take-put_mid_below}
use Rattle.std.specs.Io.KnownBytes.{Consumes, Keeps}
use Rattle.std.proofs.KnownBytes.{Consumes-trans, Consumes-kept}
use borrow.Rule.Slice.PartMut.{put_mid, post_of, mid_of, same_len_mid}
use lib.Seq.{take-append-le}
use Rattle.std.proofs.Math.Seq.{take-append-add}
use Rattle.nand_image.specs.Images.{magic}
use Rattle.nand_image.specs.Readings.{FillsFront, FillsWhole, TakesHead}

-- a part behind the front keeps the length
pub length_put : (at : ℕ) (buffer part : List ℕ) → at ≤ length buffer → length part ≡ length (mid_of at (length buffer - at) buffer) → length (put_mid at (length buffer - at) buffer part) ≡ length buffer
length_put at buffer part within same = same_len_mid at (length buffer - at) buffer part same

take_both : (at n : ℕ) (buffer part : List ℕ) → at ≤ length buffer → n ≤ length part → take (at + n) (put_mid at (length buffer - at) buffer part) ≡ take at buffer ++ take n part
take_both at n buffer part within fits =
    let size : length (take at buffer) ≡ at = length-take-le at buffer within in
    let after = post_of at (length buffer - at) buffer in
    ap (λ k. take (k + n) (take at buffer ++ (part ++ after))) (sym size)
    ∙ take-append-add (take at buffer) (part ++ after) n ∙ ap (λ l. take at buffer ++ l) (take-append-le n part after fits)

-- more was read behind what was read
pub front_more : (a b d : Option (List ℕ)) (at n : ℕ) (buffer part : List ℕ) → at ≤ length buffer → n ≤ length part → Consumes a b (take at buffer) → Consumes b d (take n part)
    → Consumes a d (take (at + n) (put_mid at (length buffer - at) buffer part))
front_more a b d at n buffer part within fits first then =
    subst (Consumes a d) (sym (take_both at n buffer part within fits)) (Consumes-trans a b d (take at buffer) (take n part) first then)

-- nothing more was read
pub front_committed : (a b d : Option (List ℕ)) (at : ℕ) (buffer part : List ℕ) → at ≤ length buffer → Consumes a b (take at buffer) → Keeps b d
    → Consumes a d (take at (put_mid at (length buffer - at) buffer part))
front_committed a b d at buffer part within first committed =
    subst (Consumes a d) (sym (take-put_mid_below at (length buffer - at) buffer part at (le_refl at) within)) (Consumes-kept a b d (take at buffer) first committed)

-- a buffer that was filled to its end
pub whole_of : (old now : Option (List ℕ)) (buffer : List ℕ) (n : ℕ) → n ≤ length buffer → length buffer ≤ n → FillsFront old now buffer n → FillsWhole old now buffer
whole_of old now buffer n less more front left is =
    let f = front left is in
    let same : n ≡ length buffer = omega arith in
    record {
      within = omega (arith, f.within);
      bytes = sym (take_all (length buffer) buffer (le_refl (length buffer))) ∙ ap (λ k. take k buffer) (sym same) ∙ f.bytes ∙ ap (λ k. take k left) same;
      rest = f.rest ∙ ap (λ k. Some (drop k left)) same;
    }

-- a head was read
pub head_of : (old now : Option (List ℕ)) (head : List ℕ) → length head ≡ 32 → FillsWhole old now head → take 8 head ≡ magic → TakesHead old now head
head_of old now head size whole is left at =
    let w = whole left at in
    let bytes : head ≡ take 32 left = w.bytes ∙ ap (λ n. take n left) size in
    record {
      has = record { long = omega (arith, w.within, size); magic = sym (take-take 8 32 left (lit≤ tt)) ∙ ap (take 8) (sym bytes) ∙ is };
      bytes = bytes;
      rest = w.rest ∙ ap (λ n. Some (drop n left)) size;
    }
