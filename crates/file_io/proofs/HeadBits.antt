-- Presence bits and the headers that have them.
use Rattle.std.specs.Prelude.{◌≡◌, ◌<◌, ◌≤◌, ℕ, zero, suc, ◌-◌, ◌/◌, ◌%◌, ◌^◌, ◌++◌, true, false, List, [], length, take, drop, replicate, get_or}
use Rattle.std.specs.Int.{bit_at}
use Rattle.std.proofs.Common.{sym, ◌∙◌, ap, subst, eqb, append-nil, drop_at, length-drop, arith}
use borrow.Rule.Slice.PartMut.{put_mid}
use Rattle.std.proofs.lemmas.List.{drop_all, length-replicate, length-take-le}
use Rattle.std.proofs.lemmas.Nat.Bits.{bit_at-zero}
use Rattle.volume_terms.specs.laws.List.{zero_at}
use Rattle.page_tags.specs.HeaderFields.{file_fields}
use Rattle.page_tags.specs.Headers.{Fields, IsHeader, MayBeSet, greatest_recorded, is_present}
use Rattle.page_tags.specs.declared.header.ObjectKind.TheVariants as kinds

-- of bits that are all zero none is set
pub none_present : (n c : ℕ) → is_present (replicate n 0) c ≡ false
unfolding is_present
none_present n c = ap (λ k. eqb (bit_at k ((c - 1) % 8)) 1) (zero_at n ((c - 1) / 8)) ∙ ap (λ k. eqb k 1) (bit_at-zero ((c - 1) % 8))

-- the header of a file of no bytes
pub empty_header : (d moment : ℕ) (bits : List ℕ) → bits ≡ replicate (d - 32) 0 → moment < 2 ^ 64 → IsHeader d (file_fields 0 moment bits)
empty_header d moment bits is when = record {
  spare = omega arith;
  length_fits = omega arith;
  moment = when;
  no_moment = λ no'. absurd cc;
  room = ap length is ∙ length-replicate {A = ℕ} (d - 32) 0;
  bytes = λ i. let zero_is : get_or bits i 0 ≡ 0 = ap (λ xs. get_or xs i 0) is ∙ zero_at (d - 32) i in omega (arith, zero_is);
  within = λ c some set. let two : true ≡ false = sym set ∙ ap (λ xs. is_present xs c) is ∙ none_present (d - 32) c in absurd cc;
}

-- fewer zeros
pub fewer_zeros : (k n : ℕ) → drop {A = ℕ} k (replicate n 0) ≡ replicate (n - k) 0
fewer_zeros zero n = let same : n ≡ n - 0 = omega arith in ap (λ m. replicate m 0) same
fewer_zeros (suc k) zero = let none : 0 ≡ 0 - suc k = omega arith in ap (λ m. replicate m 0) none
fewer_zeros (suc k) (suc n) = let less : n - k ≡ suc n - suc k = omega arith in fewer_zeros k n ∙ ap (λ m. replicate m 0) less

-- bits that are written behind 32 bytes of a page stand there
pub bits_written : (page bits : List ℕ) → 32 ≤ length page → length bits ≡ length page - 32 → drop 32 (put_mid 32 (length page - 32) page bits) ≡ bits
bits_written page bits least room =
    let none : drop (length page - 32) (drop 32 page) ≡ [] = drop_all (length page - 32) (drop 32 page) (omega (arith, length-drop 32 page)) in
    drop_at (take 32 page) (bits ++ drop (length page - 32) (drop 32 page)) 32 (length-take-le 32 page least) ∙ ap (λ rest. bits ++ rest) none ∙ append-nil bits

-- the header of a file may be written in format 2
pub in_format_2 : (d : ℕ) (f : Fields) → IsHeader d f → f.kind ≡ kinds.File → IsHeader d (file_fields f.length f.moment f.bits)
in_format_2 d f valid kind = record {
  spare = omega arith;
  length_fits = subst (λ k. f.length ≤ greatest_recorded d k) kind valid.length_fits;
  moment = valid.moment;
  no_moment = λ no'. absurd cc;
  room = valid.room;
  bytes = valid.bytes;
  within = λ c some set. subst (λ k. MayBeSet d k f.length c) kind (valid.within c some set);
}
