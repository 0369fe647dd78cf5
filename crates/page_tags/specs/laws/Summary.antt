-- What the bytes of a block summary say.
use Rattle.std.specs.Prelude.{◌≡◌, ℕ, List, ◌++◌, drop, replicate}
use Rattle.std.proofs.Common.{arith}
use Rattle.byteorder.specs.Endian.{little_bytes, little_number}
use Rattle.byteorder.specs.Numbers.{little_number-reads_back}
use Rattle.page_tags.specs.Summaries.{IsHead, head_bytes, head_in}
use Rattle.page_tags.specs.declared.summary_head.SummaryHead.{SummaryHead}

module _ (x : SummaryHead) (h : IsHead x) where
  abbrev h2 : List ℕ
  h2 = little_bytes 8 x.seq ++ replicate 8 0

  block_at : little_number 4 (drop 8 (head_bytes x)) ≡ x.block
  unfolding head_bytes
  block_at = little_number-reads_back 4 x.block (little_bytes 4 x.entries ++ h2) (omega (arith, h.block))

  entries_at : little_number 4 (drop 12 (head_bytes x)) ≡ x.entries
  unfolding head_bytes
  entries_at = little_number-reads_back 4 x.entries h2 (omega (arith, h.entries))

  seq_at : little_number 8 (drop 16 (head_bytes x)) ≡ x.seq
  unfolding head_bytes
  seq_at = little_number-reads_back 8 x.seq (replicate 8 0) (omega (arith, h.seq))

  -- a head is what its bytes say
  pub head_read : head_in (head_bytes x) ≡ x
  head_read = λ i. record { block = block_at i; entries = entries_at i; seq = seq_at i }
