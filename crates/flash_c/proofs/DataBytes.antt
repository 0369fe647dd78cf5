-- What a read puts in the caller's buffer.
use Rattle.std.specs.Prelude.{◌≡◌, ◌≤◌, ℕ, ◌++◌, nat_le, if◌then◌else◌, List, length, take, drop}
use Rattle.std.proofs.Common.{sym, ◌∙◌, ap, arith}
use Rattle.std.proofs.lemmas.Bool.{le-leb}
use Rattle.std.proofs.lemmas.List.{length-take-le, take-append-drop}
use Rattle.posix_profile.specs.declared.reply.Errno.TheVariants as errors
use Rattle.posix_profile.specs.declared.reply.Reply.TheVariants as replies
use Rattle.flash_c.specs.Filling.{data_number, filled}
use Rattle.flash_c.specs.Numbers.{error_number, signed}

module _ (before after : List ℕ) (count : ℕ) (within_limit : count ≤ length before) (size : length after ≡ length before) where
  len : length (take count after) ≡ count
  len = length-take-le count after (omega (arith, within_limit, size))

  fits : nat_le (length (take count after)) (length before) ≡ Rattle.std.specs.Prelude.true
  fits = le-leb (length (take count after)) (length before) (omega (arith, len, within_limit))

  -- the number of the bytes at its front
  pub number_read : signed count ≡ data_number (length before) (replies.Data (take count after))
  number_read = ap signed (sym len) ∙ sym (ap (λ b. if b then signed (length (take count after)) else error_number errors.EIO) fits)

  -- these bytes, and past them what was there
  pub data_read : drop count after ≡ drop count before → after ≡ filled before (take count after)
  data_read rest =
      sym (take-append-drop count after) ∙ ap (λ xs. take count after ++ xs) (rest ∙ ap (λ n. drop n before) (sym len))
      ∙ sym (ap (λ b. if b then take count after ++ drop (length (take count after)) before else before) fits)
