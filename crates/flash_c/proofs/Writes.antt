-- Commands of a write, one after the other.
use Rattle.std.proofs.Common.{◌≡◌, ◌+◌, ◌-◌, ℕ, List, length, take, drop, sym, ap, ◌∙◌, subst}
use Rattle.std.proofs.Math.Seq.{take-length}
use Rattle.std.proofs.lemmas.List.{length-drop}
use Rattle.posix_profile.specs.declared.command.Command.TheVariants as commands
use Rattle.posix_profile.specs.declared.command.Stamped.{Stamped}
use Rattle.posix_profile.specs.declared.reply.Reply.{Reply}
use Rattle.posix_profile.specs.declared.reply.Reply.TheVariants as replies
use Rattle.flash_c.specs.Sessions.{Writing, at, rest_write, HasWritten, more}

-- the bytes that are left, as a part of all
pub handed_in : {S : Type 0} (serves : S → Stamped → Reply → S → Type 0) (issued : Writing) (done : ℕ) (mid : S) (reply : Reply) (new : S)
    → serves mid (at issued.moment (commands.Write issued.fd (take (length issued.bytes - done) (drop done issued.bytes)))) reply new → serves mid (rest_write issued done) reply new
handed_in serves issued done mid reply new = subst (λ (bytes : List ℕ). serves mid (at issued.moment (commands.Write issued.fd bytes)) reply new)
    (ap (λ n. take n (drop done issued.bytes)) (sym (length-drop done issued.bytes)) ∙ take-length (drop done issued.bytes))

-- one more command, which wrote
pub one_more : {S : Type 0} (serves : S → Stamped → Reply → S → Type 0) (issued : Writing) (old mid new : S) (done count : ℕ) (reply : Reply) → HasWritten serves issued old done mid
    → serves mid (rest_write issued done) reply new → reply ≡ replies.Wrote count → HasWritten serves issued old (done + count) new
one_more serves issued old mid new done count reply before served is = more before (subst (λ (r : Reply). serves mid (rest_write issued done) r new) is served)
