-- The space of a volume, as it is reported.
use Rattle.std.proofs.Common.{◌≡◌, Bool, true, List, ℕ, [], ◌∷◌, ◌++◌, Option, Result, codes, sym, subst, append-nil}
use Rattle.std.specs.Io.KnownBytes.{Appends}
use Rattle.line_shell.specs.Replies.{newline, reply_text}
use Rattle.line_shell.specs.Written.{Writes}
use Rattle.posix_profile.specs.declared.reply.Reply.{Reply}
use Rattle.flash_program.specs.Sessions.{Stream}
use Rattle.flash_program.specs.Spaces.{space_text, IsStated}
use Rattle.flash_program.specs.declared.fault.ProgramFault.{ProgramFault}
use Rattle.line_shell.specs.laws.Writing.{goes_on}

pub with_read_only : {E : Type 0} (old mid new : Option (List ℕ)) (reply : Reply) (read_only : Bool) (r : Result (Unit {0}) E) → read_only ≡ true → Appends old mid (reply_text reply)
    → Writes mid new (codes "read-only" ++ (newline ∷ [])) r → Writes old new (space_text reply read_only) r
with_read_only old mid new reply read_only r is before after =
    subst (λ b. Writes old new (space_text reply b) r) (sym is) (goes_on old mid new (reply_text reply) (codes "read-only" ++ (newline ∷ [])) r before after)

pub reported_alike : (output : Stream) (reply : Reply) (one other : Bool) (r : Result (Unit {0}) ProgramFault) → one ≡ other → IsStated output (space_text reply one) r
    → IsStated output (space_text reply other) r
reported_alike output reply one other r same reported = subst (λ b. IsStated output (space_text reply b) r) same reported

pub reported_alone : (output : Stream) (text : List ℕ) (r : Result (Unit {0}) ProgramFault) → IsStated output (text ++ []) r → IsStated output text r
reported_alone output text r reported = subst (λ l. IsStated output l r) (append-nil text) reported
