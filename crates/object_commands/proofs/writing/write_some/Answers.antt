use Rattle.std.proofs.Common.{◌≡◌, ◌<◌, ◌∙◌, List, ℕ, [], ◌∷◌, length, refl, sym, ap, arith}
use Rattle.std.specs.Prelude.{Bool, nat_eq}
use Rattle.std.specs.FinMap as map
use Rattle.std.proofs.lemmas.Bool.{ne_eqb}
use Rattle.std.proofs.lemmas.Bool.Decides.{nat_tests}
use Rattle.volume_terms.specs.Sizes.{Sizes}
use Rattle.posix_profile.specs.State.{IsFile, Handle, State}
use Rattle.posix_profile.specs.HandleSteps.{at_file, write_file, write_bytes}
use Rattle.posix_profile.specs.Outcomes.{answer}
use Rattle.posix_profile.specs.declared.reply.Errno.TheVariants as errors
use Rattle.posix_profile.specs.declared.reply.Reply.TheVariants as replies
use Rattle.command_plans.specs.Tables.{handle_of}
use Rattle.command_plans.specs.Classes.{Changing, reports_if}
use Rattle.object_store.specs.Facts.{bytes_of}
use Rattle.command_plans.specs.laws.Plan.{nothing_suits, plan_reported, tries_kind, tries_same}
use Rattle.object_commands.proofs.writing.write_some.Goals as goal

some_written : (z : Sizes) (moment : ℕ) (s : State) (fd : ℕ) (h : Handle) (new : List ℕ) → 0 < length new → IsFile s.objects h.object
    → write_file z moment s fd h new (bytes_of (map.get s.objects h.object)) ≡ write_bytes z moment s fd h new
unfolding at_file
some_written z moment s fd h [] some file = absurd (omega arith)
some_written z moment s fd h (byte ∷ more) some file =
    ap (λ x. write_file z moment s fd h (byte ∷ more) (bytes_of x)) file.2
    ∙ ap (λ x. at_file s x errors.EBADF (write_file z moment s fd h (byte ∷ more))) (sym file.2)

none_written : (z : Sizes) (moment : ℕ) (s : State) (fd : ℕ) (h : Handle) (new : List ℕ) → length new ≡ 0 → answer s (replies.Wrote 0) ≡ write_bytes z moment s fd h new
none_written z moment s fd h [] none = refl
none_written z moment s fd h (byte ∷ more) none = absurd (omega (arith, none))

some_bytes : (new : List ℕ) → 0 < length new → reports_if (nat_eq (length new) 0) Changing ≡ Changing
some_bytes new some = ap (λ (b : Bool). reports_if b Changing) (ne_eqb (length new) 0 (λ none. omega (arith, some, none)))

pub returns-then-is_empty : goal.returns-then-is_empty
returns-then-is_empty g c z s holds file small =
    plan_reported z _ s _ _ _ c.tell.ensures (nothing_suits (nat_eq (length c.args.new.now) 0) (replies.Wrote 0))
    (none_written z c.args.moment s c.args.fd (handle_of c.args.description) c.args.new.now (grind (arith, nat_tests, c.is_empty.ensures, c.if-is_empty.true)))

pub returns : goal.returns
returns g c z s holds file small =
    let some : 0 < length c.args.new.now = grind (arith, nat_tests, c.is_empty.ensures, c.if-is_empty.false) in
    tries_kind z _ _ s _ (sym (some_bytes c.args.new.now some)) c.write_file.result
    (tries_same z Changing s _ _ (some_written z c.args.moment s c.args.fd (handle_of c.args.description) c.args.new.now some file) c.write_file.result (c.write_file.ensures z s holds file small))
