-- Reads and writes at an offset, in a slot.
use Rattle.std.proofs.Common.{◌≡◌, ◌∙◌, ◌≤ℤ◌, ℤ, pos, int_lt, true, false, arith, sym, ap, subst}
use Rattle.posix_profile.specs.declared.command.Stamped.{Stamped}
use Rattle.posix_profile.specs.declared.reply.Reply.{Reply}
use Rattle.flash_c.specs.Lending.{with_session}
use Rattle.flash_c.specs.Placed.{Visit, PlacedRead, PlacedWrite, GoesBack, IsReadAt, IsWrittenAt, ReadsAtIn, WritesAtIn}
use Rattle.flash_c.specs.declared.session.Session.{Session}
use Rattle.flash_c.specs.declared.slot.Slot.{Slot}

-- a number that is not below zero
pub at_least_zero : (n : ℤ) → int_lt n (pos 0) ≡ false → pos 0 ≤ℤ n
at_least_zero n is = search (arith, is)

pub back_as : {S : Type 0} (serves : S → Stamped → Reply → S → Type 0) (old : S) (visit : Visit) (n m : ℤ) (new : S) → n ≡ m → GoesBack serves old visit n new → GoesBack serves old visit m new
back_as serves old visit n m new same = subst (λ (k : ℤ). GoesBack serves old visit k new) same

module _ (serves : Session → Stamped → Reply → Session → Type 0) (old seen : Slot) (lent left : Session) (full : old.full ≡ true) (same : seen ≡ old) (lends : lent ≡ seen.session) where
  its_session : lent ≡ old.session
  its_session = lends ∙ ap (λ (s : Slot). s.session) same

  -- the session of a full slot was lent, and read
  pub read_in : (r : PlacedRead) (number : ℤ) → r.number ≡ number → IsReadAt serves lent r left → ReadsAtIn serves old (record r { number = number }) (with_session seen left)
  read_in r number is does = record {
    full = ap (λ (s : Slot). s.full) same;
    read = λ _. subst (λ (n : ℤ). IsReadAt serves old.session (record r { number = n }) left) is (subst (λ (s : Session). IsReadAt serves s r left) its_session does);
    empty = λ none. (let two : true ≡ false = sym full ∙ none in absurd cc);
  }

  -- the session of a full slot was lent, and wrote
  pub written_in : (issued : PlacedWrite) (result number : ℤ) → result ≡ number → IsWrittenAt serves lent issued result left → WritesAtIn serves old issued number (with_session seen left)
  written_in issued result number is does = record {
    full = ap (λ (s : Slot). s.full) same;
    written = λ _. subst (λ (n : ℤ). IsWrittenAt serves old.session issued n left) is (subst (λ (s : Session). IsWrittenAt serves s issued result left) its_session does);
    empty = λ none. (let two : true ≡ false = sym full ∙ none in absurd cc);
  }
