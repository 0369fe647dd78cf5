-- What holds of an outcome where it holds of each way that a command can end.
use Rattle.std.specs.Prelude.{◌≡◌, ℕ, Bool, true, false, List, [], ◌∷◌, Option, Some, None, Result, Ok, Err, cond}
use Rattle.std.proofs.Common.{refl}
use Rattle.volume_terms.specs.Sizes.{Sizes}
use Rattle.posix_profile.specs.State.{Object, File, Dir, Handle, State}
use Rattle.posix_profile.specs.Charge.{fits}
use Rattle.posix_profile.specs.Paths.{Place, first_error}
use Rattle.posix_profile.specs.Outcomes.{Outcome, answer, refuse, refuse_or, unless, change_to, at_place}
use Rattle.posix_profile.specs.HandleSteps.{at_handle, at_file, at_descriptor}
use Rattle.posix_profile.specs.NameSteps.{at_object}
use Rattle.posix_profile.specs.declared.reply.Errno.{Errno}
use Rattle.posix_profile.specs.declared.reply.Errno.TheVariants as errors
use Rattle.posix_profile.specs.declared.reply.Reply.{Reply}

-- no test holds
abbrev pub Passed : List (Bool × Errno) → Type 0
Passed [] = Unit {0}
Passed (test ∷ tests) = (test.0 ≡ false) × Passed tests

-- where no test gave an error, none holds
pub passed_from_none : (tests : List (Bool × Errno)) → first_error tests ≡ None → Passed tests
passed_from_none [] is = tt
passed_from_none (test ∷ tests) is = go test.0 test.1 (first_error tests) is (passed_from_none tests)
  where
    go : (b : Bool) (error : Errno) (later : Option Errno) → cond b (Some error) later ≡ None → (later ≡ None → Passed tests) → (b ≡ false) × Passed tests
    go true error later is rest = absurd cc
    go false error later is rest = (refl, rest is)

module _ (P : Outcome → Type 0) (s : State) (refused : (error : Errno) → P (refuse s error)) where
  by_first : (b : Bool) (error : Errno) (later : Option Errno) (o : Outcome) → (b ≡ false → P (refuse_or s later o)) → P (refuse_or s (cond b (Some error) later) o)
  by_first true error later o rest = refused error
  by_first false error later o rest = rest refl

  pub by_unless : (tests : List (Bool × Errno)) (o : Outcome) → (Passed tests → P o) → P (unless s tests o)
  unfolding unless
  by_unless [] o rest = rest tt
  by_unless (test ∷ tests) o rest = by_first test.0 test.1 (first_error tests) o (λ b. by_unless tests o (λ passed. rest (b, passed)))

  pub by_place : (r : Result Place Errno) (act : Place → Outcome) → ((place : Place) → r ≡ Ok place → P (act place)) → P (at_place s r act)
  unfolding at_place
  by_place (Ok place) act rest = rest place refl
  by_place (Err error) act rest = refused error

  pub by_handle : (h : Option Handle) (act : Handle → Outcome) → ((handle : Handle) → h ≡ Some handle → P (act handle)) → P (at_handle s h act)
  unfolding at_handle
  by_handle None act rest = refused errors.EBADF
  by_handle (Some handle) act rest = rest handle refl

  pub by_file : (x : Option Object) (error : Errno) (act : List ℕ → Outcome) → ((moment : ℕ) (bytes : List ℕ) → x ≡ Some (File moment bytes) → P (act bytes)) → P (at_file s x error act)
  unfolding at_file
  by_file None error act rest = refused errors.EBADF
  by_file (Some (File moment bytes)) error act rest = rest moment bytes refl
  by_file (Some (Dir moment entries)) error act rest = refused error

  pub by_descriptor : (fd : Option ℕ) (act : ℕ → Outcome) → ((n : ℕ) → fd ≡ Some n → P (act n)) → P (at_descriptor s fd act)
  unfolding at_descriptor
  by_descriptor None act rest = refused errors.EMFILE
  by_descriptor (Some n) act rest = rest n refl

  pub by_object : (o : Option ℕ) (act : ℕ → Outcome) → ((n : ℕ) → o ≡ Some n → P (act n)) → P (at_object s o act)
  unfolding at_object
  by_object None act rest = refused errors.ENOENT
  by_object (Some n) act rest = rest n refl

  by_room : (b : Bool) (new : State) (reply : Reply) → (b ≡ true → P (answer new reply)) → P (cond b (answer new reply) (refuse s errors.ENOSPC))
  by_room true new reply rest = rest refl
  by_room false new reply rest = refused errors.ENOSPC

  pub by_change : (z : Sizes) (new : State) (reply : Reply) → (fits z new.objects ≡ true → P (answer new reply)) → P (change_to z s new reply)
  unfolding change_to
  by_change z new reply rest = by_room (fits z new.objects) new reply rest
