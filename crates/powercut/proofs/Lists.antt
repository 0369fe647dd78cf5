-- Lists of sessions and of their ends, one more at a time.
use Rattle.std.specs.Prelude.{◌≡◌, ◌<◌, ◌≤◌, ◌+◌, ◌-◌, ◌^◌, ◌++◌, ◌&&◌, ℕ, zero, suc, Bool, true, false, nat_lt, List, [], ◌∷◌, length, slice_get, get_or, Some, if◌then◌else◌}
use Rattle.std.proofs.Common.{refl, sym, ◌∙◌, ap, subst, arith}
use Rattle.std.proofs.lemmas.List.{length-append}
use Rattle.nand_model.specs.Calls.{Device}
use Rattle.lives.specs.Lives.{SessionRecord}
use Rattle.powercut.specs.Planning.{failing, are_counted}
use Rattle.powercut.specs.Starting.{plan_of}
use Rattle.powercut.specs.declared.session.Session.{Session}
use Rattle.powercut.specs.declared.session.SessionEnd.{SessionEnd}
use Rattle.powercut.specs.Sessions.{record_of, records_of, IsEnded, AreEnded, cuts_in, failing_in}

none_at : (i : ℕ) (s : Session) → slice_get [] i ≡ Some s → ⊥
none_at i s is = cc

pub no_records : (sessions : List Session) → records_of sessions [] ≡ []
no_records [] = refl
no_records (session ∷ sessions) = refl

pub none_ended : (sessions : List Session) (d : Device) → AreEnded sessions [] d d
none_ended [] d = refl
none_ended (session ∷ sessions) d = refl

pub records_more : (sessions : List Session) (ends : List SessionEnd) (session : Session) (end : SessionEnd) → slice_get sessions (length ends) ≡ Some session
    → records_of sessions (ends ++ end ∷ []) ≡ records_of sessions ends ++ record_of session end ∷ []
records_more [] [] session end at = cc
records_more [] (e ∷ ends) session end at = cc
records_more (s ∷ sessions) [] session end at =
    let same : s ≡ session = cc in
    ap (λ (xs : List SessionRecord). record_of s end ∷ xs) (no_records sessions) ∙ ap (λ (x : Session). record_of x end ∷ []) same
records_more (s ∷ sessions) (e ∷ ends) session end at = ap (λ (xs : List SessionRecord). record_of s e ∷ xs) (records_more sessions ends session end at)

pub ended_more : (sessions : List Session) (ends : List SessionEnd) (session : Session) (end : SessionEnd) (a b c : Device) → slice_get sessions (length ends) ≡ Some session
    → AreEnded sessions ends a b → IsEnded session end b c → AreEnded sessions (ends ++ end ∷ []) a c
ended_more [] ends session end a b c at all one = absurd (none_at (length ends) session at)
ended_more (s ∷ sessions) [] session end a b c at all one =
    let same : s ≡ session = cc in
    let here : IsEnded s end b c = subst (λ (x : Session). IsEnded x end b c) (sym same) one in
    (c, subst (λ (x : Device). IsEnded s end x c) all here, none_ended sessions c)
ended_more (s ∷ sessions) (e ∷ ends) session end a b c at all one = (all.0, all.1, ended_more sessions ends session end all.0 b c at all.2 one)

-- the calls of two lists are reported apart where those of each are
counted_both : (xs ys : List ℕ) → are_counted (xs ++ ys) ≡ true → (are_counted xs ≡ true) × (are_counted ys ≡ true)
counted_both [] ys all = (refl, all)
counted_both (x ∷ xs) ys all =
    let is = both (nat_lt x (2 ^ 64 - 1)) (are_counted (xs ++ ys)) all in
    let rest = counted_both xs ys is.1 in
    (ap (λ (b : Bool). b && are_counted xs) is.0 ∙ rest.0, rest.1)
  where
    both : (a b : Bool) → (a && b) ≡ true → (a ≡ true) × (b ≡ true)
    both true true is = (refl, refl)
    both true false is = absurd cc
    both false b is = absurd cc

-- no more failures there are than the sessions list
pub failures_listed : (sessions : List Session) (ends : List SessionEnd) (a b : Device) → AreEnded sessions ends a b → are_counted (failing_in sessions) ≡ true
    → b.failures ≤ a.failures + length (failing_in sessions)
failures_listed [] ends a b same all = let is : b.failures ≡ a.failures = ap (λ (d : Device). d.failures) same in omega (arith, is)
failures_listed (s ∷ sessions) [] a b same all = let is : b.failures ≡ a.failures = ap (λ (d : Device). d.failures) same in omega (arith, is)
failures_listed (s ∷ sessions) (e ∷ ends) a b ended all =
    let each = counted_both (failing (plan_of s)) (failing_in sessions) all in
    let here = ended.1.planned.failures each.0 in
    let rest = failures_listed sessions ends ended.0 b ended.2 each.1 in
    let len : length (failing (plan_of s) ++ failing_in sessions) ≡ length (failing (plan_of s)) + length (failing_in sessions) = length-append (failing (plan_of s)) (failing_in sessions) in
    omega (arith, here, rest, len)

pub cuts_more : (ends : List SessionEnd) (end : SessionEnd) → cuts_in (ends ++ end ∷ []) ≡ cuts_in ends + (if end.cut then 1 else 0)
cuts_more [] end = omega arith
cuts_more (e ∷ ends) end = let rest = cuts_more ends end in omega (arith, rest)

pub at_index : {A : Type 0} (xs : List A) (i : ℕ) (x : A) → i < length xs → x ≡ get_or xs i x → slice_get xs i ≡ Some x
at_index [] i x lt is = absurd (omega arith)
at_index (k ∷ xs) zero x lt is = ap Some (sym is)
at_index (k ∷ xs) (suc i) x lt is = at_index xs i x (omega arith) is
