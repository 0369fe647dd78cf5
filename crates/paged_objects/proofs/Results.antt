-- Results that say more.
use Rattle.std.specs.Prelude.{◌≡◌, ◌≢◌, ℕ, Option, Some, None, Result, Ok, Err, IfOk, IfErr, IfSome}
use Rattle.pages.specs.Faults.{MayLackMemory}
use Rattle.pages.specs.Maps.{PageMap, after_change}
use Rattle.pages.specs.State.{PagesState}
use Rattle.pages.specs.declared.change.Change.{Change}
use Rattle.pages.specs.declared.fault.PageFault.{PageFault}
use Rattle.pages.specs.declared.fault.PageFault.TheVariants as faults
use Rattle.directories.specs.Faults.{MayLackRoom}

pub on_ok : {A E : Type 0} (P Q : A → Type 0) (r : Result A E) → ((x : A) → P x → Q x) → IfOk r P → IfOk r Q
on_ok P Q (Ok x) f is = f x is
on_ok P Q (Err e) f is = tt

-- nothing is said of a result
pub on_any : {A E : Type 0} (r : Result A E) → IfOk r (λ x. Unit {0})
on_any (Ok x) = tt
on_any (Err e) = tt

-- what follows of two things that hold of a result that is there
pub on_both : {A E : Type 0} (P Q S : A → Type 0) (r : Result A E) → ((x : A) → P x → Q x → S x) → IfOk r P → IfOk r Q → IfOk r S
on_both P Q S (Ok x) f p q = f x p q
on_both P Q S (Err e) f p q = tt

-- and of three
pub on_three : {A E : Type 0} (P Q S T : A → Type 0) (r : Result A E) → ((x : A) → P x → Q x → S x → T x) → IfOk r P → IfOk r Q → IfOk r S → IfOk r T
on_three P Q S T (Ok x) f p q s = f x p q s
on_three P Q S T (Err e) f p q s = tt

-- what holds of a result that is there in each case holds of it in all
pub on_each : {A E : Type 0} (P : ℕ → ℕ → A → Type 0) (r : Result A E) → ((i j : ℕ) → IfOk r (P i j)) → IfOk r (λ x. (i j : ℕ) → P i j x)
on_each P (Ok x) f = λ i j. f i j
on_each P (Err e) f = tt

pub on_err : {A E : Type 0} (P Q : E → Type 0) (r : Result A E) → ((e : E) → P e → Q e) → IfErr r P → IfErr r Q
on_err P Q (Ok x) f is = tt
on_err P Q (Err e) f is = f e is

-- where the header can count more entries, no room lacks
pub lacks_memory_only : (n : ℕ) (new : PagesState) (fault : PageFault) → n ≢ 4294967295 → MayLackRoom n new fault → MayLackMemory new fault
lacks_memory_only n new faults.NoMemory less is = tt
lacks_memory_only n new faults.Device less is = is
lacks_memory_only n new faults.Worn less is = is
lacks_memory_only n new faults.Damaged less is = is
lacks_memory_only n new faults.Full less is = absurd (less is)

-- what follows of one thing that holds of a change, if one was made
pub on_made_one : {A E : Type 0} (P Q : A → Type 0) (r : Result (Option A) E) → ((x : A) → P x → Q x) → IfOk r (λ made. IfSome made P) → IfOk r (λ made. IfSome made Q)
on_made_one P Q (Ok (Some x)) f p = f x p
on_made_one P Q (Ok None) f p = tt
on_made_one P Q (Err e) f p = tt

-- of two
pub on_made_two : {A E : Type 0} (P Q T : A → Type 0) (r : Result (Option A) E) → ((x : A) → P x → Q x → T x)
    → IfOk r (λ made. IfSome made P) → IfOk r (λ made. IfSome made Q) → IfOk r (λ made. IfSome made T)
on_made_two P Q T (Ok (Some x)) f p q = f x p q
on_made_two P Q T (Ok None) f p q = tt
on_made_two P Q T (Err e) f p q = tt

-- of three
pub on_made_three : {A E : Type 0} (P Q S T : A → Type 0) (r : Result (Option A) E) → ((x : A) → P x → Q x → S x → T x)
    → IfOk r (λ made. IfSome made P) → IfOk r (λ made. IfSome made Q) → IfOk r (λ made. IfSome made S) → IfOk r (λ made. IfSome made T)
on_made_three P Q S T (Ok (Some x)) f p q s = f x p q s
on_made_three P Q S T (Ok None) f p q s = tt
on_made_three P Q S T (Err e) f p q s = tt

-- a change that keeps each page of other objects keeps all of them
pub each_within : {E : Type 0} (r : Result (Option Change) E) (m : PageMap) (d : ℕ) → ((q k : ℕ) → q ≢ d → IfOk r (λ made. IfSome made (λ change. after_change change m q k ≡ m q k)))
    → IfOk r (λ made. IfSome made (λ change. (q k : ℕ) → q ≢ d → after_change change m q k ≡ m q k))
each_within (Ok (Some change)) m d f = f
each_within (Ok None) m d f = tt
each_within (Err e) m d f = tt
