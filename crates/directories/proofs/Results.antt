-- Results that say more.
use Rattle.std.specs.Prelude.{ℕ, Result, Ok, Err, IfOk, OnOk, IfErr}
use Rattle.pages.specs.Faults.{MayLackMemory}
use Rattle.pages.specs.State.{PagesState}
use Rattle.pages.specs.declared.fault.PageFault.{PageFault}
use Rattle.pages.specs.declared.fault.PageFault.TheVariants as faults
use Rattle.directories.specs.Faults.{MayLackRoom}

-- what follows of what holds of a result that is there
pub on_done : {A E : Type 0} (P Q : Type 0) (r : Result A E) → (P → Q) → OnOk r P → OnOk r Q
on_done P Q (Ok x) f is = f is
on_done P Q (Err e) f is = tt

pub on_ok : {A E : Type 0} (P Q : A → Type 0) (r : Result A E) → ((x : A) → P x → Q x) → IfOk r P → IfOk r Q
on_ok P Q (Ok x) f is = f x is
on_ok P Q (Err e) f is = tt

-- what follows of three things that hold of a result that is there
pub on_all : {A E : Type 0} (P Q S T : A → Type 0) (r : Result A E) → ((x : A) → P x → Q x → S x → T x) → IfOk r P → IfOk r Q → IfOk r S → IfOk r T
on_all P Q S T (Ok x) f p q s = f x p q s
on_all P Q S T (Err e) f p q s = tt

pub on_err : {A E : Type 0} (P Q : E → Type 0) (r : Result A E) → ((e : E) → P e → Q e) → IfErr r P → IfErr r Q
on_err P Q (Ok x) f is = tt
on_err P Q (Err e) f is = f e is

-- what may lack to a call that adds no name may lack to one that adds one
pub memory_room : (n : ℕ) (new : PagesState) (fault : PageFault) → MayLackMemory new fault → MayLackRoom n new fault
memory_room n new faults.NoMemory is = tt
memory_room n new faults.Device is = is
memory_room n new faults.Worn is = is
memory_room n new faults.Damaged is = is
memory_room n new faults.Full is = absurd is

-- what follows of two things that hold of a result that is there
pub on_both : {A E : Type 0} (P Q S : A → Type 0) (r : Result A E) → ((x : A) → P x → Q x → S x) → IfOk r P → IfOk r Q → IfOk r S
on_both P Q S (Ok x) f p q = f x p q
on_both P Q S (Err e) f p q = tt
