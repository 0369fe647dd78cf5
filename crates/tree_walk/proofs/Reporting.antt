-- What a fault reports, in other words.
use Rattle.std.specs.Prelude.{◌≡◌, Result, Ok, Err, IfErr, OnOk}
use Rattle.std.proofs.Common.{sym, subst}
use Rattle.pages.specs.State.{PagesState}
use Rattle.tree_walk.specs.Faults.{ReportsWrong, ReportsWhy}
use Rattle.tree_walk.specs.declared.broken.Broken.{Broken}
use Rattle.tree_walk.specs.declared.fault.WalkFault.{WalkFault}
use Rattle.tree_walk.specs.declared.fault.WalkFault.TheVariants as faults

module _ (A B : Broken → Type 0) (by : (broken : Broken) → A broken → B broken) (new : PagesState) where
  pub reports_as : (fault : WalkFault) → ReportsWrong A new fault → ReportsWrong B new fault
  reports_as faults.NoMemory t = t
  reports_as faults.Device t = t
  reports_as (faults.Broken broken) t = by broken t

  pub result_reports_as : {T : Type 0} (result : Result T WalkFault) → IfErr result (ReportsWrong A new) → IfErr result (ReportsWrong B new)
  result_reports_as (Ok x) t = tt
  result_reports_as (Err fault) t = reports_as fault t

-- whatever is wrong
pub reports_why : (A : Broken → Type 0) (new : PagesState) (fault : WalkFault) → ReportsWrong A new fault → ReportsWhy new fault
reports_why A new = reports_as A (λ broken. Unit {0}) (λ broken a. tt) new

pub result_reports_why : {T : Type 0} (A : Broken → Type 0) (new : PagesState) (result : Result T WalkFault) → IfErr result (ReportsWrong A new) → IfErr result (ReportsWhy new)
result_reports_why A new = result_reports_as A (λ broken. Unit {0}) (λ broken a. tt) new

-- want of memory alone
pub lacks_memory : (A : Broken → Type 0) (new : PagesState) (fault : WalkFault) → fault ≡ faults.NoMemory → ReportsWrong A new fault
lacks_memory A new fault is = subst (ReportsWrong A new) (sym is) tt

pub result_lacks_memory : {T : Type 0} (A : Broken → Type 0) (new : PagesState) (result : Result T WalkFault) → IfErr result (λ fault. fault ≡ faults.NoMemory) → IfErr result (ReportsWrong A new)
result_lacks_memory A new (Ok x) is = tt
result_lacks_memory A new (Err fault) is = lacks_memory A new fault is

-- where it is done, what follows
pub when_done : {T E : Type 0} (A B : Type 0) (result : Result T E) → (A → B) → OnOk result A → OnOk result B
when_done A B (Ok x) by a = by a
when_done A B (Err e) by a = tt
