-- Where fewer causes are given, more are; and what a fault says of two calls in turn.
use Rattle.std.specs.Prelude.{◌≤◌}
use Rattle.std.proofs.Common.{arith}
use Rattle.pages.specs.State.{PagesState}
use Rattle.pages.specs.Faults.{Says, MayLack, SaysWhy, MayLackMemory}
use Rattle.pages.specs.declared.fault.PageFault.{PageFault}
use Rattle.pages.specs.declared.fault.PageFault.TheVariants as faults

pub says_more : (m d f m' d' f' : Type 0) (new : PagesState) (fault : PageFault) → (m → m') → (d → d') → (f → f') → Says m d f new fault → Says m' d' f' new fault
says_more m d f m' d' f' new faults.NoMemory x y z is = x is
says_more m d f m' d' f' new faults.Device x y z is = is
says_more m d f m' d' f' new faults.Worn x y z is = is
says_more m d f m' d' f' new faults.Damaged x y z is = y is
says_more m d f m' d' f' new faults.Full x y z is = z is

-- a fault of what reads is one of what takes memory too
pub lacks_memory : (old new : PagesState) (fault : PageFault) → MayLack old new fault → MayLackMemory new fault
lacks_memory old new faults.NoMemory is = tt
lacks_memory old new faults.Device is = is
lacks_memory old new faults.Worn is = is
lacks_memory old new faults.Damaged is = is
lacks_memory old new faults.Full is = is

-- a growth that was refused in the second of two calls was refused in both
pub lacks_on : (a b c : PagesState) (fault : PageFault) → a.refused ≤ b.refused → MayLack b c fault → MayLack a c fault
lacks_on a b c faults.NoMemory first is = omega (arith, first, is)
lacks_on a b c faults.Device first is = is
lacks_on a b c faults.Worn first is = is
lacks_on a b c faults.Damaged first is = is
lacks_on a b c faults.Full first is = is

pub says_on : (a b c : PagesState) (fault : PageFault) → a.refused ≤ b.refused → SaysWhy b c fault → SaysWhy a c fault
says_on a b c faults.NoMemory first is = omega (arith, first, is)
says_on a b c faults.Device first is = is
says_on a b c faults.Worn first is = is
says_on a b c faults.Damaged first is = is
says_on a b c faults.Full first is = is
