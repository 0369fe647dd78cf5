-- What a store has after calls that read.
use Rattle.std.specs.Prelude.{Result, Ok, Err}
use Rattle.std.proofs.Common.{◌∙◌}
use Rattle.volume_terms.specs.Sizes.{Sizes}
use Rattle.posix_profile.specs.State.{Objects}
use Rattle.posix_profile.specs.declared.reply.Errno.{Errno}
use Rattle.volume_terms.specs.declared.fault.StoreFault.{StoreFault}
use Rattle.volume_terms.specs.declared.fault.StoreFault.TheVariants as faults
use Rattle.object_store.specs.declared.refusal.Refusal.{Refusal}
use Rattle.object_store.specs.declared.refusal.Refusal.TheVariants as refusals
use Rattle.object_store.specs.Stores.{Meaning, IsLawful, Has, ReadFaults, Reports}

-- the store goes on to have its objects
pub has_on : {S : Type 0} (m : Meaning S) (law : IsLawful m) (z : Sizes) (objects : Objects) (a b : S) → m.reads a b → Has m z objects a → Has m z objects b
has_on m law z objects a b reads has = record {
  numbers = has.numbers;
  sizes = law.lasts_sizes a b (law.reads_lasts a b reads) ∙ has.sizes;
  represents = law.reads_represent a b objects reads has.represents;
  forest = has.forest;
  fit = has.fit;
}

-- the fault of a call that reads, after others
pub unread_after : {S : Type 0} (m : Meaning S) (law : IsLawful m) (a b c : S) → m.reads a b → (fault : StoreFault) → ReadFaults m b c fault → ReadFaults m a c fault
unread_after m law a b c reads faults.NoMemory left = law.reads_on a b c reads left
unread_after m law a b c reads faults.Device left = law.unread_on a b c reads left
unread_after m law a b c reads faults.Worn left = absurd left

-- what is reported after calls that read
pub reports_on : {S A : Type 0} (m : Meaning S) (law : IsLawful m) (a b c : S) (P : A → Type 0) (Q : Errno → Type 0)
    → m.reads a b → (r : Result A Refusal) → Reports m b c P Q r → Reports m a c P Q r
reports_on m law a b c P Q reads (Ok x) reported = reported
reports_on m law a b c P Q reads (Err (refusals.Fault fault)) reported = unread_after m law a b c reads fault reported
reports_on m law a b c P Q reads (Err (refusals.Error error)) reported = reported
