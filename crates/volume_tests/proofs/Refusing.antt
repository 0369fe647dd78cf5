-- What a call leaves of pages that refuse memory.
use Rattle.std.specs.Prelude.{◌≡◌, ◌≤◌, ◌+◌, ℕ, true, false, Result, Ok, Err, IfErr}
use Rattle.std.proofs.Common.{refl, arith}
use mathlib.Core.Logic.{∥∥₁_elim}
use Rattle.nand_model.specs.Flash.{Flash}
use Rattle.nand_model.specs.laws.Calls.{lasts_here}
use Rattle.nand_model.specs.laws.Changes.{only_reads_here}
use Rattle.flash_tree.specs.laws.Truth.{true_same}
use Rattle.flash_tree.specs.Numbering.{AreBelow}
use Rattle.pages.specs.State.{PagesState}
use Rattle.pages.specs.Refreshing.{Refreshes}
use Rattle.pages.specs.Stores.{GoesOn, IsOrdered}
use Rattle.pages.specs.laws.Mountable.{mountable_read}
use Rattle.volume_terms.specs.declared.fault.StoreFault.{StoreFault}
use Rattle.volume_tests.specs.Refusing.{refusing}

-- a call of the pages inside
pub goes_on : (a b : ℕ) (p q : PagesState) → a ≤ b → GoesOn p q → GoesOn (refusing a p) (refusing b q)
goes_on a b p q answers x = record {
  page_bytes = x.page_bytes;
  most = x.most;
  spare = x.spare;
  worn = x.worn;
  refused = omega (arith, answers, x.refused);
  commits = x.commits;
  failed = x.failed;
  device = x.device;
  numbers = x.numbers;
  marks = x.marks;
  limits = x.limits;
  truth = x.truth;
  mountable = record {
    first = x.mountable.first;
    ordered = λ begun is.
        ∥∥₁_elim (x.mountable.ordered begun (record { first = is.first; noted = is.noted })) (λ m n. squash₁ m n) (λ (r : IsOrdered q). ∣ record { first = r.first; noted = r.noted } ∣₁);
    reads = x.mountable.reads;
  };
}

-- what is below some numbers is below greater ones
below_more : (f : Flash) (g s more : ℕ) → AreBelow f g s → AreBelow f (g + more) (s + more)
below_more f g s more below b p t good has = let was = below b p t good has in (omega (arith, was), omega (arith, was), omega (arith, was))

-- a call that is refused
pub goes_nowhere : (a b : ℕ) (p : PagesState) → a ≤ b → GoesOn (refusing a p) (refusing b p)
goes_nowhere a b p answers = record {
  page_bytes = refl;
  most = refl;
  spare = refl;
  worn = refl;
  refused = omega (arith, answers);
  commits = omega arith;
  failed = λ is. is;
  device = lasts_here p.device;
  numbers = record {
    groups_rise = omega arith;
    seqs_rise = omega arith;
    seqs = omega arith;
    groups = λ honest power. omega arith;
    below = λ honest below. below;
    written = λ honest below more totaled. below_more p.device.flash p.next.group p.next.seq more below;
  };
  marks = omega arith;
  limits = λ honest left. left;
  truth = true_same p.device p.checkpoint p.checkpoint refl;
  mountable = mountable_read (refusing a p) (refusing b p) (only_reads_here p.device) refl refl;
}

-- a refresh
stops_always : (result : Result (Unit {0}) StoreFault) → IfErr result (λ fault. false ≡ false)
stops_always (Ok done) = tt
stops_always (Err fault) = refl

pub refreshes : (answers block : ℕ) (p q : PagesState) (result : Result (Unit {0}) StoreFault) → Refreshes block p q result → Refreshes block (refusing answers p) (refusing answers q) result
refreshes answers block p q result x = record {
  goes_on = goes_on answers answers p q (omega arith) x.goes_on;
  commits = x.commits;
  in_buffer = x.in_buffer;
  lent = x.lent;
  power = x.power;
  stops = stops_always result;
  costs = x.costs;
  reads = x.reads;
  ends = λ sound. let two : false ≡ true = sound in absurd cc;
}
