-- What a device that counts its calls is.
use Rattle.std.specs.Prelude.{◌-◌}
use Rattle.volume_bench.specs.declared.counts.Counts.{Counts}
use Rattle.volume_bench.specs.declared.device.CountedNand.{CountedNand}

-- the calls that were in the count
abbrev pub counts_of : {N : Type 0} → CountedNand N → Counts
counts_of d = d.counts

-- no calls
abbrev pub none : Counts
none = record { reads = 0; tags = 0; programs = 0; erases = 0; marks = 0 }

-- the calls of each kind without those before
abbrev pub calls_after : Counts → Counts → Counts
calls_after before all =
    record {
      reads = all.reads - before.reads;
      tags = all.tags - before.tags;
      programs = all.programs - before.programs;
      erases = all.erases - before.erases;
      marks = all.marks - before.marks;
    }
