use Rattle.std.proofs.Common.{◌≤◌, ◌-◌, length}
use Rattle.flash_c.specs.Sessions.{HasWritten}
use Rattle.flash_c.specs.Serving.{serves}
use Rattle.flash_c.proofs.writing.write.Given as goal

-- commands wrote so many of the bytes
abbrev pub invariant-writes : goal.invariant-writes
invariant-writes l = record {
  written : HasWritten serves (record { moment = l.moment; fd = l.fd; bytes = l.bytes }) l.initial.session l.done l.session;
  within : l.done ≤ length l.bytes;
}

abbrev pub decreases-writes : goal.decreases-writes
decreases-writes l = length l.bytes - l.done
