use Rattle.std.proofs.Common.{arith}
use Rattle.std.specs.FinMap as map
use Rattle.posix_profile.specs.Changes.{written}
use Rattle.posix_profile.specs.laws.Write.{length-written}
use Rattle.object_store.specs.Facts.{bytes_of}
use Rattle.object_store.proofs.table.ObjectTable.write.Goals as goal

pub returns-clause-reports : goal.returns-clause-reports
returns-clause-reports c = λ objects bytes reports file count fits before after.
    c.lengthen.ensures.counts objects (written (bytes_of (map.get objects c.args.number)) c.args.offset bytes) reports file
    (omega (arith, length-written (bytes_of (map.get objects c.args.number)) c.args.offset bytes, c.saturating_add-end.ensures, count, fits)) before after
