-- Calls of a store that is given up at the end, one after the other.
use Rattle.std.proofs.Common.{◌∙◌, arith}
use Rattle.nand_model.specs.laws.Calls.{lasts_on}
use Rattle.page_store.specs.Sealing.{EndsOn, StaysRight}
use Rattle.pages.specs.State.{PagesState}
use Rattle.pages.specs.Stores.{GoesOn}
use Rattle.pages.specs.laws.Mountable.{mountable_then}
use Rattle.paged_objects.specs.laws.Going.{numbers_on}

-- an end after calls, or after an end
pub ends_after : (a b c : PagesState) → EndsOn a b → EndsOn b c → EndsOn a c
ends_after a b c x y = record {
  page_bytes = y.page_bytes ∙ x.page_bytes;
  most = y.most ∙ x.most;
  spare = y.spare ∙ x.spare;
  worn = y.worn ∙ x.worn;
  refused = omega (arith, x.refused, y.refused);
  commits = omega (arith, x.commits, y.commits);
  failed = λ is. y.failed (x.failed is);
  device = lasts_on a.device b.device c.device x.device y.device;
  numbers = numbers_on a.device b.device c.device a.next b.next c.next x.device y.device x.numbers y.numbers;
  marks = omega (arith, x.marks, y.marks);
  limits = λ honest left. y.limits (x.device.honest ∙ honest) (x.limits honest left);
  summaries = λ honest right. y.summaries (x.device.honest ∙ honest) (x.summaries honest right);
  mountable = mountable_then a b c x.device x.worn x.mountable y.mountable;
}

-- checkpoints stay right by calls that go on
pub goes_right : (p q : PagesState) → GoesOn p q → StaysRight p q
goes_right p q goes honest checked = goes.truth.checked honest checked

-- and by two ends in turn
pub right_after : (a b c : PagesState) → EndsOn a b → StaysRight a b → StaysRight b c → StaysRight a c
right_after a b c ends first then honest checked = then (ends.device.honest ∙ honest) (first honest checked)
