-- What calls that go on leave of a store that is given up then.
use Rattle.pages.specs.State.{PagesState}
use Rattle.pages.specs.Stores.{GoesOn}
use Rattle.page_store.specs.Sealing.{EndsOn}

-- what goes on may end so
pub ends_going : (p q : PagesState) → GoesOn p q → EndsOn p q
ends_going p q goes = record {
  page_bytes = goes.page_bytes;
  most = goes.most;
  spare = goes.spare;
  worn = goes.worn;
  refused = goes.refused;
  commits = goes.commits;
  failed = goes.failed;
  device = goes.device;
  numbers = goes.numbers;
  marks = goes.marks;
  limits = goes.limits;
  summaries = goes.truth.summaries;
  mountable = goes.mountable;
}
