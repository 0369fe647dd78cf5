-- Look-ups one after the other.
use Rattle.std.proofs.Common.{refl, ◌∙◌, arith}
use Rattle.nand_model.specs.laws.Changes.{only_reads_on, only_reads_here}
use Rattle.pages.specs.State.{PagesState, OnlyFinds}

pub finds_none : (a : PagesState) → OnlyFinds a a
finds_none a = record {
  page_bytes = refl;
  most = refl;
  present = refl;
  committed = refl;
  in_buffer = refl;
  sound = refl;
  failed = λ is. is;
  refused = omega arith;
  commits = refl;
  issued = omega arith;
  device = only_reads_here a.device;
  next = refl;
  spare = refl;
  worn = refl;
  checkpoint = refl;
  first = refl;
}

pub finds_on : (a b c : PagesState) → OnlyFinds a b → OnlyFinds b c → OnlyFinds a c
finds_on a b c x y = record {
  page_bytes = y.page_bytes ∙ x.page_bytes;
  most = y.most ∙ x.most;
  present = y.present ∙ x.present;
  committed = y.committed ∙ x.committed;
  in_buffer = y.in_buffer ∙ x.in_buffer;
  sound = y.sound ∙ x.sound;
  failed = λ is. y.failed (x.failed is);
  refused = omega (arith, x.refused, y.refused);
  commits = y.commits ∙ x.commits;
  issued = omega (arith, x.issued, y.issued);
  device = only_reads_on a.device b.device c.device x.device y.device;
  next = y.next ∙ x.next;
  spare = y.spare ∙ x.spare;
  worn = y.worn ∙ x.worn;
  checkpoint = y.checkpoint ∙ x.checkpoint;
  first = y.first ∙ x.first;
}
