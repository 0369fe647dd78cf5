-- Calls of a store of pages, one after the other.
use Rattle.std.specs.Prelude.{◌≡◌, ◌≤◌, ◌+◌, ◌-◌, ℕ, true}
use Rattle.std.proofs.Common.{refl, sym, ◌∙◌, ap, subst, inl, inr, arith}
use Rattle.std.proofs.lemmas.Bool.{cases_Bool}
use Rattle.nand_model.specs.Flash.{Flash}
use Rattle.nand_model.specs.Calls.{Device, Lasts}
use Rattle.nand_model.specs.Changes.{OnlyReads}
use Rattle.nand_model.specs.laws.Calls.{lasts_on}
use Rattle.nand_model.specs.laws.Changes.{only_reads_on, only_reads_here}
use Rattle.nand_model.specs.declared.geometry.Geometry.{Geometry}
use Rattle.flash_tree.specs.laws.Place.{same_flash, had_power}
use Rattle.flash_tree.specs.laws.Truth.{true_on, true_read}
use Rattle.flash_tree.specs.Mount.{bad_blocks, sizes_of}
use Rattle.flash_tree.specs.Numbering.{AreBelow}
use Rattle.pages.specs.State.{PagesState, NextNumbers, OnlyFinds}
use Rattle.pages.specs.Stores.{GoesOn, StaysSame, HandsOutNumbers, HasNumbersLeft, bad_on}
use Rattle.pages.specs.laws.Mountable.{mountable_read, mountable_then}
use Rattle.paged_objects.specs.Representing.{volume_of}
use Rattle.paged_objects.specs.Ending.{HasEnded, HasEndedAt, StaysAs}

-- look-ups leave the pages as they are
pub finds_stay : (p q : PagesState) → OnlyFinds p q → StaysAs p q
finds_stay p q x = record {
  page_bytes = x.page_bytes;
  most = x.most;
  spare = x.spare;
  worn = x.worn;
  present = λ o c. ap (λ m. m o c) x.present;
  committed = λ o c. ap (λ m. m o c) x.committed;
  sound = x.sound;
  failed = x.failed;
  refused = x.refused;
  commits = omega (arith, x.commits);
  device = x.device;
  next = x.next;
  checkpoint = x.checkpoint;
  first = x.first;
}

-- and so does a change that was refused memory
pub refused_stays : (p q : PagesState) → GoesOn p q → StaysSame p q → StaysAs p q
refused_stays p q goes x = record {
  page_bytes = goes.page_bytes;
  most = goes.most;
  spare = goes.spare;
  worn = goes.worn;
  present = x.present;
  committed = x.committed;
  sound = x.sound;
  failed = goes.failed;
  refused = goes.refused;
  commits = goes.commits;
  device = subst (OnlyReads p.device) (sym x.device) (only_reads_here p.device);
  next = x.next;
  checkpoint = x.checkpoint;
  first = x.first;
}

pub stays_here : (p : PagesState) → StaysAs p p
stays_here p = record {
  page_bytes = refl;
  most = refl;
  spare = refl;
  worn = refl;
  present = λ o c. refl;
  committed = λ o c. refl;
  sound = refl;
  failed = λ is. is;
  refused = omega arith;
  commits = omega arith;
  device = only_reads_here p.device;
  next = refl;
  checkpoint = refl;
  first = refl;
}

pub stays_on : (a b c : PagesState) → StaysAs a b → StaysAs b c → StaysAs a c
stays_on a b c x y = record {
  page_bytes = y.page_bytes ∙ x.page_bytes;
  most = y.most ∙ x.most;
  spare = y.spare ∙ x.spare;
  worn = y.worn ∙ x.worn;
  present = λ o k. y.present o k ∙ x.present o k;
  committed = λ o k. y.committed o k ∙ x.committed o k;
  sound = y.sound ∙ x.sound;
  failed = λ is. y.failed (x.failed is);
  refused = omega (arith, x.refused, y.refused);
  commits = omega (arith, x.commits, y.commits);
  device = only_reads_on a.device b.device c.device x.device y.device;
  next = y.next ∙ x.next;
  checkpoint = y.checkpoint ∙ x.checkpoint;
  first = y.first ∙ x.first;
}

-- reads mark no block
same_bad : (a b : Device) → OnlyReads a b → bad_on b ≡ bad_on a
same_bad a b reads =
    ap (λ (g : Geometry). bad_blocks g b.flash) reads.lasts.geometry
    ∙ ap (λ bad. bad_blocks a.geometry (record { bad = bad; next = b.flash.next; page = b.flash.page })) reads.bad

-- numbers above all that are on a flash are so where they are greater
above : (flash : Flash) (group seq more_group more_seq : ℕ) → group ≤ more_group → seq ≤ more_seq → AreBelow flash group seq → AreBelow flash more_group more_seq
above flash group seq more_group more_seq groups seqs below b p t good tag = let h = below b p t good tag in (omega (arith, h.0, groups), omega (arith, h.1, groups), omega (arith, h.2, seqs))

-- what ended a store between two states ended it between an earlier one and the second
pub ended_after : (p q r : PagesState) → p.commits ≤ q.commits → HasEnded q r → HasEnded p r
ended_after p q r rises (inl failed) = inl failed
ended_after p q r rises (inr (inl bad)) = inr (inl bad)
ended_after p q r rises (inr (inr (inl worn, none))) = inr (inr (inl worn, none))
ended_after p q r rises (inr (inr (inr begun, none))) = inr (inr (inr (omega (arith, rises, begun)), none))

-- and at it
pub ended_at : (p q : PagesState) → HasEnded p q → HasEndedAt q
ended_at p q (inl failed) = inl failed
ended_at p q (inr (inl bad)) = inr (inr (inr bad))
ended_at p q (inr (inr (why, inl group))) = inr (inl group)
ended_at p q (inr (inr (why, inr seq))) = inr (inr (inl seq))

-- pages that stay go on
pub stays_goes : (p q : PagesState) → StaysAs p q → GoesOn p q
stays_goes p q x =
    let group : q.next.group ≡ p.next.group = ap (λ (n : NextNumbers). n.group) x.next in
    let seq : q.next.seq ≡ p.next.seq = ap (λ (n : NextNumbers). n.seq) x.next in
    let changes : q.device.changes ≡ p.device.changes = x.device.changes in
    let failures : q.device.failures ≡ p.device.failures = x.device.failures in
    let bad : bad_on q.device ≡ bad_on p.device = same_bad p.device q.device x.device in
    record {
      page_bytes = x.page_bytes;
      most = x.most;
      spare = x.spare;
      worn = x.worn;
      refused = x.refused;
      commits = x.commits;
      failed = x.failed;
      device = x.device.lasts;
      numbers = record {
        groups_rise = omega (arith, group);
        seqs_rise = omega (arith, seq);
        seqs = omega (arith, seq, changes);
        groups = λ honest power. omega (arith, group, changes);
        below = λ honest at. above q.device.flash p.next.group p.next.seq q.next.group q.next.seq (omega (arith, group)) (omega (arith, seq))
            (subst (λ (f : Flash). AreBelow f p.next.group p.next.seq) (sym (same_flash p.device q.device x.device honest)) at);
        written = λ honest at more is. above q.device.flash p.next.group p.next.seq (p.next.group + more) (p.next.seq + more) (omega arith) (omega arith)
            (subst (λ (f : Flash). AreBelow f p.next.group p.next.seq) (sym (same_flash p.device q.device x.device honest)) at);
      };
      marks = omega (arith, bad, failures);
      limits = λ honest left. subst (λ (f : Flash). HasNumbersLeft f) (sym (same_flash p.device q.device x.device honest)) left;
      truth = true_read p.device q.device p.checkpoint q.checkpoint x.device x.checkpoint;
      mountable = mountable_read p q x.device x.first x.checkpoint;
    }

-- so they do where nothing is done
pub goes_here : (p : PagesState) → GoesOn p p
goes_here p = stays_goes p p (stays_here p)

-- what is on the device after both calls is below the first numbers and one more for each change: a device that is gone
-- changes no more
written_on : (a b c : Device) (x y z : NextNumbers) → Lasts a b → Lasts b c → HandsOutNumbers a b x y → HandsOutNumbers b c y z → a.honest ≡ true → AreBelow a.flash x.group x.seq
    → (more : ℕ) → c.changes ≡ a.changes + more → AreBelow c.flash (x.group + more) (x.seq + more)
written_on a b c x y z first then' h k honest at more is =
    let early_is : b.changes ≡ a.changes + (b.changes - a.changes) = omega (arith, first.changes) in
    let late_is : c.changes ≡ b.changes + (c.changes - b.changes) = omega (arith, then'.changes) in
    elim (cases_Bool b.gone) [
      | inl gone ↦
          let same : c ≡ b = then'.gone gone in
          let none : c.changes ≡ b.changes = ap (λ (d : Device). d.changes) same in
          above c.flash (x.group + (b.changes - a.changes)) (x.seq + (b.changes - a.changes)) (x.group + more) (x.seq + more) (omega (arith, none, is, early_is)) (omega (arith, none, is, early_is))
          (subst (λ (d : Device). AreBelow d.flash (x.group + (b.changes - a.changes)) (x.seq + (b.changes - a.changes))) (sym same) (h.written honest at (b.changes - a.changes) early_is))
      | inr power ↦
          let groups = h.groups honest power in
          above c.flash (y.group + (c.changes - b.changes)) (y.seq + (c.changes - b.changes)) (x.group + more) (x.seq + more) (omega (arith, groups, is, early_is, late_is)) (omega (arith, h.seqs, is, early_is, late_is))
          (k.written (first.honest ∙ honest) (h.below honest at) (c.changes - b.changes) late_is)
    ]

pub numbers_on : (a b c : Device) (x y z : NextNumbers) → Lasts a b → Lasts b c → HandsOutNumbers a b x y → HandsOutNumbers b c y z → HandsOutNumbers a c x z
numbers_on a b c x y z first then' h k = record {
  groups_rise = omega (arith, h.groups_rise, k.groups_rise);
  seqs_rise = omega (arith, h.seqs_rise, k.seqs_rise);
  seqs = omega (arith, h.seqs, k.seqs);
  groups = λ honest power. omega (arith, h.groups honest (had_power b c then' power), k.groups (first.honest ∙ honest) power);
  below = λ honest at. k.below (first.honest ∙ honest) (h.below honest at);
  written = written_on a b c x y z first then' h k;
}

-- calls go on one after the other
pub goes_on : (a b c : PagesState) → GoesOn a b → GoesOn b c → GoesOn a c
goes_on a b c x y = record {
  page_bytes = y.page_bytes ∙ x.page_bytes;
  most = y.most ∙ x.most;
  spare = y.spare ∙ x.spare;
  worn = y.worn ∙ x.worn;
  refused = omega (arith, x.refused, y.refused);
  commits = omega (arith, x.commits, y.commits);
  failed = λ is. y.failed (x.failed is);
  device = lasts_on a.device b.device c.device x.device y.device;
  numbers = numbers_on a.device b.device c.device a.next b.next c.next x.device y.device x.numbers y.numbers;
  marks = omega (arith, x.marks, y.marks);
  limits = λ honest left. y.limits (x.device.honest ∙ honest) (x.limits honest left);
  truth = true_on a.device b.device c.device a.checkpoint b.checkpoint c.checkpoint x.device x.truth y.truth;
  mountable = mountable_then a b c x.device x.worn x.mountable y.mountable;
}

-- the volume stays the same
pub volume_on : (p q : PagesState) → GoesOn p q → volume_of q ≡ volume_of p
volume_on p q goes = ap (λ (g : Geometry). sizes_of g q.spare) goes.device.geometry ∙ ap (sizes_of p.device.geometry) goes.spare
