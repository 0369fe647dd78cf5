-- What is known of a device by what is seen of it as it is trusted.
use Rattle.std.specs.Prelude.{◌≡◌, Bool, true}
use Rattle.std.proofs.Common.{sym, ◌∙◌, ap, subst}
use Rattle.nand_model.specs.Calls.{Device, Lasts}
use Rattle.nand_model.specs.Changes.{OnlyReads}
use Rattle.mounting.specs.Named.{IsTrustedSince}
use Rattle.page_store.specs.Checked.{HasTrueFlash}
use Rattle.pages.specs.State.{PagesState}
use Rattle.posix_calls.specs.Endings.{LiesOn}
use Rattle.nand_model.specs.Trusting.{trusted_as}
use Rattle.nand_model.specs.laws.Trusted.{trusted_of, honest_where}

-- a device that is trusted is seen as it is
pub as_it_is : (t : Bool) (d : Device) → t ≡ true → trusted_as t d ≡ d
as_it_is t d is = ap (λ h. record d { honest = h }) (honest_where d.honest t is)

-- of a true flash the device is seen as it is since a mount
pub seen_since : (old now seen : Device) → IsTrustedSince old now seen → HasTrueFlash old → seen ≡ now
seen_since old now seen since truth = since.read.seen_is ∙ as_it_is since.reported now (since.trusted truth)

-- and it was only read
pub read_since : (old now seen : Device) → IsTrustedSince old now seen → HasTrueFlash old → OnlyReads old seen
read_since old now seen since truth = subst (λ (x : Device). OnlyReads old x) (sym (seen_since old now seen since truth)) since.read.reads

-- a device that is honest as it is seen is given back as it is seen
pub left_as_seen : (pages : PagesState) (device : Device) → LiesOn pages device → pages.device.honest ≡ true → pages.device ≡ device
left_as_seen pages device (reported, is) honest = is ∙ as_it_is reported device (trusted_of device.honest reported (sym (ap (λ (x : Device). x.honest) is) ∙ honest))

-- one device that is seen in two ways is one device, if it is as honest
pub same_seen : (s t : Bool) (a b : Device) → trusted_as t b ≡ trusted_as s a → b.honest ≡ a.honest → b ≡ a
same_seen s t a b same honest = λ i. record (same i) { honest = honest i }

-- what is committed of two devices as they are seen is committed of them, if the one is as honest as the other
pub lasts_seen : (s t : Bool) (a b : Device) → Lasts (trusted_as s a) (trusted_as t b) → b.honest ≡ a.honest → Lasts a b
lasts_seen s t a b lasts honest = record {
  geometry = lasts.geometry;
  honest = honest;
  honest_itself = lasts.honest_itself;
  cuts = lasts.cuts;
  failures = lasts.failures;
  changes = lasts.changes;
  reads = lasts.reads;
  marks = lasts.marks;
  gone = λ is. same_seen s t a b (lasts.gone is) honest;
  goes = lasts.goes;
  ends = lasts.ends;
  once = lasts.once;
  steady = lasts.steady;
}
