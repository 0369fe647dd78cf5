-- The next pages are known however the device is called.
use Rattle.std.specs.Prelude.{◌≡◌, ◌≤◌, Bool, ℕ, Option, Some, None, List, length, slice_get, Result, ◌<◌}
use Rattle.std.proofs.Common.{sym, ◌∙◌, ap, subst, inl, inr, replicate, get_or, arith}
use Rattle.std.proofs.lemmas.List.{get_or-replicate, length-replicate}
use Rattle.std.proofs.lemmas.Option.{get_or_from_slice_get, slice_get_within}
use Rattle.nand_model.specs.declared.geometry.Geometry.{Geometry}
use Rattle.nand_model.specs.declared.nand.Gone.{Gone}
use Rattle.nand_model.specs.Calls.{Device, Marks}
use Rattle.test_devices.specs.declared.flash.TestFault.{TestFault}
use Rattle.test_devices.specs.declared.flash.TestFault.TheVariants as faults
use Rattle.test_devices.specs.Following.{IsFollowed}
use Rattle.test_devices.specs.Faults.{Explains}

pub followed_marked : (b : ℕ) (nexts : List (Option ℕ)) (room : List ℕ) (old new : Device) (result : Result (Unit {0}) Gone) → IsFollowed old nexts room → Marks b old new result
    → IsFollowed new nexts room
followed_marked b nexts room old new result is does = record {
  blocks = is.blocks ∙ ap (λ (g : Geometry). g.blocks) (sym does.lasts.geometry);
  bytes = is.bytes ∙ ap (λ (g : Geometry). g.bytes) (sym does.lasts.geometry);
  next = λ k p at. ap (λ (next : ℕ → Option ℕ). next k) does.next ∙ is.next k p at;
}

-- at first no block has one
pub followed_new : (n : ℕ) (nexts : List (Option ℕ)) (room : List ℕ) (new : Device) → nexts ≡ replicate n None → length nexts ≡ new.geometry.blocks → length room ≡ new.geometry.bytes
    → IsFollowed new nexts room
followed_new n nexts room new none blocks bytes = record {
  blocks = blocks;
  bytes = bytes;
  next = λ k p at.
      let here : slice_get (replicate n None) k ≡ Some (Some p) = subst (λ xs. slice_get xs k ≡ Some (Some p)) none at in
      let within : k < length (replicate {A = Option ℕ} n None) = slice_get_within _ k _ here in
      let lt : k < n = omega (arith, length-replicate {A = Option ℕ} n None) in
      let some : get_or (replicate n None) k None ≡ Some p = get_or_from_slice_get _ k (Some p) None here in
      let is_none : get_or (replicate {A = Option ℕ} n None) k None ≡ None = get_or-replicate n k None None lt in
      let two : Some p ≡ None = sym some ∙ is_none in
      absurd cc;
}

-- what explains a fault of the second of two calls explains one of both, where the first left the sizes and marks
pub explained_before : (block : ℕ) (old mid new : Device) (fault : TestFault) → mid.geometry ≡ old.geometry → mid.flash.bad ≡ old.flash.bad → old.failures ≤ mid.failures
    → Explains block mid new fault → Explains block old new fault
explained_before block old mid new faults.NoBlock geometry bad failures is = omega (arith, ap (λ (g : Geometry). g.blocks) geometry, is)
explained_before block old mid new faults.BadBlock geometry bad failures is = sym (ap (λ (f : ℕ → Bool). f block) bad) ∙ is
explained_before block old mid new faults.Full geometry bad failures is = is
explained_before block old mid new faults.Device geometry bad failures is = elim is [ inl lt ↦ inl (omega (arith, lt, failures)) | inr gone ↦ inr gone ]
