-- When a device can be trusted.
use Rattle.std.specs.Prelude.{◌≡◌, ℕ, Bool, true, false}
use Rattle.std.proofs.Common.{refl, inl, inr}
use Rattle.std.proofs.lemmas.Option.{get_or_from_slice_get, slice_get_within}
use Rattle.nand_model.specs.Flash.{Flash, IsWithin}
use Rattle.nand_model.specs.declared.geometry.Geometry.{Geometry}
use Rattle.flash_tree.specs.Checkpoints.{Checkpoint, IsRight}
use Rattle.flash_tree.specs.laws.NewestExists.{IsStated}
use Rattle.flash_tree.specs.laws.Reporting.{all_reported, above_reported}
use Rattle.nand_model.specs.Calls.{Device}
use Rattle.page_store.specs.Checked.{numbers_at, IsAsSaid, IsTrustedFor}

-- a flash is as a checkpoint says that is right
pub right_said : (g : Geometry) (flash : Flash) (c : Checkpoint) → IsRight g flash c → IsAsSaid flash c
right_said g flash c right = record {
  newest = λ i e at. (right.tree.only e (i, slice_get_within c.entries i e at, get_or_from_slice_get c.entries i e e at)).1;
  above = right.above;
}

-- whether a flash is as a checkpoint says can be decided
pub said_reported : (pages blocks : ℕ) (flash : Flash) (c : Checkpoint) → IsWithin pages blocks flash → IsStated (IsAsSaid flash c)
said_reported pages blocks flash c within = elim (all_reported pages blocks flash within c.entries) [
  | inr not ↦ inr (λ said. not said.newest)
  | inl newest ↦ elim (above_reported pages blocks flash within (numbers_at c)) [
    | inr not ↦ inr (λ said. not said.above)
    | inl above ↦ inl (record { newest = newest; above = above })
  ]
]

-- so a device can be trusted exactly where it is
pub trust : (d : Device) (c : Checkpoint) → IsWithin d.geometry.pages d.geometry.blocks d.flash → (reported : Bool) × IsTrustedFor c reported d × (IsAsSaid d.flash c → reported ≡ true)
trust d c within = elim (said_reported d.geometry.pages d.geometry.blocks d.flash c within) [
  | inl said ↦ (true, (λ reported honest. said), λ is. refl)
  | inr not ↦ (false, (λ reported honest. let two : false ≡ true = reported in absurd cc), λ is. absurd (not is))
]
