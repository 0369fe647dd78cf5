-- The bounds of the sizes of a device.
use Rattle.std.proofs.Common.{◌≡◌, ◌⊎◌, ◌≤◌, ℕ, arith}
use Rattle.nand_model.specs.Size.{IsSize}

pub record Bounds (bytes pages blocks : ℕ) : Type 0 where
  pub least_bytes : 512 ≤ bytes
  pub most_bytes : bytes ≤ 4096
  pub least_pages : 32 ≤ pages
  pub most_pages : pages ≤ 256

bytes_of : (n : ℕ) → (n ≡ 512) ⊎ (n ≡ 1024) ⊎ (n ≡ 2048) ⊎ (n ≡ 4096) → (512 ≤ n) × (n ≤ 4096)
bytes_of n h = grind arith

pages_of : (n : ℕ) → (n ≡ 32) ⊎ (n ≡ 64) ⊎ (n ≡ 128) ⊎ (n ≡ 256) → (32 ≤ n) × (n ≤ 256)
pages_of n h = grind arith

pub bounds : (bytes pages blocks : ℕ) → IsSize bytes pages blocks → Bounds bytes pages blocks
bounds bytes pages blocks s =
    let b = bytes_of bytes s.bytes_of_page in
    let p = pages_of pages s.pages_of_block in
    record { least_bytes = b.0; most_bytes = b.1; least_pages = p.0; most_pages = p.1 }
