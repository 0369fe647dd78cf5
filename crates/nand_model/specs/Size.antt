-- Which sizes a device may have.
use Rattle.std.specs.Prelude.{◌≡◌, ◌⊎◌, ◌≤◌, ℕ}

-- 512, 1024, 2048 or 4096 bytes of a page, 32, 64, 128 or 256 pages of a block, 5 to 4096 blocks
pub record IsSize (bytes pages blocks : ℕ) : Type 0 where
  pub bytes_of_page : (bytes ≡ 512) ⊎ (bytes ≡ 1024) ⊎ (bytes ≡ 2048) ⊎ (bytes ≡ 4096)
  pub pages_of_block : (pages ≡ 32) ⊎ (pages ≡ 64) ⊎ (pages ≡ 128) ⊎ (pages ≡ 256)
  pub few_blocks : (5 ≤ blocks) × (blocks ≤ 4096)
