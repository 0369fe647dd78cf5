-- Each flash of a device of some size is that of a snapshot.
use Rattle.std.specs.Prelude.{◌≡◌, ◌≤◌, ℕ, false, List, [], None, get_or, map}
use Rattle.std.specs.List.{range_with_len}
use Rattle.std.proofs.Common.{sym, ◌∙◌, ap, arith, inl, inr}
use Rattle.std.proofs.lemmas.Bool.{cases_lt}
use Rattle.std.proofs.lemmas.List.{get_or_past}
use Rattle.std.proofs.lemmas.List.FromFn.{length-map-range_with_len, get_or-map-range_with_len}
use Rattle.nand_model.specs.Flash.{Flash, Page, Erased, IsWithin}
use Rattle.flash_log.specs.Snapshots.{Snapshot, flash_of}

-- the values of a function below n
abbrev listed : {T : Type 0} → (ℕ → T) → ℕ → List T
listed f n = map f (range_with_len 0 n)

-- are those of the function, if it has one value from n on
same_at : {T : Type 0} (f : ℕ → T) (n : ℕ) (d : T) → ((i : ℕ) → n ≤ i → f i ≡ d) → (i : ℕ) → get_or (listed f n) i d ≡ f i
same_at f n d rest i = elim (cases_lt i n) [
  | inl lt ↦ get_or-map-range_with_len f 0 n i i d lt (omega arith)
  | inr ge ↦ get_or_past (listed f n) i d (let len = length-map-range_with_len f 0 n in omega (arith, len, ge)) ∙ sym (rest i (omega (arith, ge)))
]

-- the snapshot of a flash
abbrev pub snapshot : (pages blocks : ℕ) → Flash → Snapshot
snapshot pages blocks flash = record {
  bad = listed flash.bad blocks;
  next = listed flash.next blocks;
  pages = listed (λ b. listed (flash.page b) pages) blocks;
}

-- the flash can be had of its snapshot
pub remembered : (pages blocks : ℕ) (flash : Flash) → IsWithin pages blocks flash → flash_of (snapshot pages blocks flash) ≡ flash
remembered pages blocks flash within = λ i. record {
  bad = λ b. same_at flash.bad blocks false within.bad b i;
  next = λ b. same_at flash.next blocks None within.next b i;
  page = λ b p. page_at b p i;
} where
  page_at : (b p : ℕ) → get_or (get_or (listed (λ (k : ℕ). listed (flash.page k) pages) blocks) b []) p Erased ≡ flash.page b p
  page_at b p = elim (cases_lt b blocks) [
    | inl lt ↦ ap (λ (xs : List Page). get_or xs p Erased) (get_or-map-range_with_len (λ (k : ℕ). listed (flash.page k) pages) 0 blocks b b [] lt (omega arith))
        ∙ same_at (flash.page b) pages Erased (within.page b) p
    | inr ge ↦ ap (λ (xs : List Page). get_or xs p Erased) (get_or_past (listed (λ (k : ℕ). listed (flash.page k) pages) blocks) b []
        (let len = length-map-range_with_len (λ (k : ℕ). listed (flash.page k) pages) 0 blocks in omega (arith, len, ge))) ∙ sym (within.block b p (omega (arith, ge)))
  ]
