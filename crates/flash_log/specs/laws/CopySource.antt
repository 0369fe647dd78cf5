-- What is copied stays while only erased pages are written.
use Rattle.std.specs.Prelude.{◌≡◌, ℕ, List, [], Option, Some, None, slice_get}
use Rattle.std.specs.Option.{option_map_or}
use Rattle.std.proofs.Common.{refl, ap, sym, ◌∙◌}
use Rattle.nand_model.specs.Flash.{Flash, Erased, Written}
use Rattle.nand_model.specs.Calls.{bytes_of}
use Rattle.nand_model.specs.Changes.{Grows}
use Rattle.chunk_index.specs.declared.form.CommittedKey.{CommittedKey}
use Rattle.flash_log.specs.CopySource.{copy_bytes, HasItsName, HasCopy}

page_stays : (old new : Flash) (c : CommittedKey) → HasItsName old c → Grows old new → new.page c.at.block c.at.page ≡ old.page c.at.block c.at.page
page_stays old new c there grows = grows c.at.block c.at.page (λ is. let two : Written there.bytes there.tag ≡ Erased = sym there.page ∙ is in cc)

-- what is copied stays while only erased pages are written
pub copy_stays : (places : List CommittedKey) (old new : Flash) (i : ℕ) → HasCopy places old i → Grows old new → HasCopy places new i
copy_stays places old new i has grows c is =
    let there = has c is in
    record { bytes = there.bytes; tag = there.tag; page = page_stays old new c there grows ∙ there.page; names = there.names }

-- and so does its data
pub copy_same : (places : List CommittedKey) (old new : Flash) (i : ℕ) → HasCopy places old i → Grows old new → copy_bytes places new i ≡ copy_bytes places old i
copy_same places old new i has grows = go (slice_get places i) has where
  go : (x : Option CommittedKey) → ((c : CommittedKey) → x ≡ Some c → HasItsName old c)
      → bytes_of (option_map_or (λ c. new.page c.at.block c.at.page) x Erased) [] ≡ bytes_of (option_map_or (λ c. old.page c.at.block c.at.page) x Erased) []
  go None there = refl
  go (Some c) there = ap (λ p. bytes_of p []) (page_stays old new c (there c refl) grows)
