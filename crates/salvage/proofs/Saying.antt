-- What a page says as a header is what the header of its object says.
use Rattle.std.specs.Prelude.{◌≡◌, ◌≢◌, ℕ, List, length, Option, Some, None, IfSome, IfNone}
use Rattle.std.proofs.Common.{sym, ◌∙◌, ap, subst}
use Rattle.page_tags.specs.Headers.{Fields, IsHeader, IsHeaderOf, header_bytes}
use Rattle.page_tags.specs.declared.header.ObjectKind.TheVariants as kinds
use Rattle.flash_tree.specs.Tree.{HasHeader}
use Rattle.pages.specs.Maps.{PageMap, has}
use Rattle.volume_terms.specs.Sizes.{Sizes}
use Rattle.salvage.specs.Chunks.{IsChunkOf, SaysChunk}
use Rattle.salvage.specs.Reported.{IsInfoOf, SaysInfo}
use Rattle.salvage.specs.declared.reading.FileChunk.{FileChunk}
use Rattle.salvage.specs.declared.reported.ObjectInfo.{ObjectInfo}

module _ (z : Sizes) (m : PageMap) (o : ℕ) where
  -- a key that has no page has no header
  pub no_header : m o 0 ≡ None → (f : Fields) → HasHeader z (has m) o f → ⊥
  no_header none f h = let two : None ≡ Some (header_bytes f) = sym none ∙ h.0 in cc

  module _ (page : List ℕ) (size : z.page_bytes ≡ length page) (at : m o 0 ≡ Some page) where
    pub header_of : (f : Fields) → IsHeaderOf page f → HasHeader z (has m) o f
    header_of f is = (at ∙ ap Some is.encodes, subst (λ d. IsHeader d f) (sym size) is.valid)

    pub of_header : (f : Fields) → HasHeader z (has m) o f → IsHeaderOf page f
    of_header f h = record { valid = subst (λ d. IsHeader d f) size h.1; encodes = same } where
      same : page ≡ header_bytes f
      same = let two : Some page ≡ Some (header_bytes f) = sym at ∙ h.0 in cc

    pub says_info : (reported : Option ObjectInfo) → IfSome reported (λ info. (f : Fields) × IsHeaderOf page f × IsInfoOf info f) → IfNone reported ((f : Fields) → IsHeaderOf page f → ⊥) → SaysInfo z (has m) o reported
    says_info None some none = λ f h. none f (of_header f h)
    says_info (Some info) some none = (some.0, header_of some.0 some.1, some.2)

    pub says_chunk : (chunk : ℕ) (reported : Option FileChunk) → IfSome reported (λ reported. (f : Fields) × IsHeaderOf page f × IsChunkOf reported f chunk)
        → IfNone reported ((f : Fields) → IsHeaderOf page f → f.kind ≢ kinds.File) → SaysChunk z (has m) o chunk reported
    says_chunk chunk None some none = λ f h. none f (of_header f h)
    says_chunk chunk (Some reported) some none = (some.0, header_of some.0 some.1, some.2)
