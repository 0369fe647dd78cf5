-- What is sent to a driver when its device is opened. All words are of the calls before and after it, the newest first.
use Rattle.std.specs.Prelude.{◌≡◌, ℕ, ◌+◌, ◌*◌, slice_index, false, List, ◌∷◌}
use Rattle.port_nand.specs.Calls.{Call, call, cuts}
use Rattle.port_nand.specs.declared.request.Answer.{Answer}
use Rattle.port_nand.specs.declared.request.Answer.TheVariants as answers
use Rattle.port_nand.specs.declared.request.Request.TheVariants as requests
use Rattle.port_nand.specs.declared.sizes.Sizes.{Sizes}
use Rattle.port_nand.specs.declared.sizes.TagForm.{TagForm}
use Rattle.port_nand.specs.declared.sizes.TagForm.TheVariants as forms

-- the marks of so many blocks are read in turn, each is answered, and no else request is sent
pub data IssuesMarks (old : List Call) : ℕ → List Call → Type 0 where
  no_marks : IssuesMarks old 0 old
  mark_asked : {block : ℕ} {calls : List Call} {bytes : List ℕ} {answer : Answer} → IssuesMarks old block calls → cuts (requests.IsMarked block) answer ≡ false
      → IssuesMarks old (block + 1) (call (requests.IsMarked block) bytes answer ∷ calls)

-- the number in four bytes, the lowest first
abbrev pub size_at : List ℕ → ℕ → ℕ
size_at bytes i = slice_index bytes i + 256 * slice_index bytes (i + 1) + 65536 * slice_index bytes (i + 2) + 16777216 * slice_index bytes (i + 3)

-- how many bytes of a tag are held with a page
abbrev pub tag_bytes : TagForm → ℕ
tag_bytes forms.Whole = 48
tag_bytes forms.Packed = 24

-- the sizes in sixteen bytes: the bytes of a page, the pages of a block, the blocks, and the bytes of a tag
pub record AreSizes (sizes : Sizes) (bytes : List ℕ) : Type 0 where
  pub size : sizes.geometry.bytes ≡ size_at bytes 0
  pub pages : sizes.geometry.pages ≡ size_at bytes 4
  pub blocks : sizes.geometry.blocks ≡ size_at bytes 8
  pub tags : tag_bytes sizes.tags ≡ size_at bytes 12

-- the sizes are read, and then the marks of as many blocks as came
abbrev pub IssuesAll : Sizes → List Call → List Call → Type 0
IssuesAll sizes old new = (bytes : List ℕ) × AreSizes sizes bytes × IssuesMarks (call requests.Sizes bytes answers.Zero ∷ old) sizes.geometry.blocks new
