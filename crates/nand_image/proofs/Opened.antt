-- What opening answers, from what its parts took.
use Rattle.std.proofs.Common.{◌≡◌, ◌≢◌, ◌<◌, ◌≤◌, ℕ, ◌+◌, ◌*◌, List, length, take, drop, Option, Some, None, IfSome, refl, ap, sym, subst, ◌∙◌, arith, length-drop, get_or-take}
use Rattle.std.proofs.lemmas.List.{drop-take, drop-drop, get_or-drop}
use Rattle.byteorder.specs.Endian.{little_number}
use Rattle.nand_model.specs.Size.{IsSize}
use Rattle.nand_model.specs.Calls.{Device}
use Rattle.nand_model.specs.Putting.{unsteady}
use Rattle.nand_model.specs.declared.geometry.Geometry.{Geometry}
use Rattle.nand_image.specs.Layout.{slot_size, image_size}
use Rattle.nand_image.specs.Images.{reported_bytes, reported_pages, reported_blocks, reported_size, ReportsSize, HasHead, HasSizes, IsImage, page_in}
use Rattle.nand_image.specs.Opening.{Explains}
use Rattle.nand_image.specs.Readings.{IsHead, TakesHead, body_size, IsBody, IsOfOtherSize}
use Rattle.nand_image.specs.declared.fault.ImageFault.{ImageFault}
use Rattle.nand_image.specs.declared.fault.ImageFault.TheVariants as faults

pub on_some : {X : Type 0} (o : Option X) (P : X → Type 0) → ((x : X) → o ≡ Some x → P x) → IfSome o P
on_some None P each = tt
on_some (Some x) P each = each x refl

-- a number of four bytes is in the bytes that are held
number_front : (n : ℕ) (xs : List ℕ) → 4 ≤ n → little_number 4 (take n xs) ≡ little_number 4 xs
number_front n xs long = omega (arith, get_or-take n xs 0 0 (omega arith), get_or-take n xs 1 0 (omega arith), get_or-take n xs 2 0 (omega arith), get_or-take n xs 3 0 (omega arith))

module _ (image head : List ℕ) (now : Option (List ℕ)) (is_head : IsHead head image now) where
  bytes_same : reported_bytes head ≡ reported_bytes image
  bytes_same = ap (λ l. little_number 4 (drop 8 l)) is_head.bytes ∙ ap (little_number 4) (drop-take 8 24 image) ∙ number_front 24 (drop 8 image) (omega arith)

  pages_same : reported_pages head ≡ reported_pages image
  pages_same = ap (λ l. little_number 4 (drop 12 l)) is_head.bytes ∙ ap (little_number 4) (drop-take 12 20 image) ∙ number_front 20 (drop 12 image) (omega arith)

  blocks_same : reported_blocks head ≡ reported_blocks image
  blocks_same = ap (λ l. little_number 4 (drop 16 l)) is_head.bytes ∙ ap (little_number 4) (drop-take 16 16 image) ∙ number_front 16 (drop 16 image) (omega arith)

  sizes_in_image : (g : Geometry) → HasSizes g head → HasSizes g image
  sizes_in_image g sizes = record { bytes = sym bytes_same ∙ sizes.bytes; pages = sym pages_same ∙ sizes.pages; blocks = sym blocks_same ∙ sizes.blocks }

  size_in_image : ReportsSize head → ReportsSize image
  size_in_image is =
      subst (λ n. IsSize (reported_bytes image) (reported_pages image) n) blocks_same
      (subst (λ n. IsSize (reported_bytes image) n (reported_blocks head)) pages_same (subst (λ n. IsSize n (reported_pages head) (reported_blocks head)) bytes_same is))

  size_in_head : ReportsSize image → ReportsSize head
  size_in_head is =
      subst (λ n. IsSize (reported_bytes head) (reported_pages head) n) (sym blocks_same)
      (subst (λ n. IsSize (reported_bytes head) n (reported_blocks image)) (sym pages_same) (subst (λ n. IsSize n (reported_pages image) (reported_blocks image)) (sym bytes_same) is))

  reported_is : (g : Geometry) → HasSizes g image → reported_size image ≡ 32 + body_size g
  reported_is g sizes =
      ap (λ n. 32 + n + n * reported_pages image * (49 + reported_bytes image)) sizes.blocks ∙ ap (λ n. 32 + g.blocks + g.blocks * n * (49 + reported_bytes image)) sizes.pages
      ∙ ap (λ n. 32 + g.blocks + g.blocks * g.pages * (49 + n)) sizes.bytes ∙ omega arith

  image_of : (g : Geometry) (d : Device) → HasSizes g head → d.geometry ≡ g → ((b : ℕ) → d.flash.next b ≡ None) → IsBody g (drop 32 image) d → IsImage image (unsteady d)
  image_of g d sizes same nexts body =
      let h = sizes_in_image g sizes in
      let long : 32 ≤ length image = is_head.has.long in
      let size : length image ≡ image_size g = omega (arith, long, body.size, length-drop 32 image) in
      let geometry : g ≡ d.geometry = sym same in
      let blocks : d.geometry.blocks ≡ g.blocks = ap (λ (x : Geometry). x.blocks) same in
      let pages : d.geometry.pages ≡ g.pages = ap (λ (x : Geometry). x.pages) same in
      record {
        sizes = subst (λ x. HasSizes x image) geometry h;
        size = subst (λ x. length image ≡ image_size x) geometry size;
        good = λ b less zero. body.good b (omega (arith, less, blocks)) (get_or-drop 32 image b 0 ∙ zero);
        bad = λ b less not. body.bad b (omega (arith, less, blocks)) (λ zero. not (sym (get_or-drop 32 image b 0) ∙ zero));
        nexts = nexts;
        pages = λ b p less within_limit. subst (λ x. d.flash.page b p ≡ page_in x.bytes (drop (32 + x.blocks + (b * x.pages + p) * slot_size x) image)) geometry (at b p (omega (arith, less, blocks)) (omega (arith, within_limit, pages)));
      }
    where
      at : (b p : ℕ) → b < g.blocks → p < g.pages → d.flash.page b p ≡ page_in g.bytes (drop (32 + g.blocks + (b * g.pages + p) * slot_size g) image)
      at b p less within_limit =
          let place : ℕ = (b * g.pages + p) * slot_size g in
          let joined : 32 + (g.blocks + place) ≡ 32 + g.blocks + place = omega arith in
          body.pages b p less within_limit ∙ ap (page_in g.bytes) (drop-drop (g.blocks + place) 32 image ∙ ap (λ n. drop n image) joined)

-- sizes that no device has
pub explains_bad : (fault : ImageFault) (old now : Option (List ℕ)) (head : List ℕ) → TakesHead old now head → (fault ≡ faults.BadGeometry) × (¬ ReportsSize head) → Explains old fault
explains_bad fault old now head takes is =
    subst (Explains old) (sym is.0)
    (on_some old (λ image. HasHead image × (¬ ReportsSize image)) (λ image at. let h = takes image at in (h.has, λ reported. is.1 (size_in_head image head now h reported))))

-- another number of bytes behind the head, or memory that was refused
pub explains_body : (fault : ImageFault) (g : Geometry) (old now : Option (List ℕ)) (head : List ℕ) → TakesHead old now head → HasSizes g head × ReportsSize head
    → IsOfOtherSize now (body_size g) fault → Explains old fault
explains_body faults.Read g old now head takes reported other = tt
explains_body faults.Write g old now head takes reported other = other
explains_body faults.Magic g old now head takes reported other = absurd other
explains_body faults.BadGeometry g old now head takes reported other = absurd other
explains_body faults.NoMemory g old now head takes reported other =
    on_some old (λ image. HasHead image × ReportsSize image) (λ image at. let h = takes image at in (h.has, size_in_image image head now h reported.1))
explains_body faults.Size g old now head takes reported other =
    on_some old (λ image. HasHead image × ReportsSize image × (length image ≢ reported_size image)) (λ image at.
    let h = takes image at in
    let sizes = sizes_in_image image head now h g reported.0 in
    let long : 32 ≤ length image = h.has.long in
    (h.has, size_in_image image head now h reported.1, λ size. other (drop 32 image) h.rest (omega (arith, long, size, reported_is image head now h g sizes, length-drop 32 image))))

-- an image was read
pub opens_image : (d : Device) (g : Geometry) (old now : Option (List ℕ)) (head : List ℕ) → TakesHead old now head → HasSizes g head
    → d.geometry ≡ g → ((b : ℕ) → d.flash.next b ≡ None) → ((left : List ℕ) → now ≡ Some left → IsBody g left d)
    → IfSome old (λ image. HasHead image × IsImage image (unsteady d))
opens_image d g old now head takes sizes same nexts body =
    on_some old (λ image. HasHead image × IsImage image (unsteady d)) (λ image at.
    let h = takes image at in
    (h.has, image_of image head now h g d sizes same nexts (body (drop 32 image) h.rest)))
