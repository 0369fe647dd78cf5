-- The parts of a new image.
use Rattle.std.proofs.Common.{◌≡◌, ℕ, ◌+◌, ◌*◌, List, ◌++◌, length, replicate, Option, ap, subst, ◌∙◌, append_assoc}
use Rattle.std.specs.Io.KnownBytes.{Appends}
use Rattle.std.proofs.KnownBytes.{Appends-trans}
use Rattle.std.proofs.lemmas.List.{replicate-append-replicate}
use Rattle.nand_model.specs.declared.geometry.Geometry.{Geometry}
use Rattle.nand_image.specs.Creation.{head_bytes, new_image}

-- the head, the marks and the pages are a new image
pub image_made : (g : Geometry) (head marks slot : List ℕ) (a b d e : Option (List ℕ)) → head ≡ head_bytes g → marks ≡ replicate g.blocks 0 → length slot ≡ 49 + g.bytes
    → Appends a b head → Appends b d marks → Appends d e (replicate (g.blocks * g.pages * length slot) 0) → Appends a e (new_image g)
image_made g head marks slot a b d e head_is marks_are wide first second third =
    let count : ℕ = g.blocks * g.pages in
    let zeros : List ℕ = replicate (count * length slot) 0 in
    let rest : marks ++ zeros ≡ replicate (g.blocks + count * (49 + g.bytes)) 0 =
    ap (λ l. l ++ zeros) marks_are ∙ replicate-append-replicate g.blocks (count * length slot) 0 ∙ ap (λ n. replicate (g.blocks + count * n) 0) wide in
    let all : (head ++ marks) ++ zeros ≡ new_image g = append_assoc head marks zeros ∙ ap (λ l. l ++ (marks ++ zeros)) head_is ∙ ap (λ l. head_bytes g ++ l) rest in
    subst (Appends a e) all (Appends-trans a d e (head ++ marks) zeros (Appends-trans a b d head marks first second) third)
