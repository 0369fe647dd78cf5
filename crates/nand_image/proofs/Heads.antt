-- The sizes that a head names.
use Rattle.std.proofs.Common.{◌≡◌, ℕ, List, sym, subst, ◌∙◌}
use Rattle.nand_model.specs.Size.{IsSize}
use Rattle.nand_model.specs.declared.geometry.Geometry.{Geometry}
use Rattle.nand_image.specs.Images.{reported_bytes, reported_pages, reported_blocks, HasSizes, ReportsSize}

size_reported : (head : List ℕ) (bytes pages blocks : ℕ) → bytes ≡ reported_bytes head → pages ≡ reported_pages head → blocks ≡ reported_blocks head → IsSize bytes pages blocks → ReportsSize head
size_reported head bytes pages blocks a b c is =
    subst (λ n. IsSize (reported_bytes head) (reported_pages head) n) c (subst (λ n. IsSize (reported_bytes head) n blocks) b (subst (λ n. IsSize n pages blocks) a is))

pub sizes_reported : (head : List ℕ) (g : Geometry) (bytes pages blocks : ℕ) → bytes ≡ reported_bytes head → pages ≡ reported_pages head → blocks ≡ reported_blocks head
    → (g.bytes ≡ bytes) × (g.pages ≡ pages) × (g.blocks ≡ blocks) × IsSize bytes pages blocks → HasSizes g head × ReportsSize head
sizes_reported head g bytes pages blocks a b c is = (record { bytes = sym (is.0 ∙ a); pages = sym (is.1 ∙ b); blocks = sym (is.2 ∙ c) }, size_reported head bytes pages blocks a b c is.3)

pub no_size : (head : List ℕ) (bytes pages blocks : ℕ) → bytes ≡ reported_bytes head → pages ≡ reported_pages head → blocks ≡ reported_blocks head → (¬ IsSize bytes pages blocks) → ¬ ReportsSize head
no_size head bytes pages blocks a b c not is =
    not (subst (λ n. IsSize bytes pages n) (sym c) (subst (λ n. IsSize bytes n (reported_blocks head)) (sym b) (subst (λ n. IsSize n (reported_pages head) (reported_blocks head)) (sym a) is)))
