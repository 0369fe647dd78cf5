use Rattle.std.proofs.Common.{◌≡◌, ◌≤◌, ◌/◌, List, arith, sym, ap, subst}
use Rattle.flash_tree.specs.declared.place.FreshPage.{FreshPage}
use Rattle.volume_terms.specs.Sizes.{page_slots}
use Rattle.pages.specs.Changes.{AreSized}
use Rattle.directories.specs.Hashing.{HashesPages}
use Rattle.directories.proofs.Hashed.{hashes_on}
use Rattle.directories.proofs.Results.{on_done}
use Rattle.directories.proofs.naming.hash_change.Goals as goal

pub returns-clause-hashes : goal.returns-clause-hashes
returns-clause-hashes c = λ z m d before later size w had most stays.
    let slots : c.args.page_bytes / 272 ≡ page_slots z = ap (λ n. n / 272) (sym size) in
    let some : 1 ≤ page_slots z = omega (arith, size, c.requires.least) in
    on_done _ _ c.hash_pages.result
    (λ all. hashes_on z some c.args.names.now c.hash_pages.new.names c.hash_pages.ensures.committed m c.args.change.now (subst (AreSized c.args.change.now.pages.items) (sym size) c.requires.sized) c.args.kept
    (subst (λ (ps : List FreshPage). HashesPages c.hash_pages.new.names ps (page_slots z) c.args.kept) c.deref.ensures.value (subst (λ n. HashesPages c.hash_pages.new.names c.deref.result.now n c.args.kept) slots all)) d before later w had most stays)
    c.hash_pages.ensures.all
