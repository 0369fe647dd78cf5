use Rattle.std.proofs.Common.{◌≡◌, ◌/◌, false, sym, ap, subst, rules}
use Rattle.flash_tree.specs.Places.{numbers_of}
use Rattle.block_state.specs.TableOf.{table}
use Rattle.page_store.specs.ReadOnly.{only_read}
use Rattle.page_store.specs.Newest.{seen_pages}
use Rattle.pages.specs.State.{PagesState}
use Rattle.tree_walk.specs.Trees.{keeps_key}
use Rattle.mounting.specs.Made.{ArePagesOn}
use Rattle.mounting.proofs.PagesMade.{worn_pages, worn_carries}
use Rattle.mounting.proofs.Noting.{ok_map}
use Rattle.mounting.proofs.making.read_pages.Goals as goal

pub new-pages-requires-clause-carrying : goal.new-pages-requires-clause-carrying
new-pages-requires-clause-carrying g c =
    let on = c.args.on in
    worn_carries (keeps_key on.tree) (g.N.Nand.state on.device) (table on.blocks) on.index (numbers_of on.numbers) on.spare c.requires.read.tables c.requires.worn
    (g.N.Nand.state c.in_ok-pages.pages.device) c.in_ok-pages.pages.index (ap g.N.Nand.state c.in_ok-pages.ensures.device) c.in_ok-pages.ensures.index

pub returns-clause-made : goal.returns-clause-made
returns-clause-made g c =
    let on = c.args.on in
    let d = g.N.Nand.state on.device in
    let n = numbers_of on.numbers in
    let p = c.in_ok-pages.pages in
    let spare : on.spare ≡ c.from.result = search rules in
    let most : d.geometry.pages / 4 ≡ c.pages-most.result / 4 = search rules in
    let at = c.checkpoint-checkpoint.result in
    let page = record (seen_pages (g.N.Nand.state p.device) p.index p.page.items) { checkpoint = at } in
    ok_map c.boxed_pages.result (λ boxed same. rw same
    (subst (λ (k : PagesState). ArePagesOn d on.index n on.spare k) (sym c.new-pages.ensures.state)
    (subst (λ s. ArePagesOn d on.index n on.spare (only_read page n s (c.pages-most.result / 4) false)) spare
    (subst (λ m. ArePagesOn d on.index n on.spare (only_read page n on.spare m false)) most
    (worn_pages (keeps_key on.tree) d (table on.blocks) on.index n on.spare c.requires.read.tables c.requires.worn (g.N.Nand.state p.device) p.index p.page.items at (ap g.N.Nand.state c.in_ok-pages.ensures.device) c.in_ok-pages.ensures.index)))))
    c.boxed_pages.ensures.pages
