use Rattle.std.proofs.Common.{◌≡◌, ◌↔◌, ◌∷◌, [], IsTrue, refl, ap, subst}
use Rattle.std.proofs.Common.{map as list_map}
use Rattle.plain_volume.specs.Items.{AreRead, item_of, root_path}
use Rattle.plain_volume.specs.Lists.{ShowsTree, shown_of}
use Rattle.plain_volume.specs.laws.Listing.{one_reading}
use Rattle.plain_volume.specs.laws.Sameness.{state_tree}
use Rattle.plain_volume.specs.Views.{PlainView}
use Rattle.posix_profile.specs.WellFormed.{IsTree}
use Rattle.plain_volume.proofs.tree.PlainTree.has.Goals as goal

pub returns-clause-shows : goal.returns-clause-shows
returns-clause-shows c =
    let plain = c.in_ok-plain.plain in
    let made = c.in_ok-plain.ensures in
    subst ShowsTree c.self.view_is (subst (λ (v : PlainView). IsTree v.sizes v.state.objects) made.settles
    (state_tree plain.sizes plain.state made.sound (ap (λ (v : PlainView). v.state.handles) made.settles)))

pub returns-clause-listed : goal.returns-clause-listed
returns-clause-listed c =
    let plain = c.in_ok-plain.plain in
    let made = c.in_ok-plain.ensures in
    let items = list_map item_of c.in_ok-made.made.items in
    let read = c.in_ok-made.ensures plain.sizes plain.read_only plain.state (refl, made.sound) in
    let here : AreRead (shown_of c.args.self.now) (root_path ∷ []) items = subst (λ (v : PlainView). AreRead (shown_of v) (root_path ∷ []) items) c.self.view_is
    (subst (λ (v : PlainView). AreRead v.state.objects (root_path ∷ []) items) made.settles read.0) in
    let listed_items = list_map item_of c.args.list.now.entries.items in
    let reported : IsTrue c.same_tree.result ↔ (items ≡ listed_items) =
    subst (λ k. IsTrue c.same_tree.result ↔ (items ≡ list_map item_of k)) c.deref-2.ensures.value
    (subst (λ k. IsTrue c.same_tree.result ↔ (list_map item_of k ≡ list_map item_of c.deref-2.result.now)) c.deref.ensures.value c.same_tree.ensures) in (
      λ same. subst (AreRead (shown_of c.args.self.now) (root_path ∷ [])) (reported.0 same) here,
      λ listed. reported.1 (one_reading (shown_of c.args.self.now) (root_path ∷ []) (root_path ∷ []) items listed_items refl here listed),
    )
