use Rattle.std.proofs.Common.{ap, ◌∙◌, drop}
use Rattle.chunk_index.specs.Following.{all_keys}
use Rattle.chunk_index.specs.Maps.{committed_pages}
use Rattle.chunk_index.proofs.Rising.{all_listed, one_list}
use Rattle.chunk_index.proofs.index.Index.committed_from.Goals as goal

pub returns : goal.returns
returns c ks list =
    let x = c.args.self.now in
    c.committed_from.ensures ∙ ap (drop c.args.count) (one_list (committed_pages x) (all_keys x.shelf.objects.entries) ks (all_listed x) list)
