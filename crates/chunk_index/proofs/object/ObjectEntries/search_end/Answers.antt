use Rattle.std.proofs.Common.{◌≡◌, ◌-◌, length, get_or, rules, arith, ap, ◌∙◌}
use Rattle.std.proofs.lemmas.List.{get_or_default}
use Rattle.chunk_index.specs.declared.entry.KeyEntry.{KeyEntry}
use Rattle.chunk_index.specs.Entries.{chunk}
use Rattle.chunk_index.proofs.Finding.{gap_after}
use Rattle.chunk_index.proofs.object.ObjectEntries.search_end.Goals as goal
use Rattle.chunk_index.proofs.object.ObjectEntries.search_end.Goals.{then-count-eq0-via-then-count-eq0, then-count-eq0-via-else-count-eq0+then-chunk-number}

pub returns-then-count-eq0-clause-absent : goal.returns-then-count-eq0-clause-absent
returns-then-count-eq0-clause-absent c =
    let all : c.len-count.result ≡ length c.args.self.now.entries.items = search rules in
    gap_after chunk c.args.self.now.entries.items c.args.number c.len-count.result c.args.self.now.rises all (elim c.then-count-eq0.branch [
      | then-count-eq0-via-then-count-eq0 w ↦ λ j d e. absurd (omega (arith, e, w.if-count-eq0.true, all))
      | then-count-eq0-via-else-count-eq0+then-chunk-number w ↦ λ j d e.
          let es = c.args.self.now.entries.items in
          let item : KeyEntry = w.index.result.now in
          let here : item ≡ get_or es (c.len-count.result - 1) d = w.index.ensures ∙ get_or_default es (c.len-count.result - 1) item d (omega (arith, e, all)) in
          let same : chunk item ≡ chunk (get_or es j d) = ap chunk here ∙ ap (λ k. chunk (get_or es k d)) (omega (arith, e, all)) in
          omega (arith, same, w.chunk.ensures, w.if-chunk-number.true)
    ])
