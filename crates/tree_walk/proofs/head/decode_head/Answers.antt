use Rattle.std.proofs.Common.{◌≡◌, ◌∙◌, List, ℕ, min, length, take, refl, sym, ap, arith, rules}
use Rattle.std.specs.Int.{div_ceil}
use Rattle.page_tags.specs.HeaderFields.{fields_of}
use Rattle.page_tags.specs.Headers.{Fields, is_present}
use Rattle.page_tags.specs.declared.header.ObjectKind.TheVariants as kinds
use Rattle.tree_walk.proofs.HeadBits.{last_chunk, same_bits}
use Rattle.tree_walk.proofs.head.decode_head.Goals as goal
use Rattle.tree_walk.proofs.head.decode_head.Goals.{in-File, in-Directory}

pub returns-clause-reported : goal.returns-clause-reported
returns-clause-reported c =
    let f : Fields = fields_of c.in-Ok.header in
    let page : List ℕ = c.args.page.now in
    let found = c.in-Ok.ensures.found in
    let bits : c.in_ok-to_vec.field-0.items ≡ take c.min-committed.result f.bits = search rules in
    let last : c.match-header.chunks ≡ last_chunk (length page) f.kind f.length = elim c.match-header.branch [
      | in-File w ↦ let is : f.kind ≡ kinds.File = search rules in w.chunks-is ∙ w.div_ceil-chunks.ensures ∙ ap (λ k. last_chunk (length page) k f.length) (sym is)
      | in-Directory w ↦ let is : f.kind ≡ kinds.Directory = search rules in w.chunks-is ∙ ap (λ k. last_chunk (length page) k f.length) (sym is)
    ] in
    let committed : c.min-committed.result ≡ min (length f.bits) (div_ceil c.match-header.chunks 8) = search rules in (
      f,
      found,
      record {
        kind = refl;
        length_is = refl;
        moment = refl;
        spare = refl;
        bits = λ n from. ap (λ (bs : List ℕ). is_present bs n) bits ∙ same_bits (length page) f (omega (arith, c.requires.least)) found.valid c.match-header.chunks last c.min-committed.result committed n from;
      },
    )
