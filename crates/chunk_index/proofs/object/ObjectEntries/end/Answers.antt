use Rattle.std.proofs.Common.{◌≡◌, ◌<◌, ◌-◌, length, get_or, sym, ap, ◌∙◌, arith, inl, inr}
use Rattle.std.proofs.lemmas.Bool.{cases_eq}
use Rattle.chunk_index.specs.Entries.{chunk}
use Rattle.chunk_index.proofs.object.ObjectEntries.end.Goals as goal

pub returns-in-Some : goal.returns-in-Some
returns-in-Some c = λ i d lt.
    let es = c.args.self.now.entries.items in
    let last : c.in-Some.entry.now ≡ get_or es (length es - 1) d = c.in-Some.ensures.item.3.1 d ∙ ap (λ xs. get_or xs (length xs - 1) d) c.deref.ensures.value in
    let number : c.chunk.result ≡ chunk (get_or es (length es - 1) d) = c.chunk.ensures.chunk ∙ ap chunk last in
    elim (cases_eq i (length es - 1)) [
      | inl is ↦ let here : chunk (get_or es i d) ≡ chunk (get_or es (length es - 1) d) = ap (λ j. chunk (get_or es j d)) is in omega (arith, here, number)
      | inr ne ↦ let less : chunk (get_or es i d) < chunk (get_or es (length es - 1) d) = c.args.self.now.rises i (length es - 1) d (omega (arith, lt, ne)) (omega (arith, lt)) in omega (arith, less, number)
    ]
