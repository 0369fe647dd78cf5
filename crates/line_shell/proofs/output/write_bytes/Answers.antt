use Rattle.std.proofs.Common.{◌≡◌, ◌∙◌, ℕ, ◌-◌, List, [], ◌++◌, length, take, drop, sym, ap, subst, rules, append-nil, append_assoc, take-append-drop, drop_of_length-le}
use Rattle.std.proofs.lemmas.List.{take_rest}
use Rattle.std.proofs.KnownBytes.{Appends-trans, Appends-kept}
use Rattle.std.specs.Io.KnownBytes.{Appends}
use Rattle.line_shell.proofs.output.write_bytes.Goals.{in-Ok, in-Err+else-ne}
use Rattle.line_shell.proofs.output.write_bytes.Goals as goal

moves_front : (all out rest : List ℕ) (n : ℕ) → all ≡ out ++ rest → all ≡ (out ++ take n rest) ++ take (length rest - n) (drop n rest)
moves_front all out rest n split =
    split ∙ ap (λ l. out ++ l) (sym (take-append-drop n rest)) ∙ sym (append_assoc out (take n rest) (drop n rest)) ∙ ap (λ l. (out ++ take n rest) ++ l) (sym (take_rest rest n))

pub returns-then-is_empty-2 : goal.returns-then-is_empty-2
returns-then-is_empty-2 g c =
    let so_far = c.loop-turn.invariant in
    let empty : c.loop-turn.rest.now ≡ [] = drop_of_length-le c.loop-turn.rest.now {i = 0} (search rules) in
    subst (Appends _ _) (sym (so_far.split ∙ ap (λ l. so_far.out ++ l) empty ∙ append-nil so_far.out)) so_far.appended

pub loop-turn-preserved : goal.loop-turn-preserved
loop-turn-preserved g c =
    let so_far = c.loop-turn.invariant in
    elim c.match-write.branch [
      | in-Ok w ↦ record {
        out = so_far.out ++ take w.in-Ok.n c.loop-turn.rest.now;
        split = moves_front c.args.bytes.now so_far.out c.loop-turn.rest.now w.in-Ok.n so_far.split
            ∙ ap (λ l. (so_far.out ++ take w.in-Ok.n c.loop-turn.rest.now) ++ l) (sym (ap (λ b. b.now) w.rest-is));
        appended = Appends-trans _ _ _ _ _ so_far.appended w.in-Ok.ensures.bytes;
      }
      | in-Err+else-ne w ↦ record {
        out = so_far.out;
        split = so_far.split ∙ ap (λ l. so_far.out ++ l) (sym (ap (λ b. b.now) w.rest-is));
        appended = Appends-kept _ _ _ _ so_far.appended w.in-Err.ensures.bytes;
      }
    ]
