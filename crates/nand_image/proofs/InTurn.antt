-- Writes in turn.
use Rattle.std.proofs.Common.{◌≡◌, ◌<◌, ◌≤◌, ℕ, zero, suc, ◌+◌, ◌-◌, List, [], ◌∷◌, ◌++◌, length, take, Option, Some, None, Result, Ok, Err, sym, ap, subst, ◌∙◌, arith, append-nil, append_assoc, length-append, add-zero, add-suc}
use Rattle.std.proofs.Math.Seq.{take-append-add}
use Rattle.std.proofs.lemmas.List.{take-append-le}
use Rattle.nand_model.specs.declared.geometry.Geometry.{Geometry}
use Rattle.nand_image.specs.Writes.{Write, Adds, StopsIn, WritesAll, erase_write, erase_writes}

pub adds_none : (old : Option (List Write)) → Adds old old []
adds_none None = tt
adds_none (Some xs) = sym (append-nil xs)

-- some writes and then others
pub adds_on : (a b c : Option (List Write)) (xs ys : List Write) → Adds a b xs → Adds b c ys → Adds a c (xs ++ ys)
adds_on None b c xs ys first then = tt
adds_on (Some us) None c xs ys first then = absurd first
adds_on (Some us) (Some vs) None xs ys first then = absurd then
adds_on (Some us) (Some vs) (Some ws) xs ys first then = then ∙ ap (λ l. l ++ ys) first ∙ append_assoc us xs ys

-- after some writes it stopped in others, and so in all of them, whatever is planned then
pub stops_after : (a b c : Option (List Write)) (xs ys rest : List Write) → Adds a b xs → StopsIn ys b c → StopsIn (xs ++ (ys ++ rest)) a c
stops_after a b c xs ys rest first stops =
    let less : stops.count ≤ length ys = omega (arith, stops.some_missing) in
    let front : take (length xs + stops.count) (xs ++ (ys ++ rest)) ≡ xs ++ take stops.count ys =
    take-append-add xs (ys ++ rest) stops.count ∙ ap (λ l. xs ++ l) (take-append-le stops.count ys rest less) in
    record {
      count = length xs + stops.count;
      some_missing = omega (arith, stops.some_missing, length-append xs (ys ++ rest), length-append ys rest);
      adds = subst (λ l. Adds a c l) (sym front) (adds_on a b c xs (take stops.count ys) first stops.adds);
    }

-- some writes, and then all others or some of them
pub writes_on : {X E : Type 0} (a b c : Option (List Write)) (xs ys : List Write) (result : Result X E) → Adds a b xs → WritesAll ys b c result → WritesAll (xs ++ ys) a c result
writes_on a b c xs ys (Ok done) first then = adds_on a b c xs ys first then
writes_on a b c xs ys (Err fault) first then = subst (λ l. StopsIn l a c) (ap (λ l. xs ++ l) (append-nil ys)) (stops_after a b c xs ys [] first then)

-- the writes of an erase begin with those of the first pages
pub erase_rest : (g : Geometry) (b n m : ℕ) → (rest : List Write) × (erase_writes g b (n + m) ≡ erase_writes g b n ++ rest)
erase_rest g b n zero = ([], ap (erase_writes g b) (add-zero n) ∙ sym (append-nil (erase_writes g b n)))
erase_rest g b n (suc m) =
    let some = erase_rest g b n m in
    let last = erase_write g b (n + m) ∷ [] in
    (some.0 ++ last, ap (erase_writes g b) (add-suc n m) ∙ ap (λ l. l ++ last) some.1 ∙ append_assoc (erase_writes g b n) some.0 last)

-- an erase that stopped in one of its pages
pub erase_stops : (g : Geometry) (b n count : ℕ) (old mid new : Option (List Write)) → n < count → Adds old mid (erase_writes g b n) → StopsIn (erase_write g b n ∷ []) mid new
    → StopsIn (erase_writes g b count) old new
erase_stops g b n count old mid new less first stops =
    let rest = erase_rest g b (suc n) (count - suc n) in
    let there : suc n + (count - suc n) ≡ count = omega (arith, less) in
    let all : erase_writes g b count ≡ erase_writes g b n ++ ((erase_write g b n ∷ []) ++ rest.0) =
    ap (erase_writes g b) (sym there) ∙ rest.1 ∙ append_assoc (erase_writes g b n) (erase_write g b n ∷ []) rest.0 in
    subst (λ l. StopsIn l old new) (sym all) (stops_after old mid new (erase_writes g b n) (erase_write g b n ∷ []) rest.0 first stops)
