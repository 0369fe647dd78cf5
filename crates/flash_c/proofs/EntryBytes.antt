-- A name of a listing as bytes, with the number of its object before it.
use Rattle.std.proofs.Common.{◌≡◌, ◌<◌, ◌≤◌, ◌+◌, ◌-◌, ℕ, List, ◌∷◌, ◌++◌, get_or, length, take, drop, map, refl, sym, ap, ◌∙◌, append_assoc, length-append, arith}
use borrow.Rule.Slice.PartMut.{put_mid}
use Rattle.std.proofs.lemmas.List.{get_or-map, length-map}
use Rattle.std.proofs.lemmas.Slice.{take-put_mid, drop-put_mid}
use Rattle.salvage.specs.declared.reported.SalvagedName.{SalvagedName}
use Rattle.flash_c.specs.Filling.{names_bytes}
use Rattle.flash_c.specs.Salvaged.{entry_bytes, listing_bytes, object_bytes}
use Rattle.flash_c.proofs.NameBytes as named

pub length-object : (o : ℕ) → length (object_bytes o) ≡ 8
unfolding object_bytes
length-object o = refl

pub length-entry : (n : SalvagedName) → length (entry_bytes n) ≡ 8 + length n.name.items
length-entry n = length-append (object_bytes n.object) n.name.items ∙ ap (λ k. k + length n.name.items) (length-object n.object)

-- the entries up to a place and the one there
pub next_length : (names : List SalvagedName) (i : ℕ) (d : SalvagedName) → i < length names
    → length (names_bytes (take (i + 1) (map entry_bytes names))) ≡ length (names_bytes (take i (map entry_bytes names))) + (8 + length (get_or names i d).name.items + 1)
next_length names i d lt =
    named.next_length (map entry_bytes names) i (entry_bytes d) (omega (arith, lt, length-map names entry_bytes))
    ∙ ap (λ k. length (names_bytes (take i (map entry_bytes names))) + (k + 1))
    (ap length (get_or-map entry_bytes names i d (entry_bytes d) lt) ∙ length-entry (get_or names i d))

-- all entries are at least as long as those up to a place and the one there
pub at_least : (names : List SalvagedName) (i : ℕ) (d : SalvagedName) → i < length names
    → length (names_bytes (take i (map entry_bytes names))) + (8 + length (get_or names i d).name.items + 1) ≤ length (listing_bytes names)
at_least names i d lt =
    let same : length (get_or (map entry_bytes names) i (entry_bytes d)) ≡ 8 + length (get_or names i d).name.items =
    ap length (get_or-map entry_bytes names i d (entry_bytes d) lt) ∙ length-entry (get_or names i d) in
    let all = named.at_least (map entry_bytes names) i (entry_bytes d) (omega (arith, lt, length-map names entry_bytes)) in
    omega (arith, same, all)

-- the number of an object was put at a place, and a name with a zero after it behind it
pub with_entry : (buffer part name one new : List ℕ) (at : ℕ) → length part ≡ 8 → at + length (part ++ name) < length buffer
    → one ≡ put_mid at (at + 8 - at) buffer part → new ≡ take (at + 8) one ++ (name ++ (0 ∷ drop (at + 8 + length name + 1) one))
    → new ≡ take at buffer ++ ((part ++ name) ++ (0 ∷ drop (at + length (part ++ name) + 1) buffer))
with_entry buffer part name one new at size lt put named =
    let n : ℕ = at + 8 + length name + 1 in
    let whole : length (part ++ name) ≡ 8 + length name = length-append part name ∙ ap (λ k. k + length name) size in
    let low : at ≤ length buffer = omega (arith, lt) in
    let front : take (at + 8) one ≡ take at buffer ++ part = ap (take (at + 8)) put ∙ take-put_mid at (at + 8 - at) buffer part (at + 8) (omega (arith, size)) low in
    let back : drop n one ≡ drop n buffer = ap (drop n) put ∙ drop-put_mid at (at + 8 - at) buffer part n (omega arith) low (omega (arith, size)) in
    let end : n ≡ at + length (part ++ name) + 1 = omega (arith, whole) in
    named ∙ ap (λ l. l ++ (name ++ (0 ∷ drop n one))) front ∙ ap (λ l. (take at buffer ++ part) ++ (name ++ (0 ∷ l))) (back ∙ ap (λ k. drop k buffer) end)
    ∙ append_assoc (take at buffer) part (name ++ (0 ∷ drop (at + length (part ++ name) + 1) buffer))
    ∙ ap (λ l. take at buffer ++ l) (sym (append_assoc part name (0 ∷ drop (at + length (part ++ name) + 1) buffer)))
