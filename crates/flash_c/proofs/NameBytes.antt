-- The names of a directory as bytes, name by name.
use Rattle.std.proofs.Common.{◌≡◌, ◌<◌, ◌≤◌, ◌+◌, ◌-◌, ℕ, List, [], ◌∷◌, ◌++◌, get_or, length, take, drop, slice_set, sym, ap, ◌∙◌, append_assoc, append-nil, length-append, arith, add-one, take-append-drop, drop-cons}
use borrow.Rule.Slice.PartMut.{put_mid}
use Rattle.std.proofs.lemmas.List.{length-take-le}
use Rattle.std.proofs.Math.Seq.{take-suc, take-append_seam, set-append_seam}
use Rattle.std.proofs.lemmas.Grind.{flat_map-append}
use Rattle.std.proofs.lemmas.List.Folds.{length-flat_map-take}
use Rattle.std.proofs.lemmas.Slice.{take-put_mid, drop-put_mid, drop-append-drop}
use Rattle.flash_c.specs.Filling.{names_bytes}

-- one name with its zero
abbrev pub name_bytes : List ℕ → List ℕ
name_bytes name = name ++ (0 ∷ [])

-- the names up to a place and the one there
pub next_names : (names : List (List ℕ)) (i : ℕ) (d : List ℕ) → i < length names
    → names_bytes (take (i + 1) names) ≡ names_bytes (take i names) ++ name_bytes (get_or names i d)
next_names names i d lt =
    ap (λ k. names_bytes (take k names)) (add-one i) ∙ ap names_bytes (take-suc names i d lt)
    ∙ flat_map-append name_bytes (take i names) (get_or names i d ∷ [])
    ∙ ap (λ l. names_bytes (take i names) ++ l) (append-nil (name_bytes (get_or names i d)))

pub next_length : (names : List (List ℕ)) (i : ℕ) (d : List ℕ) → i < length names
    → length (names_bytes (take (i + 1) names)) ≡ length (names_bytes (take i names)) + (length (get_or names i d) + 1)
next_length names i d lt =
    ap length (next_names names i d lt) ∙ length-append (names_bytes (take i names)) (name_bytes (get_or names i d))
    ∙ ap (λ n. length (names_bytes (take i names)) + n) (length-append (get_or names i d) (0 ∷ []))

-- all names are at least as long as those up to a place and the one there
pub at_least : (names : List (List ℕ)) (i : ℕ) (d : List ℕ) → i < length names
    → length (names_bytes (take i names)) + (length (get_or names i d) + 1) ≤ length (names_bytes names)
at_least names i d lt =
    let e : length (name_bytes (get_or names i d)) ≡ length (get_or names i d) + 1 = length-append (get_or names i d) (0 ∷ []) in
    let h : length (names_bytes (take i names)) + length (name_bytes (get_or names i d)) ≤ length (names_bytes names) = length-flat_map-take name_bytes names i d lt in
    omega (arith, e, h)

-- a name that is put at a place, with a zero after it
pub with_name : (buffer name part : List ℕ) (at : ℕ) → part ≡ name → at + length name < length buffer
    → slice_set (put_mid at (at + length name - at) buffer part) (at + length name) 0 ≡ take at buffer ++ (name ++ (0 ∷ drop (at + length name + 1) buffer))
with_name buffer name part at same lt =
    let end : ℕ = at + length name in
    let size : length part ≡ length name = ap length same in
    let low : at ≤ length buffer = omega (arith, lt) in
    let front : take end (put_mid at (end - at) buffer part) ≡ take at buffer ++ part = take-put_mid at (end - at) buffer part end (omega (arith, size)) low in
    let back : drop end (put_mid at (end - at) buffer part) ≡ drop end buffer = drop-put_mid at (end - at) buffer part end (omega arith) low (omega (arith, size)) in
    let cut : drop end buffer ≡ get_or buffer end 0 ∷ drop (end + 1) buffer = drop-cons buffer end 0 lt ∙ ap (λ k. get_or buffer end 0 ∷ drop k buffer) (sym (add-one end)) in
    let whole : put_mid at (end - at) buffer part ≡ (take at buffer ++ part) ++ (get_or buffer end 0 ∷ drop (end + 1) buffer) =
    sym (take-append-drop end (put_mid at (end - at) buffer part)) ∙ ap (λ l. l ++ drop end (put_mid at (end - at) buffer part)) front
    ∙ ap (λ l. (take at buffer ++ part) ++ l) (back ∙ cut) in
    let long : end ≡ length (take at buffer ++ part) = omega (arith, ap length (sym front), size, lt, low, length-append (take at buffer) part, length-take-le at buffer low) in
    ap (λ l. slice_set l end 0) whole
    ∙ ap (λ n. slice_set ((take at buffer ++ part) ++ (get_or buffer end 0 ∷ drop (end + 1) buffer)) n 0) long
    ∙ set-append_seam (take at buffer ++ part) (get_or buffer end 0) (drop (end + 1) buffer) 0
    ∙ append_assoc (take at buffer) part (0 ∷ drop (end + 1) buffer)
    ∙ ap (λ l. take at buffer ++ (l ++ (0 ∷ drop (end + 1) buffer))) same

-- names at the front of a buffer, and the one that is put after them
pub one_more : (front start name buffer new : List ℕ) (at : ℕ) → at ≡ length front → buffer ≡ front ++ drop at start
    → new ≡ take at buffer ++ (name ++ (0 ∷ drop (at + length name + 1) buffer)) → new ≡ (front ++ name_bytes name) ++ drop (at + (length name + 1)) start
one_more front start name buffer new at place is put =
    let k : at + length name + 1 ≡ at + (length name + 1) = omega arith in
    let first : take at buffer ≡ front = ap (take at) is ∙ ap (λ n. take n (front ++ drop at start)) place ∙ take-append_seam front (drop at start) in
    let rest : drop (at + length name + 1) buffer ≡ drop (at + (length name + 1)) start =
    ap (λ n. drop n buffer) k ∙ ap (drop (at + (length name + 1))) is ∙ drop-append-drop at start front (at + (length name + 1)) (omega arith) (sym place) in
    put ∙ ap (λ l. l ++ (name ++ (0 ∷ drop (at + length name + 1) buffer))) first ∙ ap (λ l. front ++ (name ++ (0 ∷ l))) rest
    ∙ ap (λ l. front ++ l) (sym (append_assoc name (0 ∷ []) (drop (at + (length name + 1)) start)))
    ∙ sym (append_assoc front (name_bytes name) (drop (at + (length name + 1)) start))
