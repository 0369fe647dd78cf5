-- Texts that are written one after another.
use Rattle.std.proofs.Common.{◌≡◌, ◌<◌, ◌+◌, ℕ, List, ◌∷◌, ◌++◌, get_or, length, take, drop, Option, Result, Ok, Err, sym, ap, ◌∙◌, subst, append_assoc, flat_map, length-append, arith, take-append-drop, drop-cons, add-one}
use Rattle.std.proofs.lemmas.List.Concat.{flat_map-append}
use Rattle.std.proofs.KnownBytes.{Appends-trans}
use Rattle.std.specs.Io.KnownBytes.{Appends}
use Rattle.std.specs.Result.{IsErr}
use Rattle.line_shell.specs.Written.{AppendsPart, Writes}

module _ {E : Type 0} where
  -- the first text was not written whole
  pub stops_first : (old new : Option (List ℕ)) (first second : List ℕ) (r : Result (Unit {0}) E) → IsErr r → AppendsPart old new first → Writes old new (first ++ second) r
  stops_first old new first second (Ok done) err part = absurd cc
  stops_first old new first second (Err e) err part = record {
    part = part.part;
    rest = part.rest ++ second;
    whole = ap (λ l. l ++ second) part.whole ∙ append_assoc part.part part.rest second;
    short = omega (arith, part.short, length-append part.rest second);
    appended = part.appended;
  }

  -- the second text was, or a part of it
  pub goes_on : (old mid new : Option (List ℕ)) (first second : List ℕ) (r : Result (Unit {0}) E) → Appends old mid first → Writes mid new second r → Writes old new (first ++ second) r
  goes_on old mid new first second (Ok done) before after = Appends-trans old mid new first second before after
  goes_on old mid new first second (Err e) before part = record {
    part = first ++ part.part;
    rest = part.rest;
    whole = ap (λ l. first ++ l) part.whole ∙ sym (append_assoc first part.part part.rest);
    short = part.short;
    appended = Appends-trans old mid new first part.part before part.appended;
  }

  pub text_is : (old new : Option (List ℕ)) (first second : List ℕ) (r : Result (Unit {0}) E) → first ≡ second → Writes old new first r → Writes old new second r
  text_is old new first second r same wrote = subst (λ l. Writes old new l r) same wrote

module _ {X : Type 0} (text : X → List ℕ) where
  -- the texts up to a place, the text there and those after it
  texts_at : (xs : List X) (i : ℕ) (d : X) → i < length xs → flat_map text xs ≡ flat_map text (take i xs) ++ (text (get_or xs i d) ++ flat_map text (drop (i + 1) xs))
  texts_at xs i d lt =
      ap (flat_map text) (sym (take-append-drop i xs) ∙ ap (λ l. take i xs ++ l) (drop-cons xs i d lt ∙ ap (λ k. get_or xs i d ∷ drop k xs) (sym (add-one i))))
      ∙ flat_map-append text (take i xs) (get_or xs i d ∷ drop (i + 1) xs)

  -- the text at a place was not written whole
  pub stops_at : {E : Type 0} (xs : List X) (i : ℕ) (d : X) (old mid new : Option (List ℕ)) (r : Result (Unit {0}) E) → i < length xs
      → Appends old mid (flat_map text (take i xs)) → IsErr r → AppendsPart mid new (text (get_or xs i d)) → Writes old new (flat_map text xs) r
  stops_at xs i d old mid new r lt before err part =
      text_is old new (flat_map text (take i xs) ++ (text (get_or xs i d) ++ flat_map text (drop (i + 1) xs))) (flat_map text xs) r (sym (texts_at xs i d lt))
      (goes_on old mid new (flat_map text (take i xs)) (text (get_or xs i d) ++ flat_map text (drop (i + 1) xs)) r before
      (stops_first mid new (text (get_or xs i d)) (flat_map text (drop (i + 1) xs)) r err part))
