-- What is put at the front of a list, as much as there is room for.
use Rattle.std.proofs.Common.{◌≡◌, ◌<◌, ◌+◌, ℕ, List, [], ◌∷◌, ◌++◌, get_or, length, take, drop, min, slice_set, sym, ap, inl, inr, ◌∙◌, append_assoc, arith, add-one, drop-cons, take_all}
use Rattle.std.proofs.lemmas.Bool.{cases_lt}
use Rattle.std.proofs.lemmas.List.{length-take-le, drop_all}
use Rattle.std.proofs.Math.Seq.{take-suc, set-append_seam}
use Rattle.flash_c.specs.Salvaged.{front_filled}

-- all of the new ones fit, or as many as there is room for do
pub front_is : {A : Type 0} (old news list : List A) (n : ℕ) → n ≡ min (length old) (length news) → list ≡ take n news ++ drop n old → list ≡ front_filled old news
front_is old news list n least is = elim (cases_lt (length old) (length news)) [
  | inl less ↦ (let same : n ≡ length old = least ∙ grind arith in
      is ∙ ap (λ k. take k news ++ drop k old) same
      ∙ ap (λ l. take (length old) news ++ l) (drop_all (length old) old (omega arith) ∙ sym (drop_all (length news) old (omega (arith, less)))))
  | inr more ↦ (let same : n ≡ length news = least ∙ grind arith in
      is ∙ ap (λ k. take k news ++ drop k old) same
      ∙ ap (λ l. l ++ drop (length news) old) (take_all (length news) news (omega arith) ∙ sym (take_all (length old) news (omega (arith, more)))))
]

-- one more of the new ones
pub one_more : {A : Type 0} (news start now : List A) (i : ℕ) (d x : A) → i < length news → i < length start → now ≡ take i news ++ drop i start
    → x ≡ get_or news i d → slice_set now i x ≡ take (i + 1) news ++ drop (i + 1) start
one_more news start now i d x lt less is same =
    let cut : drop i start ≡ get_or start i d ∷ drop (i + 1) start = drop-cons start i d less ∙ ap (λ k. get_or start i d ∷ drop k start) (sym (add-one i)) in
    let long : i ≡ length (take i news) = sym (length-take-le i news (omega (arith, lt))) in
    let more : take (i + 1) news ≡ take i news ++ (get_or news i d ∷ []) = ap (λ k. take k news) (add-one i) ∙ take-suc news i d lt in
    ap (λ l. slice_set l i x) (is ∙ ap (λ l. take i news ++ l) cut)
    ∙ ap (λ n. slice_set (take i news ++ (get_or start i d ∷ drop (i + 1) start)) n x) long
    ∙ set-append_seam (take i news) (get_or start i d) (drop (i + 1) start) x
    ∙ ap (λ y. take i news ++ (y ∷ drop (i + 1) start)) same
    ∙ sym (append_assoc (take i news) (get_or news i d ∷ []) (drop (i + 1) start))
    ∙ ap (λ l. l ++ drop (i + 1) start) (sym more)
