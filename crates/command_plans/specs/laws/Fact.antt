-- What follows from what is reported of an object.
use Rattle.std.specs.Prelude.{◌≡◌, ◌≤◌, ℕ, false, List, [], ◌∷◌, length, Option, Some, None, nat_le, is_some, MatchBool}
use Rattle.std.proofs.Common.{refl, sym, ◌∙◌, ap, subst, inl, inr, arith}
use Rattle.std.proofs.lemmas.Bool.{lt-leb, le-leb, true≢false}
use Rattle.std.specs.Prelude.{ℤ, pos, negsuc}
use lib.Signed.{lt_z}
use lib.IntN.{nat_abs}
use Rattle.std.specs.FinMap as map
use Rattle.volume_terms.specs.Sizes.{Sizes}
use Rattle.posix_profile.specs.State.{Name, Object, File, Dir, Objects, IsDirectory}
use Rattle.posix_profile.specs.Names.{Names, link_pairs}
use Rattle.posix_profile.specs.WellFormed.{IsForest, IsNamed}
use Rattle.posix_profile.specs.laws.Link.{Lists, link_pairs_list}
use Rattle.posix_profile.specs.declared.reply.Info.{Info}
use Rattle.posix_profile.specs.declared.reply.Kind.TheVariants as kinds
use Rattle.object_store.specs.Facts.{info_of, NamedBy}

pub some_same : (i j : Info) → ◌≡◌ {A = Option Info} (Some i) (Some j) → i ≡ j
some_same i j is = cc

-- the links of a file are its names
pub file_info : (objects : Objects) (o : ℕ) (info : Info) (x : Option Object) → Some info ≡ info_of objects o x → info.kind ≡ kinds.File → info.links ≡ length (link_pairs objects o)
file_info objects o info None is kind = absurd cc
file_info objects o info (Some (File moment bytes)) is kind = ap (λ (i : Info). i.links) (some_same _ _ is)
file_info objects o info (Some (Dir moment entries)) is kind =
    let same : info ≡ _ = some_same _ _ is in let two : kinds.Directory ≡ kinds.File = sym (ap (λ (i : Info). i.kind) same) ∙ kind in absurd cc

pub directory_info : (objects : Objects) (o : ℕ) (info : Info) (x : Option Object) → map.get objects o ≡ x → Some info ≡ info_of objects o x → info.kind ≡ kinds.Directory → IsDirectory objects o
directory_info objects o info None at is kind = absurd cc
directory_info objects o info (Some (File moment bytes)) at is kind =
    let same : info ≡ _ = some_same _ _ is in let two : kinds.File ≡ kinds.Directory = sym (ap (λ (i : Info). i.kind) same) ∙ kind in absurd cc
directory_info objects o info (Some (Dir moment entries)) at is kind = (moment, entries, at)

pub none_info : (objects : Objects) (o : ℕ) (x : Option Object) → None ≡ info_of objects o x → x ≡ None
none_info objects o None is = refl
none_info objects o (Some x) is = absurd cc

-- a list of names, and whether there is one
counts_named : (objects : Objects) (o : ℕ) (pairs : List (ℕ × Name)) → Lists (λ pair. Names objects pair.0 pair.1 o) pairs → MatchBool (nat_le 1 (length pairs)) (IsNamed objects o) (IsNamed objects o → ⊥)
counts_named objects o [] lists = λ named. lists.all (named.0, named.1) named.2
counts_named objects o (pair ∷ pairs) lists = subst (λ b. MatchBool b (IsNamed objects o) (IsNamed objects o → ⊥)) (sym (le-leb 1 (length (pair ∷ pairs)) (omega arith))) (pair.0, pair.1, lists.only pair (inl refl))

pub pairs_named : (objects : Objects) (o : ℕ) → MatchBool (nat_le 1 (length (link_pairs objects o))) (IsNamed objects o) (IsNamed objects o → ⊥)
pairs_named objects o = counts_named objects o (link_pairs objects o) (link_pairs_list objects o)

-- no list of names is longer than one where all names are the same
few_pairs : (objects : Objects) (o : ℕ) (pairs : List (ℕ × Name)) → Lists (λ pair. Names objects pair.0 pair.1 o) pairs
    → ((a b : ℕ) (m n : Name) → Names objects a m o → Names objects b n o → (a ≡ b) × (m ≡ n)) → length pairs ≤ 1
few_pairs objects o [] lists one = omega arith
few_pairs objects o (a ∷ []) lists one = omega arith
few_pairs objects o (a ∷ b ∷ rest) lists one =
    let same = one a.0 b.0 a.1 b.1 (lists.only a (inl refl)) (lists.only b (inr (inl refl))) in
    absurd (lists.distinct.0 (inl (λ i. (same.0 i, same.1 i))))

no_two : (n : ℕ) → n ≤ 1 → false ≡ nat_le 2 n
no_two n within_limit = sym (lt-leb 2 n (omega arith))

-- a directory has one name at most
pub directory_pairs : (z : Sizes) (objects : Objects) (o : ℕ) → IsForest z objects → IsDirectory objects o → false ≡ nat_le 2 (length (link_pairs objects o))
directory_pairs z objects o forest dir = no_two (length (link_pairs objects o)) (few_pairs objects o (link_pairs objects o) (link_pairs_list objects o) (λ a b m n x y. forest.one_name o a b m n dir x y))

-- what is not there has no name
pub absent_pairs : (z : Sizes) (objects : Objects) (o : ℕ) → IsForest z objects → map.get objects o ≡ None → false ≡ nat_le 2 (length (link_pairs objects o))
absent_pairs z objects o forest none = no_two (length (link_pairs objects o)) (go (link_pairs objects o) (link_pairs_list objects o))
  where
    go : (pairs : List (ℕ × Name)) → Lists (λ pair. Names objects pair.0 pair.1 o) pairs → length pairs ≤ 1
    go [] lists = omega arith
    go (a ∷ rest) lists =
        let there = forest.leads a.0 o a.1 (lists.only a (inl refl)) in
        let two : Some there.0 ≡ None = sym there.1 ∙ none in absurd cc

pub named_some : (objects : Objects) (o : ℕ) (r : Option ℕ) → NamedBy objects o r → MatchBool (is_some r) (IsNamed objects o) (IsNamed objects o → ⊥)
named_some objects o None is = is
named_some objects o (Some d) is = (d, is.0, is.1)

-- a number that is not below 0
pub not_negative : (x : ℤ) → lt_z x (pos 0) ≡ false → x ≡ pos (nat_abs x)
not_negative (pos n) is = refl
not_negative (negsuc n) is = absurd (true≢false is)
