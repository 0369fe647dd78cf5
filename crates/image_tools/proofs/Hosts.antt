-- Host names that are added one after another.
use Rattle.std.specs.Prelude.{◌≡◌, ℕ, Bool, true, false, cond, ◌++◌, List, [], ◌∷◌, length, filter, flat_map, map as list_map, nat_lt, All}
use Rattle.std.proofs.Common.{◌≤◌, refl, sym, ◌∙◌, ap, arith, append_assoc}
use Rattle.std.proofs.lemmas.List.{append-nil, map-append}
use Rattle.std.proofs.lemmas.List.Concat.{flat_map-append}
use Rattle.std.proofs.lemmas.List.Elements.{All-push}
use Rattle.image_tools.specs.HostNames.{AddsHosts, IsHostName, unescaped}

abbrev pub is_some : List ℕ → Bool
is_some part = nat_lt 0 (length part)

-- host names are added of all that are not empty but the rest
pub record AddedSoFar (first text : List ℕ) (all rest : List (List ℕ)) : Type 0 where
  pub hosts : List (List ℕ)
  pub are_hosts : All IsHostName hosts
  pub names_are : list_map unescaped hosts ++ filter is_some rest ≡ filter is_some all
  pub text_is : text ≡ first ++ flat_map (λ host. 47 ∷ host) hosts

no_hosts : All IsHostName []
no_hosts k d lt = absurd (omega arith)

pub added_none : (first : List ℕ) (all : List (List ℕ)) → AddedSoFar first first all all
added_none first all = record { hosts = []; are_hosts = no_hosts; names_are = refl; text_is = sym (append-nil first) }

module _ (first text : List ℕ) (all rest after : List (List ℕ)) (piece : List ℕ) (is : rest ≡ piece ∷ after) (so_far : AddedSoFar first text all rest) where
  pub added_skip : is_some piece ≡ false → AddedSoFar first text all after
  added_skip none = record {
    hosts = so_far.hosts;
    are_hosts = so_far.are_hosts;
    names_are = ap (λ b. list_map unescaped so_far.hosts ++ cond b (piece ∷ filter is_some after) (filter is_some after)) (sym none) ∙ ap (λ k. list_map unescaped so_far.hosts ++ filter is_some k) (sym is) ∙ so_far.names_are;
    text_is = so_far.text_is;
  }

  pub added_one : (host new : List ℕ) → is_some piece ≡ true → IsHostName host → unescaped host ≡ piece → new ≡ text ++ (47 ∷ host) → AddedSoFar first new all after
  added_one host new some is_host reads grown = record {
    hosts = so_far.hosts ++ host ∷ [];
    are_hosts = All-push IsHostName so_far.hosts host so_far.are_hosts is_host;
    names_are =
        ap (λ k. k ++ filter is_some after) (map-append unescaped so_far.hosts (host ∷ []) ∙ ap (λ p. list_map unescaped so_far.hosts ++ p ∷ []) reads)
        ∙ append_assoc (list_map unescaped so_far.hosts) (piece ∷ []) (filter is_some after)
        ∙ ap (λ b. list_map unescaped so_far.hosts ++ cond b (piece ∷ filter is_some after) (filter is_some after)) (sym some) ∙ ap (λ k. list_map unescaped so_far.hosts ++ filter is_some k) (sym is) ∙ so_far.names_are;
    text_is =
        grown ∙ ap (λ k. k ++ (47 ∷ host)) so_far.text_is ∙ append_assoc first (flat_map (λ h. 47 ∷ h) so_far.hosts) (47 ∷ host)
        ∙ ap (λ k. first ++ k) (ap (λ k. flat_map (λ h. 47 ∷ h) so_far.hosts ++ k) (sym (append-nil (47 ∷ host))) ∙ sym (flat_map-append (λ h. 47 ∷ h) so_far.hosts (host ∷ [])));
  }

pub added_all : (first text : List ℕ) (all rest : List (List ℕ)) → rest ≡ [] → AddedSoFar first text all rest → AddsHosts (filter is_some all) first text
added_all first text all rest none so_far = record {
  hosts = so_far.hosts;
  are_hosts = so_far.are_hosts;
  names_are = sym (append-nil (list_map unescaped so_far.hosts)) ∙ ap (λ k. list_map unescaped so_far.hosts ++ filter is_some k) (sym none) ∙ so_far.names_are;
  text_is = so_far.text_is;
}

pub none_there : (part : List ℕ) → length part ≤ 0 → is_some part ≡ false
none_there [] le = refl
none_there (x ∷ part) le = absurd (omega (arith, le))
