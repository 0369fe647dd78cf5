-- What pages hold after a change of names.
use Rattle.std.specs.Prelude.{◌≡◌, ◌≢◌, ℕ, Some, None}
use Rattle.std.proofs.Common.{sym, ◌∙◌, ap, subst, inl, inr}
use Rattle.std.proofs.lemmas.Bool.{cases_eq}
use Rattle.std.specs.Cmp.{nat_cmp_total}
use Rattle.std.specs.FinMap as map
use Rattle.volume_terms.specs.Sizes.{Sizes}
use Rattle.posix_profile.specs.State.{Name, Entries, Object, Dir, Objects, IsDirectory, entries_of}
use Rattle.posix_profile.specs.Changes.{new_number, with_name, without_name, with_object}
use Rattle.posix_profile.specs.laws.Map.{get_here, get_there}
use Rattle.posix_profile.specs.laws.Number.{new_number_is}
use Rattle.pages.specs.Changes.{IsOnlyOf}
use Rattle.pages.specs.Maps.{PageMap, after_change}
use Rattle.pages.specs.State.{PagesState}
use Rattle.pages.specs.laws.Changes.{others_keep, changed_same}
use Rattle.pages.specs.declared.change.Change.{Change}
use Rattle.directories.specs.Directories.{HasOnly, ReadsDirectory}
use Rattle.paged_objects.specs.Holding.{HoldsDirectory, HoldsObject, HoldsObjects, HoldsIn}
use Rattle.paged_objects.specs.laws.Holding.{held_directory, directory_in, same_object, put_object}

-- objects that are the same by number
pub same_numbers : (z : Sizes) (m : PageMap) (a b : Objects) → ((o : ℕ) → map.get b o ≡ map.get a o) → HoldsObjects z m a → HoldsObjects z m b
same_numbers z m a b same holds = record { each = λ o. subst (HoldsObject z m o) (sym (same o)) (holds.each o) }

-- a number is put twice: the later object stays
put_twice : (objects : Objects) (o : ℕ) (x y : Object) (q : ℕ) → map.get (map.insert (map.insert objects o x) o y) q ≡ map.get (map.insert objects o y) q
put_twice objects o x y q = elim (cases_eq q o) [
  | inl here ↦
      ap (map.get (map.insert (map.insert objects o x) o y)) here ∙ get_here nat_cmp_total map.nat_cmp-IsAntisymmetric (map.insert objects o x) o y
      ∙ sym (ap (map.get (map.insert objects o y)) here ∙ get_here nat_cmp_total map.nat_cmp-IsAntisymmetric objects o y)
  | inr other ↦
      get_there nat_cmp_total map.nat_cmp-IsAntisymmetric (map.insert objects o x) o y q other
      ∙ get_there nat_cmp_total map.nat_cmp-IsAntisymmetric objects o x q other
      ∙ sym (get_there nat_cmp_total map.nat_cmp-IsAntisymmetric objects o y q other)
]

-- two objects have other pages
pub put_two : (z : Sizes) (m n : PageMap) (objects : Objects) → HoldsObjects z m objects → (a b : ℕ) (x y : Object) → b ≢ a
    → ((q c : ℕ) → q ≢ a → q ≢ b → n q c ≡ m q c) → HoldsObject z n a (Some x) → HoldsObject z n b (Some y)
    → HoldsObjects z n (map.insert (map.insert objects a x) b y)
put_two z m n objects holds a b x y apart keeps first second = record {
  each = λ q. elim (cases_eq q b) [
    | inl here ↦
        let got : map.get (map.insert (map.insert objects a x) b y) q ≡ Some y = ap (map.get (map.insert (map.insert objects a x) b y)) here ∙ get_here nat_cmp_total map.nat_cmp-IsAntisymmetric (map.insert objects a x) b y in
        subst (HoldsObject z n q) (sym got) (subst (λ k. HoldsObject z n k (Some y)) (sym here) second)
    | inr other ↦
        let past = get_there nat_cmp_total map.nat_cmp-IsAntisymmetric (map.insert objects a x) b y q other in
        elim (cases_eq q a) [
          | inl here ↦
              let got : map.get (map.insert objects a x) q ≡ Some x = ap (map.get (map.insert objects a x)) here ∙ get_here nat_cmp_total map.nat_cmp-IsAntisymmetric objects a x in
              subst (HoldsObject z n q) (sym (past ∙ got)) (subst (λ k. HoldsObject z n k (Some x)) (sym here) first)
          | inr third ↦
              subst (HoldsObject z n q) (sym (past ∙ get_there nat_cmp_total map.nat_cmp-IsAntisymmetric objects a x q third))
              (same_object z m n q (λ c. keeps q c third other) (map.get objects q) (holds.each q))
        ]
  ];
}

module _ (p : PagesState) (z : Sizes) (objects : Objects) (h : HoldsIn p z objects) (d : ℕ) (dir : IsDirectory objects d) where
  -- a directory that reads so, with the spare blocks that its header said and nothing behind its slots
  pub now_directory : (n : PageMap) (moment : ℕ) (entries : Entries) → ReadsDirectory z n d moment entries (directory_in p z objects h d dir).reads.fields.spare → HasOnly z n d (map.len entries)
      → HoldsDirectory z n d moment entries
  now_directory n moment entries reads only = record { reads = reads.0; only = only; spare = λ root. reads.1 ∙ (held_directory p z objects h d dir).spare root }

  -- the directory becomes another, and no other object changes
  pub holds_directory : (change : Change) (moment : ℕ) (entries : Entries) → IsOnlyOf change d
      → ReadsDirectory z (after_change change p.present) d moment entries (directory_in p z objects h d dir).reads.fields.spare → HasOnly z (after_change change p.present) d (map.len entries)
      → HoldsObjects z (after_change change p.present) (map.insert objects d (Dir moment entries))
  holds_directory change moment entries only reads besides =
      put_object z p.present (after_change change p.present) objects h.holds d (Dir moment entries) (λ q c other. others_keep change d only p.present q c other)
      (now_directory (after_change change p.present) moment entries reads besides)

  -- its entries are those that are reported of it
  pub entries_are : dir.1 ≡ entries_of (map.get objects d)
  entries_are = sym (ap entries_of dir.2)

  -- a name leads to an object in the words of a change
  pub holds_name : (n : PageMap) (moment : ℕ) (put name : Name) (got o : ℕ) → put ≡ name → got ≡ o
      → HoldsObjects z n (map.insert objects d (Dir moment (map.insert dir.1 put got))) → HoldsObjects z n (with_name objects moment d name o)
  holds_name n moment put name got o same_name same_object holds =
      subst (λ (es : Entries). HoldsObjects z n (map.insert objects d (Dir moment (map.insert es name o)))) entries_are
      (subst (λ k. HoldsObjects z n (map.insert objects d (Dir moment (map.insert dir.1 name k)))) same_object
      (subst (λ (k : Name). HoldsObjects z n (map.insert objects d (Dir moment (map.insert dir.1 k got)))) same_name holds))

  -- where a number has no object, the directory is another
  pub other_number : (o : ℕ) → map.get objects o ≡ None → d ≢ o
  other_number o free same = let two : None ≡ Some (Dir dir.0 dir.1) = sym free ∙ ap (map.get objects) (sym same) ∙ dir.2 in cc

  -- an object is new, and the directory names it
  pub holds_new : (x : Object) (o : ℕ) → o ≡ new_number objects → (first second : Change) (moment : ℕ) (put name : Name) (got : ℕ) → put ≡ name → got ≡ o
      → IsOnlyOf first o → IsOnlyOf second d → HoldsObject z (after_change first p.present) o (Some x)
      → ReadsDirectory z (after_change second p.present) d moment (map.insert dir.1 put got) (directory_in p z objects h d dir).reads.fields.spare
      → HasOnly z (after_change second p.present) d (map.len (map.insert dir.1 put got))
      → HoldsObjects z (after_change second (after_change first p.present)) (with_object objects moment d name x)
  holds_new x o is first second moment put name got same_name same_number only_first only_second made reads besides =
      let m : PageMap = p.present in
      let n : PageMap = after_change second (after_change first m) in
      let free : map.get objects o ≡ None = ap (map.get objects) is ∙ (new_number_is objects).free in
      let apart : d ≢ o = other_number o free in
      let new' : HoldsObject z n o (Some x) = same_object z (after_change first m) n o (λ c. others_keep second d only_second (after_change first m) o c (λ same. apart (sym same))) (Some x) made in
      let entries : Entries = map.insert dir.1 put got in
      let named : HoldsDirectory z (after_change second m) d moment entries = now_directory (after_change second m) moment entries reads besides in
      let named_there : HoldsObject z n d (Some (Dir moment entries)) = same_object z (after_change second m) n d
      (λ c. changed_same second (after_change first m) m d c (others_keep first o only_first m d c apart)) (Some (Dir moment entries)) named in
      let both : HoldsObjects z n (map.insert (map.insert objects o x) d (Dir moment entries)) = put_two z m n objects h.holds o d x (Dir moment entries) apart
      (λ q c not_o not_d. others_keep second d only_second (after_change first m) q c not_d ∙ others_keep first o only_first m q c not_o) new' named_there in
      let reported : dir.1 ≡ entries_of (map.get (map.insert objects o x) d) = entries_are ∙ ap entries_of (sym (get_there nat_cmp_total map.nat_cmp-IsAntisymmetric objects o x d apart)) in
      subst (λ k. HoldsObjects z n (map.insert (map.insert objects k x) d (Dir moment (map.insert (entries_of (map.get (map.insert objects k x) d)) name k)))) is
      (subst (λ (es : Entries). HoldsObjects z n (map.insert (map.insert objects o x) d (Dir moment (map.insert es name o)))) reported
      (subst (λ k. HoldsObjects z n (map.insert (map.insert objects o x) d (Dir moment (map.insert dir.1 name k)))) same_number
      (subst (λ (k : Name). HoldsObjects z n (map.insert (map.insert objects o x) d (Dir moment (map.insert dir.1 k got)))) same_name both)))

  -- a name goes from the directory and another is put there
  pub holds_renamed : (change : Change) (moment : ℕ) (from to : Name) (o : ℕ) → ((q c : ℕ) → q ≢ d → after_change change p.present q c ≡ p.present q c)
      → ReadsDirectory z (after_change change p.present) d moment (map.insert (map.remove dir.1 from) to o) (directory_in p z objects h d dir).reads.fields.spare
      → HasOnly z (after_change change p.present) d (map.len (map.insert (map.remove dir.1 from) to o))
      → HoldsObjects z (after_change change p.present) (with_name (without_name objects moment d from) moment d to o)
  holds_renamed change moment from to o others reads besides =
      let n : PageMap = after_change change p.present in
      let entries : Entries = map.insert (map.remove dir.1 from) to o in
      let first : Object = Dir moment (map.remove (entries_of (map.get objects d)) from) in
      let one : HoldsObjects z n (map.insert objects d (Dir moment entries)) = put_object z p.present n objects h.holds d (Dir moment entries) others
      (now_directory n moment entries reads besides) in
      let twice : HoldsObjects z n (map.insert (map.insert objects d first) d (Dir moment entries)) =
      same_numbers z n (map.insert objects d (Dir moment entries)) (map.insert (map.insert objects d first) d (Dir moment entries)) (put_twice objects d first (Dir moment entries)) one in
      let reported : map.remove dir.1 from ≡ entries_of (map.get (map.insert objects d first) d) =
      ap (λ (es : Entries). map.remove es from) entries_are ∙ sym (ap entries_of (get_here nat_cmp_total map.nat_cmp-IsAntisymmetric objects d first)) in
      subst (λ (es : Entries). HoldsObjects z n (map.insert (map.insert objects d first) d (Dir moment (map.insert es to o)))) reported twice

  -- a name goes from the directory and is put into another
  pub holds_moved : (t : ℕ) (target : IsDirectory objects t) → d ≢ t → (change : Change) (moment : ℕ) (from to : Name) (o : ℕ)
      → ((q c : ℕ) → q ≢ d → q ≢ t → after_change change p.present q c ≡ p.present q c)
      → HoldsDirectory z (after_change change p.present) d moment (map.remove dir.1 from)
      → HoldsDirectory z (after_change change p.present) t moment (map.insert target.1 to o)
      → HoldsObjects z (after_change change p.present) (with_name (without_name objects moment d from) moment t to o)
  holds_moved t target apart change moment from to o others source there =
      let n : PageMap = after_change change p.present in
      let first : Object = Dir moment (map.remove dir.1 from) in
      let was : Object = Dir moment (map.remove (entries_of (map.get objects d)) from) in
      let both : HoldsObjects z n (map.insert (map.insert objects d first) t (Dir moment (map.insert target.1 to o))) =
      put_two z p.present n objects h.holds d t first (Dir moment (map.insert target.1 to o)) (λ same. apart (sym same)) others source there in
      let same : first ≡ was = ap (λ (es : Entries). Dir moment (map.remove es from)) entries_are in
      let reported : target.1 ≡ entries_of (map.get (map.insert objects d was) t) =
      sym (ap entries_of target.2) ∙ ap entries_of (sym (get_there nat_cmp_total map.nat_cmp-IsAntisymmetric objects d was t (λ is. apart (sym is)))) in
      subst (λ (es : Entries). HoldsObjects z n (map.insert (map.insert objects d was) t (Dir moment (map.insert es to o)))) reported
      (subst (λ (x : Object). HoldsObjects z n (map.insert (map.insert objects d x) t (Dir moment (map.insert target.1 to o)))) same both)
