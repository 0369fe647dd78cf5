-- What a volume is reported that is called commands that read.
use Rattle.std.specs.Prelude.{◌≡◌, ℕ, ◌≤◌, ◌+◌, ◌++◌, Bool, List, [], ◌∷◌, length, take, drop, Some, Result, Ok, Err, IfOk, OnOk}
use Rattle.std.specs.FinMap as map
use Rattle.std.proofs.Common.{refl, sym, ◌∙◌, ap, subst, arith, append_assoc}
use Rattle.std.proofs.lemmas.List.{take-append-drop, append-nil, length-take, length-append}
use Rattle.posix_profile.specs.State.{Name, File, State}
use Rattle.posix_profile.specs.declared.command.Command.TheVariants as commands
use Rattle.posix_profile.specs.declared.reply.Info.{Info}
use Rattle.posix_profile.specs.declared.reply.Reply.{Reply}
use Rattle.posix_profile.specs.declared.reply.Reply.TheVariants as replies
use Rattle.posix_profile.specs.laws.Sound.{IsSound}
use Rattle.volume_terms.specs.Sizes.{Sizes}
use Rattle.plain_volume.specs.Items.{IsInfo, AreNames, AreBytesAt}
use Rattle.plain_volume.specs.Reading.{IsStated, IsReportedBy, Reports, HasOpen, OpensBy, DrainsBy, ClosesBy}
use Rattle.plain_volume.proofs.Steps.{to_read, stat_reported, list_reported, open_reported, read_reported, close_reported, IsPart}

-- what follows of a result that is Ok
pub ok_then : {A E : Type 0} (P Q : A → Type 0) (r : Result A E) → ((x : A) → P x → Q x) → IfOk r P → IfOk r Q
ok_then P Q (Ok x) on is = on x is
ok_then P Q (Err e) on is = is

-- two things that follow of it
pub ok_both : {A E : Type 0} (P Q : A → Type 0) (r : Result A E) → IfOk r P → IfOk r Q → IfOk r (λ x. P x × Q x)
ok_both P Q (Ok x) one other = (one, other)
ok_both P Q (Err e) one other = one

pub done_then : {A E : Type 0} (P Q : Type 0) (r : Result A E) → (P → Q) → OnOk r P → OnOk r Q
done_then P Q (Ok x) on is = on is
done_then P Q (Err e) on is = is

module _ {V : Type 0} (shows : V → Sizes → Bool → State → Type 0) (old new : V) (r : Reply) where
  pub informs : (p path : List ℕ) (i : Info) → p ≡ path → IsReportedBy shows old (record { moment = 0; command = commands.Stat p }) new r → r ≡ replies.Info i → Reports shows old new (λ objects. IsInfo objects path i)
  informs p path i same reported is = λ z read_only s shown.
      stat_reported shows z read_only s new path i (subst (λ q. IsStated shows z read_only s (record { moment = 0; command = commands.Stat path }) q new) is
      (subst (λ q. IsReportedBy shows old (record { moment = 0; command = commands.Stat q }) new r) same reported z read_only s shown))

  pub lists : (p path : List ℕ) (names : List Name) → p ≡ path → IsReportedBy shows old (record { moment = 0; command = commands.List p }) new r → r ≡ replies.Names names → Reports shows old new (λ objects. AreNames objects path names)
  lists p path names same reported is = λ z read_only s shown.
      list_reported shows z read_only s new path names (subst (λ q. IsStated shows z read_only s (record { moment = 0; command = commands.List path }) q new) is
      (subst (λ q. IsReportedBy shows old (record { moment = 0; command = commands.List q }) new r) same reported z read_only s shown))

  pub opens : (p path : List ℕ) (fd : ℕ) → p ≡ path → IsReportedBy shows old (record { moment = 0; command = commands.Open p to_read }) new r → r ≡ replies.Fd fd → OpensBy shows old new path fd
  opens p path fd same reported is = λ z read_only s shown.
      open_reported shows z read_only s new path fd (subst (λ q. IsStated shows z read_only s (record { moment = 0; command = commands.Open path to_read }) q new) is
      (subst (λ q. IsReportedBy shows old (record { moment = 0; command = commands.Open q to_read }) new r) same reported z read_only s shown))

  pub closes : (fd : ℕ) → IsReportedBy shows old (record { moment = 0; command = commands.Close fd }) new r → r ≡ replies.Done → ClosesBy shows old new fd
  closes fd reported is = λ z read_only s t o offset sound free opened shown.
      close_reported shows z read_only t new s fd o offset opened sound.well_formed free (subst (λ q. IsStated shows z read_only t (record { moment = 0; command = commands.Close fd }) q new) is (reported z read_only t shown))

-- the bytes so far are the first of the file
pub record IsDrained {V : Type 0} (shows : V → Sizes → Bool → State → Type 0) (now : V) (z : Sizes) (read_only : Bool) (s : State) (fd o : ℕ) (bytes : List ℕ) : Type 0 where
  pub state : State
  pub opened : HasOpen s fd o (length bytes) state
  pub shown : shows now z read_only state
  pub first : (moment : ℕ) (all : List ℕ) → map.get s.objects o ≡ Some (File moment all) → (rest : List ℕ) × (all ≡ bytes ++ rest)

-- so it is from each state
abbrev pub IsDrainedBy : {V : Type 0} → (V → Sizes → Bool → State → Type 0) → V → V → ℕ → List ℕ → Type 0
IsDrainedBy shows old now fd bytes = (z : Sizes) (read_only : Bool) (s t : State) (o : ℕ) → HasOpen s fd o 0 t → shows old z read_only t → IsDrained shows now z read_only s fd o bytes

drop_first : (xs ys : List ℕ) → drop (length xs) (xs ++ ys) ≡ ys
drop_first [] ys = refl
drop_first (x ∷ xs) ys = drop_first xs ys

none_left : (n : ℕ) (xs : List ℕ) → 1 ≤ n → length (take n xs) ≡ 0 → xs ≡ []
none_left n [] some none = refl
none_left n (x ∷ xs) some none = absurd (omega (arith, length-take n (x ∷ xs)))

module _ {V : Type 0} (shows : V → Sizes → Bool → State → Type 0) (old : V) where
  pub drains_none : (fd : ℕ) → IsDrainedBy shows old old fd []
  drains_none fd = λ z read_only s t o opened shown. record { state = t; opened = opened; shown = shown; first = λ moment all file. (all, refl) }

  module _ (now new : V) (fd count : ℕ) (bytes part : List ℕ) (r : Reply) (so_far : IsDrainedBy shows old now fd bytes)
      (reported : IsReportedBy shows now (record { moment = 0; command = commands.Read fd count }) new r) (is : r ≡ replies.Data part) where
    part_read : (z : Sizes) (read_only : Bool) (s t : State) (o : ℕ) → HasOpen s fd o 0 t → shows old z read_only t → (u : State) × IsPart s fd o (length bytes) count part u × shows new z read_only u
    part_read z read_only s t o opened shown =
        let was = so_far z read_only s t o opened shown in
        read_reported shows z read_only was.state new s fd o (length bytes) count part was.opened
        (subst (λ q. IsStated shows z read_only was.state (record { moment = 0; command = commands.Read fd count }) q new) is (reported z read_only was.state was.shown))

    -- a part that is read comes next
    next_part : (z : Sizes) (read_only : Bool) (s t : State) (o : ℕ) (opened : HasOpen s fd o 0 t) (shown : shows old z read_only t) (moment : ℕ) (all : List ℕ) → map.get s.objects o ≡ Some (File moment all)
        → (rest : List ℕ) × (all ≡ bytes ++ rest) × (part ≡ take count rest)
    next_part z read_only s t o opened shown moment all file =
        let was = so_far z read_only s t o opened shown in
        let rest = was.first moment all file in
        let next = (part_read z read_only s t o opened shown).1 in
        let same : next.bytes ≡ all = (let two : Some (File next.moment next.bytes) ≡ Some (File moment all) = sym next.file ∙ file in cc) in
        (rest.0, rest.1, next.part_is ∙ ap (λ k. take count (drop (length bytes) k)) (same ∙ rest.1) ∙ ap (take count) (drop_first bytes rest.0))

    pub drains_more : (after : List ℕ) → after ≡ bytes ++ part → IsDrainedBy shows old new fd after
    drains_more after grown = λ z read_only s t o opened shown.
        let next = part_read z read_only s t o opened shown in
        let longer : length bytes + length part ≡ length after = omega (arith, ap (λ (k : List ℕ). length k) grown, length-append bytes part) in
        record {
          state = next.0;
          opened = subst (λ n. HasOpen s fd o n next.0) longer next.1.opened;
          shown = next.2;
          first = λ moment all file.
              let k = next_part z read_only s t o opened shown moment all file in (
                drop count k.0,
                k.1 ∙ ap (λ q. bytes ++ q) (sym (take-append-drop count k.0)) ∙ sym (append_assoc bytes (take count k.0) (drop count k.0))
                    ∙ ap (λ q. (bytes ++ q) ++ drop count k.0) (sym k.2) ∙ ap (λ q. q ++ drop count k.0) (sym grown),
              );
        }

    pub drains_all : 1 ≤ count → length part ≡ 0 → DrainsBy shows old new fd bytes
    drains_all some none = λ z read_only s t o opened shown.
        let next = part_read z read_only s t o opened shown in
        let k = next_part z read_only s t o opened shown next.1.moment next.1.bytes next.1.file in
        let all : next.1.bytes ≡ bytes = k.1 ∙ ap (λ q. bytes ++ q) (none_left count k.0 some (ap (λ (q : List ℕ). length q) (sym k.2) ∙ none)) ∙ append-nil bytes in
        record { moment = next.1.moment; file = next.1.file ∙ ap (λ q. Some (File next.1.moment q)) all; offset = length bytes + length part; state = next.0; opened = next.1.opened; shown = next.2 }

-- the whole of a file: opened, read and closed
pub reads_bytes : {V : Type 0} (shows : V → Sizes → Bool → State → Type 0) (sound : (v : V) (z : Sizes) (read_only : Bool) (s : State) → shows v z read_only s → IsSound z s) (first opened drained closed : V) (path : List ℕ) (fd : ℕ) (bytes : List ℕ)
    → OpensBy shows first opened path fd → DrainsBy shows opened drained fd bytes → ClosesBy shows drained closed fd → Reports shows first closed (λ objects. AreBytesAt objects path bytes)
reads_bytes shows sound first opened drained closed path fd bytes open' drain close' = λ z read_only s shown.
    let o = open' z read_only s shown in
    let d = drain z read_only s o.0 o.1.number o.1.opened o.2 in
    ((o.1.number, d.moment, o.1.found (File d.moment bytes) d.file), close' z read_only s d.state o.1.number d.offset (sound first z read_only s shown) o.1.free d.opened d.shown)
