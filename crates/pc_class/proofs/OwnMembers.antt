-- The entries of a class bind its own fields and methods, each of a name of its own.
use Rattle.std.proofs.Common.{◌≡◌, ℕ, suc, List, [], ◌∷◌, ◌++◌, refl, sym, ap, ◌∙◌, subst, append-nil}
use Rattle.std.specs.Prelude.{Bool, true, false, ◌&&◌, ◌||◌, not, cond, if◌then◌else◌, Option, Some, None, is_some}
use Rattle.std.specs.Prelude.{codes, bytes_eq}
use Rattle.std.specs.List.{list_any}
use Rattle.std.specs.Option.{option_or}
use Rattle.std.proofs.lemmas.Bool.{false≢true}
use Rattle.std.proofs.lemmas.List.Folds.{find-append, list_any-append}
use Rattle.pc_tree.specs.Tree.{Member, field_member, method_member, Module}
use Rattle.pc_tree.specs.Stopping.{name_of_member}
use Rattle.pc_scope.specs.Reserved.{is_builtin_name}
use Rattle.pc_scope.specs.Resolution.{is_one_of}
use Rattle.pc_class.specs.Facts.{TypedParameter, Method, ClassFacts, field_by_name, own_fields, own_methods}
use Rattle.pc_class.specs.Entries.{Inherited, MemberEntry, inherited_by, member_binds, member_clashes, entry_of_member}
use Rattle.pc_class.specs.Entries.{number_after, entries_of_members, entry_default, defaulted_after, defaulted_in}
use Rattle.pc_class.specs.Outlines.{first_named, field_name, method_name, own_field, own_method, all_own, AreOther}
use Rattle.pc_class.specs.Outlines.{AreNew}

module _ (m : Module) (base : ClassFacts) where
  -- the members bound by the rules are those that their entries bind
  pub fields_are : (before : List (List ℕ)) (n : ℕ) (ms : List Member) → own_fields m base before ms
      ≡ all_own (own_field m) (entries_of_members (inherited_by base) before n ms)
  fields_are before n [] = refl
  fields_are before n (field_member f ∷ ms) = ap (λ (ps : List TypedParameter).
      own_field m (entry_of_member (inherited_by base) before n (field_member f)) ++ ps)
      (fields_are (f.name.text ∷ before) n ms)
  fields_are before n (method_member f ∷ ms) = fields_are (f.name.text ∷ before) (suc n) ms
      ∙ nothing (member_binds (inherited_by base) before (method_member f))
    where
      nothing : (b : Bool) → all_own (own_field m) (entries_of_members (inherited_by base) (f.name.text ∷ before) (suc n) ms)
          ≡ (if b then [] else []) ++ all_own (own_field m) (entries_of_members (inherited_by base) (f.name.text ∷ before)
          (suc n) ms)
      nothing true = refl
      nothing false = refl

  pub methods_are : (c : ℕ) (before : List (List ℕ)) (n : ℕ) (ms : List Member) → own_methods m base c n before ms
      ≡ all_own (own_method m c) (entries_of_members (inherited_by base) before n ms)
  methods_are c before n [] = refl
  methods_are c before n (method_member f ∷ ms) = ap (λ (ps : List Method). own_method m c
      (entry_of_member (inherited_by base) before n (method_member f)) ++ ps) (methods_are c (f.name.text ∷ before) (suc n) ms)
  methods_are c before n (field_member f ∷ ms) = methods_are c (f.name.text ∷ before) n ms
      ∙ nothing (member_binds (inherited_by base) before (field_member f))
    where
      nothing : (b : Bool) → all_own (own_method m c) (entries_of_members (inherited_by base) (f.name.text ∷ before) n ms)
          ≡ (if b then [] else []) ++ all_own (own_method m c) (entries_of_members (inherited_by base) (f.name.text ∷ before) n
          ms)
      nothing true = refl
      nothing false = refl

-- ---- the same entries where ancestors have the same names

pub record SameInherited (h k : Inherited) : Type 0 where
  pub fields : (n : List ℕ) → h.has_field n ≡ k.has_field n
  pub methods : (n : List ℕ) → h.has_method n ≡ k.has_method n

module _ (h k : Inherited) (s : SameInherited h k) where
  binds_same : (b : List (List ℕ)) (x : Member) → member_binds h b x ≡ member_binds k b x
  binds_same b (field_member f) = ap (λ a. not (is_builtin_name f.name.text || bytes_eq f.name.text (codes "mro"))
      && (not (is_one_of f.name.text b) && not (a || h.has_method f.name.text))) (s.fields f.name.text)
      ∙ ap (λ a. not (is_builtin_name f.name.text || bytes_eq f.name.text (codes "mro"))
      && (not (is_one_of f.name.text b) && not (k.has_field f.name.text || a))) (s.methods f.name.text)
  binds_same b (method_member f) = ap (λ a. not (is_builtin_name f.name.text)
      && (not (is_one_of f.name.text b) && not a)) (s.fields f.name.text)

  clashes_same : (b : List (List ℕ)) (x : Member) → member_clashes h b x ≡ member_clashes k b x
  clashes_same b (field_member f) = ap (λ a. is_one_of f.name.text b || (a || h.has_method f.name.text))
      (s.fields f.name.text) ∙ ap (λ a. is_one_of f.name.text b || (k.has_field f.name.text || a))
      (s.methods f.name.text)
  clashes_same b (method_member f) = ap (λ a. is_one_of f.name.text b || a) (s.fields f.name.text)

  entry_same : (b : List (List ℕ)) (n : ℕ) (x : Member) → entry_of_member h b n x ≡ entry_of_member k b n x
  entry_same b n x = ap (λ y. let e : MemberEntry = record {
    member = x;
    number = n;
    binds = y;
    clashes =
        member_clashes h b x;
  } in e) (binds_same b x) ∙ ap (λ y. let e : MemberEntry =
      record { member = x; number = n; binds = member_binds k b x; clashes = y } in e) (clashes_same b x)

  pub entries_same : (b : List (List ℕ)) (n : ℕ) (xs : List Member) → entries_of_members h b n xs ≡ entries_of_members k b n xs
  entries_same b n [] = refl
  entries_same b n (x ∷ xs) =
      ap (λ (e : MemberEntry). e ∷ entries_of_members h ((name_of_member x).text ∷ b) (number_after n x) xs) (entry_same b n x)
      ∙ ap (λ (es : List MemberEntry). entry_of_member k b n x ∷ es) (entries_same ((name_of_member x).text ∷ b)
      (number_after n x) xs)

-- ---- names of their own

and_left : (a b : Bool) → (a && b) ≡ true → a ≡ true
and_left true b e = refl
and_left false b e = e

and_right : (a b : Bool) → (a && b) ≡ true → b ≡ true
and_right true b e = e
and_right false b e = absurd (false≢true e)

not_true : (a : Bool) → not a ≡ true → a ≡ false
not_true true e = absurd (false≢true e)
not_true false e = refl

neither_left : (a b : Bool) → not (a || b) ≡ true → a ≡ false
neither_left true b e = absurd (false≢true e)
neither_left false b e = refl

-- a member that binds its name finds it new
pub field_new : (h : Inherited) (before : List (List ℕ)) (n : ℕ) (x : Member) → member_binds h before x ≡ true
    → (is_one_of (name_of_member x).text before ≡ false) × (h.has_field (name_of_member x).text ≡ false)
field_new h before n (field_member f) e =
    let r = and_right (not (is_builtin_name f.name.text || bytes_eq f.name.text (codes "mro"))) _ e in (
      not_true (is_one_of f.name.text before) (and_left (not (is_one_of f.name.text before)) _ r),
      neither_left (h.has_field f.name.text) (h.has_method f.name.text)
          (and_right (not (is_one_of f.name.text before)) _ r),
    )
field_new h before n (method_member f) e =
    let r = and_right (not (is_builtin_name f.name.text)) _ e in (
      not_true (is_one_of f.name.text before) (and_left (not (is_one_of f.name.text before)) _ r),
      not_true (h.has_field f.name.text) (and_right (not (is_one_of f.name.text before)) _ r),
    )

-- an entry binds nothing, or one member with its name where it binds its name
data OwnOf {X : Type 0} (name : X → List ℕ) (own : MemberEntry → List X) (e : MemberEntry) : Type 0 where
  nothing : own e ≡ [] → OwnOf name own e
  this : (x : X) → own e ≡ x ∷ [] → name x ≡ (name_of_member e.member).text → e.binds ≡ true → OwnOf name own e

owns_field : (m : Module) (x : Member) (n : ℕ) (b c : Bool) → OwnOf field_name (own_field m)
    (record { member = x; number = n; binds = b; clashes = c })
owns_field m x n false c = nothing refl
owns_field m (field_member f) n true c = this _ refl refl refl
owns_field m (method_member f) n true c = nothing refl

owns_method : (m : Module) (k : ℕ) (x : Member) (n : ℕ) (b c : Bool)
    → OwnOf method_name (own_method m k) (record { member = x; number = n; binds = b; clashes = c })
owns_method m k x n false c = nothing refl
owns_method m k (field_member f) n true c = nothing refl
owns_method m k (method_member f) n true c = this _ refl refl refl

none_of : {X : Type 0} (o : Option X) (b : Bool) → (is_some o ≡ true → b ≡ true) → b ≡ false → o ≡ None
none_of None b f e = refl
none_of (Some x) b f e = absurd (false≢true (sym e ∙ f refl))

or_second : (a b : Bool) → b ≡ true → (a || b) ≡ true
or_second true b e = refl
or_second false b e = e

or_assoc : (a b c : Bool) → (a || (b || c)) ≡ ((a || b) || c)
or_assoc true b c = refl
or_assoc false b c = refl

module _ {X : Type 0} (name : X → List ℕ) (has : List ℕ → Bool) where
  -- a name that stands before, or was there
  abbrev Known : List (List ℕ) → List ℕ → Bool
  Known before n = is_one_of n before || has n

  -- the names of these are known
  abbrev AreKnown : List (List ℕ) → List X → Type 0
  AreKnown before xs = (n : List ℕ) → is_some (first_named name xs n) ≡ true → Known before n ≡ true

  known_later : (t : List ℕ) (before : List (List ℕ)) (n : List ℕ) → Known before n ≡ true → Known (t ∷ before) n ≡ true
  known_later t before n e = sym (or_assoc (bytes_eq n t) (is_one_of n before) (has n))
      ∙ or_second (bytes_eq n t) (Known before n) e

  known_one : (xs : List X) (x : X) (t : List ℕ) (before : List (List ℕ)) → name x ≡ t → AreKnown before xs
      → AreKnown (t ∷ before) (xs ++ x ∷ [])
  known_one xs x t before e w n h = go (first_named name xs n) refl
      (ap is_some (sym (find-append (λ y. bytes_eq n (name y)) xs (x ∷ []))) ∙ h)
    where
      here : (b : Bool) → bytes_eq n (name x) ≡ b → is_some (cond b (Some x) None) ≡ true → Known (t ∷ before) n ≡ true
      here true f g = ap (λ b. (b || is_one_of n before) || has n) (ap (bytes_eq n) (sym e) ∙ f)
      here false f g = absurd (false≢true g)

      go : (o : Option X) → first_named name xs n ≡ o
          → is_some (option_or (first_named name xs n) (cond (bytes_eq n (name x)) (Some x) None)) ≡ true
          → Known (t ∷ before) n ≡ true
      go None f g = here (bytes_eq n (name x)) refl
          (ap (λ q. is_some (option_or q (cond (bytes_eq n (name x)) (Some x) None))) (sym f) ∙ g)
      go (Some y) f g = known_later t before n (w n (ap is_some f))

  module _ (own : MemberEntry → List X) (h : Inherited) (owns : (x : Member) (n : ℕ) (b c : Bool)
      → OwnOf name own (record { member = x; number = n; binds = b; clashes = c }))
      (free : (before : List (List ℕ)) (x : Member) → member_binds h before x ≡ true → has (name_of_member x).text
      ≡ false) where
    -- the members that entries bind are new to each other
    are_new : (before : List (List ℕ)) (n : ℕ) (ms : List Member) (those : List X) → AreKnown before those
        → AreNew name own those (entries_of_members h before n ms)
    are_new before n [] those w = tt
    are_new before n (x ∷ ms) those w = go (owns x n (member_binds h before x) (member_clashes h before x))
        (λ more k. are_new ((name_of_member x).text ∷ before) (number_after n x) ms more k)
      where
        t : List ℕ
        t = (name_of_member x).text

        rest : List MemberEntry
        rest = entries_of_members h (t ∷ before) (number_after n x) ms

        unknown : member_binds h before x ≡ true → Known before t ≡ false
        unknown e = ap (λ b. b || has t) (field_new h before n x e).0 ∙ free before x e

        go : OwnOf name own (entry_of_member h before n x) → ((more : List X) → AreKnown (t ∷ before) more
            → AreNew name own more rest) → AreOther name those (own (entry_of_member h before n x))
            × AreNew name own (those ++ own (entry_of_member h before n x)) rest
        go (nothing e) on = (
          subst (AreOther name those) (sym e) tt,
          subst (λ ys. AreNew name own ys rest) (sym (append-nil those) ∙ ap (λ ys. those ++ ys) (sym e))
              (on those (λ u g. known_later t before u (w u g))),
        )
        go (this y e named binds) on = (
          subst (AreOther name those) (sym e) (
            none_of (first_named name those (name y)) (Known before (name y))
                (w (name y)) (ap (Known before) named ∙ unknown binds),
            tt,
          ),
          subst (λ ys. AreNew name own ys rest) (ap (λ ys. those ++ ys) (sym e))
              (on (those ++ y ∷ []) (known_one those y t before named w)),
        )

-- the fields of a class are new to each other and to those of its base
pub new_fields : (m : Module) (base : ClassFacts) (ms : List Member) → AreNew field_name (own_field m) base.fields
    (entries_of_members (inherited_by base) [] 0 ms)
new_fields m base ms = are_new field_name (λ n. is_some (field_by_name base.fields n)) (own_field m) (inherited_by base)
    (owns_field m) (λ before x e. (field_new (inherited_by base) before 0 x e).1) [] 0 ms base.fields (λ n h. h)

-- and its methods to each other
pub new_methods : (m : Module) (c : ℕ) (base : ClassFacts) (ms : List Member)
    → AreNew method_name (own_method m c) [] (entries_of_members (inherited_by base) [] 0 ms)
new_methods m c base ms = are_new method_name (λ n. false) (own_method m c) (inherited_by base) (owns_method m c)
    (λ before x e. refl) [] 0 ms [] (λ n h. h)

-- ---- defaults

defaults_one : (m : Module) (x : Member) (n : ℕ) (b c d : Bool)
    → defaulted_after d (entry_default (record { member = x; number = n; binds = b; clashes = c }))
    ≡ (d || list_any (λ (p : TypedParameter). p.has_default) (own_field m
    (record { member = x; number = n; binds = b; clashes = c })))
defaults_one m (field_member f) n true c d = ap (λ b. d || b) (or_none (is_some f.default))
  where
    or_none : (b : Bool) → b ≡ (b || false)
    or_none true = refl
    or_none false = refl
defaults_one m (method_member f) n true c true = refl
defaults_one m (method_member f) n true c false = refl
defaults_one m x n false c true = refl
defaults_one m x n false c false = refl

-- whether there was a default, after entries
pub defaults_are : (m : Module) (d : Bool) (es : List MemberEntry)
    → defaulted_in d es ≡ (d || list_any (λ (p : TypedParameter). p.has_default) (all_own (own_field m) es))
defaults_are m true [] = refl
defaults_are m false [] = refl
defaults_are m d (e ∷ es) =
    defaults_are m (defaulted_after d (entry_default e)) es
    ∙ ap (λ b. b || list_any (λ (p : TypedParameter). p.has_default) (all_own (own_field m) es))
    (defaults_one m e.member e.number e.binds e.clashes d)
    ∙ sym (or_assoc d (list_any (λ (p : TypedParameter). p.has_default) (own_field m e))
    (list_any (λ (p : TypedParameter). p.has_default) (all_own (own_field m) es)))
    ∙ ap (λ b. d || b) (sym (list_any-append (λ (p : TypedParameter). p.has_default) (own_field m e)
    (all_own (own_field m) es)))
