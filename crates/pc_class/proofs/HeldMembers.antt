-- The members that the tree gives a class are the fields and methods that the class has by the rules, and the same
-- members clash.
use Rattle.std.proofs.Common.{◌≡◌, ℕ, suc, List, [], ◌∷◌, ◌++◌, map, refl, sym, ap, ◌∙◌}
use Rattle.std.specs.Prelude.{Bool, true, false, ◌&&◌, ◌||◌, not, cond, if◌then◌else◌, Option, Some, None, is_some}
use Rattle.std.specs.Prelude.{codes, bytes_eq}
use Rattle.std.specs.List.{list_any}
use Rattle.std.specs.Option.{option_or}
use Rattle.std.proofs.lemmas.List.Folds.{find-append, list_any-append}
use Rattle.pc_source.specs.declared.place.Place.{Place}
use Rattle.pc_tree.specs.Stopping as stopping
use Rattle.pc_tree.specs.Stopping.{one_if, name_of_member, is_reserved_member, HeldMember, held_text, is_field_of}
use Rattle.pc_tree.specs.Stopping.{is_clash, held_by, own_members, clashes_among}
use Rattle.pc_tree.specs.Tree.{Member, field_member, method_member, ClassDef, Module}
use Rattle.pc_scope.specs.Reserved.{is_builtin_name}
use Rattle.pc_scope.specs.Resolution.{is_one_of}
use Rattle.pc_scope.proofs.TextMaps.{turned}
use Rattle.pc_class.specs.Entries.{inherited_by, member_binds, member_clashes, number_after, entries_of_members, clash_places}
use Rattle.pc_class.specs.Entries.{parameter_made}
use Rattle.pc_class.specs.Facts.{TypedParameter, Method, ClassFacts, empty_class, field_by_name, method_by_name}
use Rattle.pc_class.specs.Facts.{method_made, own_fields, own_methods}
use Rattle.pc_class.proofs.ClassesBuilt.{class_over}
use Rattle.pc_class.proofs.ReservedNames.{reserved_same}

-- ---- truth values

or_assoc : (a b c : Bool) → (a || (b || c)) ≡ ((a || b) || c)
or_assoc true b c = refl
or_assoc false b c = refl

or_swap : (a b c : Bool) → (a || (b || c)) ≡ (b || (a || c))
or_swap true true c = refl
or_swap true false c = refl
or_swap false b c = refl

-- two of each, in another order
four : (a b c d : Bool) → ((a || b) || (c || d)) ≡ ((a || c) || (d || b))
four true b c d = refl
four false true true d = refl
four false true false true = refl
four false true false false = refl
four false false true d = refl
four false false false true = refl
four false false false false = refl

neither : (a b c : Bool) → (a || (b || c)) ≡ not (not a && (not b && not c))
neither true b c = refl
neither false true c = refl
neither false false true = refl
neither false false false = refl

cond_some : {X : Type 0} (b : Bool) (x : X) (o : Option X) → is_some (cond b (Some x) o) ≡ (b || is_some o)
cond_some true x o = refl
cond_some false x o = refl

or_some : {X : Type 0} (o p : Option X) → is_some (option_or o p) ≡ (is_some o || is_some p)
or_some None p = refl
or_some (Some x) p = refl

-- ---- texts

among_same : (names : List (List ℕ)) (w : List ℕ) → stopping.is_among names w ≡ is_one_of w names
among_same [] w = refl
among_same (n ∷ names) w = ap (λ x. x || stopping.is_among names w) (turned n w)
    ∙ ap (λ x. bytes_eq w n || x) (among_same names w)

-- a name of what is held
abbrev has_name : List HeldMember → List ℕ → Bool
has_name hs w = list_any (λ (h : HeldMember). bytes_eq h.text w) hs

held_texts : (hs : List HeldMember) (w : List ℕ) → stopping.is_among (map held_text hs) w ≡ has_name hs w
held_texts [] w = refl
held_texts (x ∷ hs) w = ap (λ z. bytes_eq x.text w || z) (held_texts hs w)

-- ---- held members

-- the held members are just the fields and methods of a class
pub record Tells (hs : List HeldMember) (class : ClassFacts) : Type 0 where
  pub fields : (w : List ℕ) → list_any (is_field_of w) hs ≡ is_some (field_by_name class.fields w)
  pub names : (w : List ℕ) → has_name hs w ≡ (is_some (field_by_name class.fields w)
      || is_some (method_by_name class.methods w))

pub nothing_tells : Tells [] empty_class
nothing_tells = record { fields = λ w. refl; names = λ w. refl }

field_append : (xs ys : List TypedParameter) (w : List ℕ) → is_some (field_by_name (xs ++ ys) w)
    ≡ (is_some (field_by_name xs w) || is_some (field_by_name ys w))
field_append xs ys w = ap is_some (find-append (λ p. bytes_eq w p.name) xs ys)
    ∙ or_some (field_by_name xs w) (field_by_name ys w)

method_append : (xs ys : List Method) (w : List ℕ) → is_some (method_by_name (xs ++ ys) w)
    ≡ (is_some (method_by_name xs w) || is_some (method_by_name ys w))
method_append xs ys w = ap is_some (find-append (λ p. bytes_eq w p.name) xs ys)
    ∙ or_some (method_by_name xs w) (method_by_name ys w)

module _ (m : Module) (base : ClassFacts) (hs : List HeldMember) (tells : Tells hs base) where
  clash_same : (before : List (List ℕ)) (x : Member) → is_clash before hs x ≡ member_clashes (inherited_by base) before
      x
  clash_same before (field_member f) =
      ap (λ b. b || stopping.is_among (map held_text hs) f.name.text) (among_same before f.name.text)
      ∙ ap (λ b. is_one_of f.name.text before || b) (held_texts hs f.name.text ∙ tells.names f.name.text)
  clash_same before (method_member f) =
      ap (λ b. b || list_any (is_field_of f.name.text) hs) (among_same before f.name.text)
      ∙ ap (λ b. is_one_of f.name.text before || b) (tells.fields f.name.text)

  -- the members that clash are those whose entries clash
  pub clashes_are : (before : List (List ℕ)) (n : ℕ) (ms : List Member) → clashes_among before hs ms ≡ clash_places
      (entries_of_members (inherited_by base) before n ms)
  clashes_are before n [] = refl
  clashes_are before n (x ∷ ms) =
      ap (λ b. one_if b (name_of_member x).place ++ clashes_among ((name_of_member x).text ∷ before) hs ms)
      (clash_same before x)
      ∙ ap (λ (ps : List Place). one_if (member_clashes (inherited_by base) before x) (name_of_member x).place ++ ps)
      (clashes_are ((name_of_member x).text ∷ before) (number_after n x) ms)

  -- a member that is not held is one that binds no name
  unbound : (before : List (List ℕ)) (x : Member) → (is_reserved_member x || is_clash before hs x)
      ≡ not (member_binds (inherited_by base) before x)
  unbound before (field_member f) =
      let w = f.name.text in
      ap (λ b. (b || bytes_eq w (codes "mro")) || is_clash before hs (field_member f)) (reserved_same w)
      ∙ ap (λ b. (is_builtin_name w || bytes_eq w (codes "mro")) || b) (clash_same before (field_member f))
      ∙ neither (is_builtin_name w || bytes_eq w (codes "mro")) (is_one_of w before)
      (is_some (field_by_name base.fields w) || is_some (method_by_name base.methods w))
  unbound before (method_member f) =
      let w = f.name.text in
      ap (λ b. b || is_clash before hs (method_member f)) (reserved_same w)
      ∙ ap (λ b. is_builtin_name w || b) (clash_same before (method_member f))
      ∙ neither (is_builtin_name w) (is_one_of w before) (is_some (field_by_name base.fields w))

  -- the members that are held of a class, after a member that is held where this is so
  abbrev held_after : Bool → List (List ℕ) → Member → List Member → List HeldMember
  held_after b before x ms = (if b then [] else held_by x ∷ []) ++ own_members ((name_of_member x).text ∷ before) hs ms

  fields_held : (before : List (List ℕ)) (ms : List Member) (w : List ℕ)
      → list_any (is_field_of w) (own_members before hs ms) ≡ is_some (field_by_name (own_fields m base before ms) w)
  fields_held before [] w = refl
  fields_held before (field_member f ∷ ms) w =
      ap (λ b. list_any (is_field_of w) (held_after b before (field_member f) ms)) (unbound before (field_member f))
      ∙ go (member_binds (inherited_by base) before (field_member f)) (fields_held (f.name.text ∷ before) ms w)
    where
      rest : List TypedParameter
      rest = own_fields m base (f.name.text ∷ before) ms

      behind : Bool
      behind = list_any (is_field_of w) (own_members (f.name.text ∷ before) hs ms)

      go : (b : Bool) → behind ≡ is_some (field_by_name rest w) → list_any (is_field_of w)
          (held_after (not b) before (field_member f) ms) ≡ is_some
          (field_by_name ((if b then parameter_made m f ∷ [] else []) ++ rest) w)
      go true e =
          ap (λ b. b || behind) (turned f.name.text w) ∙ ap (λ b. bytes_eq w f.name.text || b) e
          ∙ sym (cond_some (bytes_eq w f.name.text) (parameter_made m f) (field_by_name rest w))
      go false e = e
  fields_held before (method_member f ∷ ms) w =
      ap (λ b. list_any (is_field_of w) (held_after b before (method_member f) ms)) (unbound before (method_member f))
      ∙ go (member_binds (inherited_by base) before (method_member f)) ∙ fields_held (f.name.text ∷ before) ms w
    where
      go : (b : Bool) → list_any (is_field_of w) (held_after (not b) before (method_member f) ms)
          ≡ list_any (is_field_of w) (own_members (f.name.text ∷ before) hs ms)
      go true = refl
      go false = refl

  names_held : (c n : ℕ) (before : List (List ℕ)) (ms : List Member) (w : List ℕ)
      → has_name (own_members before hs ms) w ≡ (is_some (field_by_name (own_fields m base before ms) w)
      || is_some (method_by_name (own_methods m base c n before ms) w))
  names_held c n before [] w = refl
  names_held c n before (field_member f ∷ ms) w =
      ap (λ b. has_name (held_after b before (field_member f) ms) w) (unbound before (field_member f))
      ∙ go (member_binds (inherited_by base) before (field_member f)) (names_held c n (f.name.text ∷ before) ms w)
    where
      rest : List TypedParameter
      rest = own_fields m base (f.name.text ∷ before) ms

      methods : Bool
      methods = is_some (method_by_name (own_methods m base c n (f.name.text ∷ before) ms) w)

      behind : Bool
      behind = has_name (own_members (f.name.text ∷ before) hs ms) w

      go : (b : Bool) → behind ≡ (is_some (field_by_name rest w) || methods)
          → has_name (held_after (not b) before (field_member f) ms) w
          ≡ (is_some (field_by_name ((if b then parameter_made m f ∷ [] else []) ++ rest) w) || methods)
      go true e =
          ap (λ b. b || behind) (turned f.name.text w) ∙ ap (λ b. bytes_eq w f.name.text || b) e
          ∙ or_assoc (bytes_eq w f.name.text) (is_some (field_by_name rest w)) methods
          ∙ ap (λ b. b || methods) (sym (cond_some (bytes_eq w f.name.text) (parameter_made m f)
          (field_by_name rest w)))
      go false e = e
  names_held c n before (method_member f ∷ ms) w =
      ap (λ b. has_name (held_after b before (method_member f) ms) w) (unbound before (method_member f))
      ∙ go (member_binds (inherited_by base) before (method_member f))
      (names_held c (suc n) (f.name.text ∷ before) ms w)
    where
      rest : List Method
      rest = own_methods m base c (suc n) (f.name.text ∷ before) ms

      fields : Bool
      fields = is_some (field_by_name (own_fields m base (f.name.text ∷ before) ms) w)

      behind : Bool
      behind = has_name (own_members (f.name.text ∷ before) hs ms) w

      go : (b : Bool) → behind ≡ (fields || is_some (method_by_name rest w))
          → has_name (held_after (not b) before (method_member f) ms) w
          ≡ (fields || is_some (method_by_name ((if b then method_made m c n f ∷ [] else []) ++ rest) w))
      go true e =
          ap (λ b. b || behind) (turned f.name.text w) ∙ ap (λ b. bytes_eq w f.name.text || b) e
          ∙ or_swap (bytes_eq w f.name.text) fields (is_some (method_by_name rest w))
          ∙ ap (λ b. fields || b) (sym (cond_some (bytes_eq w f.name.text) (method_made m c n f)
          (method_by_name rest w)))
      go false e = e

  -- the members held of a class over its base are those that the class has
  pub tells_over : (c : ℕ) (class : ClassDef) → Tells (hs ++ own_members [] hs class.members)
      (class_over m c class base)
  tells_over c class = record {
    fields = λ w.
        list_any-append (is_field_of w) hs (own_members [] hs class.members)
        ∙ ap (λ b. b || list_any (is_field_of w) (own_members [] hs class.members)) (tells.fields w)
        ∙ ap (λ b. is_some (field_by_name base.fields w) || b) (fields_held [] class.members w)
        ∙ sym (field_append base.fields (own_fields m base [] class.members) w);
    names = λ w.
        list_any-append (λ (h : HeldMember). bytes_eq h.text w) hs (own_members [] hs class.members)
        ∙ ap (λ b. b || has_name (own_members [] hs class.members) w) (tells.names w)
        ∙ ap (λ b. (is_some (field_by_name base.fields w) || is_some (method_by_name base.methods w)) || b)
        (names_held c 0 [] class.members w)
        ∙ four (is_some (field_by_name base.fields w)) (is_some (method_by_name base.methods w))
        (is_some (field_by_name (own_fields m base [] class.members) w))
        (is_some (method_by_name (own_methods m base c 0 [] class.members) w))
        ∙ ap (λ b. b || (is_some (method_by_name (own_methods m base c 0 [] class.members) w)
        || is_some (method_by_name base.methods w)))
        (sym (field_append base.fields (own_fields m base [] class.members) w))
        ∙ ap (λ b. is_some (field_by_name (base.fields ++ own_fields m base [] class.members) w) || b)
        (sym (method_append (own_methods m base c 0 [] class.members) base.methods w));
  }
