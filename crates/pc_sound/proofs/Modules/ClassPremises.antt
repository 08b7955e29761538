-- In a module without silent errors `@dataclass` is known at each class, each base is an earlier class, and no field
-- without default follows one with default.
use Rattle.std.proofs.Common.{◌≡◌, ℕ, zero, suc, ◌<◌, List, [], ◌∷◌, ◌++◌, length, take, append_assoc, refl, sym, ap}
use Rattle.std.proofs.Common.{◌∙◌, subst, inl, inr, arith, Contains, append-nil}
use Rattle.std.specs.Prelude.{Bool as Test, true, false, ◌||◌, ◌&&◌, not, codes, if◌then◌else◌, is_some, Option, Some}
use Rattle.std.specs.Prelude.{None, slice_get, bytes_eq}
use Rattle.std.specs.List.{list_any}
use Rattle.std.proofs.lemmas.List.Elements.{Contains-append_right}
use Rattle.std.proofs.lemmas.Option.{same_Some}
use Rattle.std.proofs.lemmas.Bool.{false≢true}
use Rattle.std.proofs.Math.Seq.{take-append_seam}
use Rattle.std.proofs.Math.Bool.{or-false, or_assoc}
use Rattle.pc_source.specs.declared.place.Place.{Place}
use Rattle.pc_tree.specs.declared.code.Code.TheVariants.{E02, E07, E08}
use Rattle.pc_tree.specs.Code.{finding}
use Rattle.pc_tree.specs.Tree.{Name, Field, FuncDef, Member, field_member, method_member, ClassDef, Module}
use Rattle.pc_tree.specs.Stopping.{name_of_member}
use Rattle.pc_scope.specs.Reserved.{is_builtin_name}
use Rattle.pc_scope.specs.Bindings.{classes_in}
use Rattle.pc_scope.specs.Resolution.{is_one_of}
use Rattle.pc_scope_findings.specs.Findings as scope
use Rattle.pc_types.specs.Tree.{Tree}
use Rattle.pc_annotations.specs.Annotations.{read_ann}
use Rattle.pc_class.specs.Bases.{bases_of, base_named}
use Rattle.pc_class.specs.Facts as facts
use Rattle.pc_class.specs.Facts.{TypedParameter, base_facts, classes_of, class_facts_at, field_by_name, method_by_name}
use Rattle.pc_class.specs.Facts.{binds_field, own_fields}
use Rattle.pc_class.specs.Findings as findings
use Rattle.pc_class.specs.Findings.{base_class, member_texts, has_default_before}
use Rattle.pc_class.proofs.ClassesBuilt.{below_class, class_is, no_class_past}
use Rattle.pc_module_rules.specs.Modules.{Labelling, IsLawful}
use Rattle.pc_sound.specs.Silent.{HasNoSilentError, by_code, decorator}
use Rattle.pc_sound.proofs.Lists.{get_at_end}
use Rattle.pc_sound.proofs.Modules.MadeClasses.{all_default, fields_last, BaseFound}
use Rattle.pc_sound.proofs.Modules.MembersBind.{BindAll, members_bind}

contains_at : {A : Type 0} (xs : List A) (i : ℕ) (x : A) → slice_get xs i ≡ Some x → Contains xs x
contains_at [] i x e = absurd (grind (arith, e))
contains_at (y ∷ ys) zero x e = (0, omega arith, same_Some _ _ e)
contains_at (y ∷ ys) (suc i) x e = Contains-append_right (y ∷ []) ys x (contains_at ys i x e)

-- ---- the order of fields

abbrev has_defaults : List TypedParameter → Test
has_defaults ps = list_any (λ p. p.has_default) ps

-- the rest of some fields, after others of which some has a default or none
abbrev last_from : Test → List TypedParameter → Test
last_from true ps = all_default ps
last_from false ps = fields_last ps

all_append : (ps qs : List TypedParameter) → all_default ps ≡ true → all_default qs ≡ true
    → all_default (ps ++ qs) ≡ true
all_append [] qs h g = g
all_append (p ∷ ps) qs h g = go p.has_default h (λ h'. all_append ps qs h' g)
  where
    go : (x : Test) → (if x then all_default ps else false) ≡ true
        → (all_default ps ≡ true → all_default (ps ++ qs) ≡ true) → (if x then all_default (ps ++ qs) else false) ≡ true
    go true h rest = rest h
    go false h rest = absurd (false≢true h)

last_append : (ps qs : List TypedParameter) → fields_last ps ≡ true → last_from (has_defaults ps) qs ≡ true
    → fields_last (ps ++ qs) ≡ true
last_append [] qs h g = g
last_append (p ∷ ps) qs h g = go p.has_default h g (λ h' g'. last_append ps qs h' g')
  where
    go : (x : Test) → (if x then all_default ps else fields_last ps) ≡ true → last_from (x || has_defaults ps) qs ≡ true
        → (fields_last ps ≡ true → last_from (has_defaults ps) qs ≡ true → fields_last (ps ++ qs) ≡ true)
        → (if x then all_default (ps ++ qs) else fields_last (ps ++ qs)) ≡ true
    go true h g rest = all_append ps qs h g
    go false h g rest = rest h g

nothing_last : (x : Test) → last_from x [] ≡ true
nothing_last true = refl
nothing_last false = refl

-- one more field: with a default, or where none before has one
one_more : (x : Test) (p : TypedParameter) (ps : List TypedParameter) → last_from (x || p.has_default) ps ≡ true
    → (p.has_default ≡ false → x ≡ true → ⊥) → last_from x (p ∷ ps) ≡ true
one_more x p ps h never = go x p.has_default refl refl h
  where
    go : (y z : Test) → x ≡ y → p.has_default ≡ z → last_from (x || p.has_default) ps ≡ true
        → last_from x (p ∷ ps) ≡ true
    go true true ex ez h = ap (λ a. last_from a (p ∷ ps)) ex ∙ ap (λ b. if b then all_default ps else false) ez
        ∙ (sym (ap (λ a. last_from a ps) (ap (λ a. a || p.has_default) ex)) ∙ h)
    go true false ex ez h = absurd (never ez ex)
    go false true ex ez h = ap (λ a. last_from a (p ∷ ps)) ex ∙ ap (λ b. if b then all_default ps else fields_last ps)
        ez ∙ (sym (ap (λ a. last_from a ps) (ap (λ a. a || p.has_default) ex ∙ ez)) ∙ h)
    go false false ex ez h = ap (λ a. last_from a (p ∷ ps)) ex ∙ ap (λ b. if b then all_default ps else fields_last ps)
        ez ∙ (sym (ap (λ a. last_from a ps) (ap (λ a. a || p.has_default) ex ∙ ez)) ∙ h)

-- ---- members after others

-- the names of members, the nearest first
abbrev pub names_behind : List (List ℕ) → List Member → List (List ℕ)
names_behind before [] = before
names_behind before (x ∷ xs) = names_behind ((name_of_member x).text ∷ before) xs

pub names_last : (before : List (List ℕ)) (xs : List Member) (y : Member) → names_behind before (xs ++ y ∷ [])
    ≡ (name_of_member y).text ∷ names_behind before xs
names_last before [] y = refl
names_last before (x ∷ xs) y = names_last ((name_of_member x).text ∷ before) xs y

pub among_behind : (before : List (List ℕ)) (xs : List Member) (w : List ℕ) → is_one_of w (names_behind before xs)
    ≡ (is_one_of w (member_texts xs) || is_one_of w before)
among_behind before [] w = refl
among_behind before (x ∷ xs) w = among_behind ((name_of_member x).text ∷ before) xs w
    ∙ turn (bytes_eq w (name_of_member x).text) (is_one_of w (member_texts xs)) (is_one_of w before)
  where
    turn : (a b d : Test) → (b || (a || d)) ≡ ((a || b) || d)
    turn true true d = refl
    turn true false d = refl
    turn false b d = refl

same_names : (xs : List Member) (base : facts.ClassFacts) (w : List ℕ) → binds_field base (names_behind [] xs) w
    ≡ binds_field base (member_texts xs) w
same_names xs base w = ap (λ x. not (is_builtin_name w || bytes_eq w (codes "mro"))
    && (not x && not (is_some (field_by_name base.fields w) || is_some (method_by_name base.methods w))))
    (among_behind [] xs w ∙ or-false (is_one_of w (member_texts xs)))

any_append : (ps qs : List TypedParameter) → has_defaults (ps ++ qs) ≡ (has_defaults ps || has_defaults qs)
any_append [] qs = refl
any_append (p ∷ ps) qs = ap (λ z. p.has_default || z) (any_append ps qs)
    ∙ sym (or_assoc p.has_default (has_defaults ps) (has_defaults qs))

own_append : (m : Module) (base : facts.ClassFacts) (before : List (List ℕ)) (xs ys : List Member)
    → own_fields m base before (xs ++ ys) ≡ own_fields m base before xs ++ own_fields m base (names_behind before xs) ys
own_append m base before [] ys = refl
own_append m base before (method_member f ∷ xs) ys = own_append m base (f.name.text ∷ before) xs ys
own_append m base before (field_member f ∷ xs) ys =
    let own = if binds_field base before f.name.text then record {
      name = f.name.text;
      type =
          read_ann m (bases_of m) f.annotation;
      has_default = is_some f.default;
    } ∷ [] else [] in
    ap (λ l. own ++ l) (own_append m base (f.name.text ∷ before) xs ys)
    ∙ sym (append_assoc own (own_fields m base (f.name.text ∷ before) xs)
    (own_fields m base (names_behind (f.name.text ∷ before) xs) ys))

defaults_method : (m : Module) (base : facts.ClassFacts) (done : List Member) (f : FuncDef)
    → has_default_before m base (done ++ method_member f ∷ []) ≡ has_default_before m base done
defaults_method m base done f = ap (λ l. has_defaults base.fields || has_defaults l)
    (own_append m base [] done (method_member f ∷ []) ∙ append-nil (own_fields m base [] done))

defaults_field : (m : Module) (base : facts.ClassFacts) (done : List Member) (f : Field)
    → binds_field base (names_behind [] done) f.name.text ≡ true
    → has_default_before m base (done ++ field_member f ∷ []) ≡ (has_default_before m base done || is_some f.default)
defaults_field m base done f binds =
    ap (λ l. has_defaults base.fields || has_defaults l) (own_append m base [] done (field_member f ∷ [])
    ∙ ap (λ x. own_fields m base [] done
    ++ ((if x then record {
      name = f.name.text;
      type = read_ann m (bases_of m) f.annotation;
      has_default =
          is_some f.default;
    } ∷ [] else []) ++ [])) binds)
    ∙ ap (λ x. has_defaults base.fields || x) (any_append (own_fields m base [] done)
    (record { name = f.name.text; type = read_ann m (bases_of m) f.annotation; has_default = is_some f.default }
    ∷ []))
    ∙ group (has_defaults base.fields) (has_defaults (own_fields m base [] done)) (is_some f.default)
  where
    group : (a b d : Test) → (a || (b || (d || false))) ≡ ((a || b) || d)
    group true b d = refl
    group false true d = refl
    group false false d = or-false d

module _ (m : Module) (labels : Labelling m) (lawful : IsLawful m labels) (clean : HasNoSilentError m)
    (constants : List Tree) (listed : Place → Type 0) where
  -- `@dataclass` stands after its header
  pub imported : (c : ℕ) (class : ClassDef) → slice_get (classes_in m.items) c ≡ Some class → m.imports_dataclass ≡ true
  imported c class is = go m.imports_dataclass refl
    where
      go : (x : Test) → m.imports_dataclass ≡ x → m.imports_dataclass ≡ true
      go true e = e
      go false e =
          absurd (clean (finding class.decorator E02) (record {
            labels = labels;
            lawful = lawful;
            found =
                inl (scope.unknown (scope.decorator class e (contains_at (classes_in m.items) c class is) refl));
          }) (decorator class (contains_at (classes_in m.items) c class is) refl))

  -- a base is an earlier class
  pub based : (c : ℕ) (class : ClassDef) (n : Name) → slice_get (classes_in m.items) c ≡ Some class
      → class.base ≡ Some n → BaseFound m constants listed c n
  based c class n is named = go (base_named m c (Some n)) refl
    where
      go : (o : Option ℕ) → base_named m c (Some n) ≡ o → BaseFound m constants listed c n
      go (Some b) e = record { number = b; is = e }
      go None e =
          absurd (clean (finding n.place E07) (record {
            labels = labels;
            lawful = lawful;
            found =
                inr
                (inl (findings.base c class (record { is = is }) (record {
                  named = n;
                  base = named;
                  none = e;
                  is =
                      refl;
                })));
          }) (by_code tt))

  -- ---- no field without default after one with default

  module _ (c : ℕ) (class : ClassDef) (is : slice_get (classes_in m.items) c ≡ Some class) where
    behind_error : (done rest : List Member) (f : Field) → class.members ≡ done ++ field_member f ∷ rest
        → binds_field (base_class m c class) (names_behind [] done) f.name.text ≡ true → is_some f.default ≡ false
        → has_default_before m (base_class m c class) done ≡ true → ⊥
    behind_error done rest f all binds none behind = clean (finding f.name.place E08) (record {
      labels = labels;
      lawful = lawful;
      found = inr (inl (findings.order c class (record { is = is }) (record {
        at = length done;
        field = f;
        here = ap (λ l. slice_get l (length done)) all ∙ get_at_end done (field_member f) rest;
        binds = subst (λ l. binds_field (base_class m c class) (member_texts l) f.name.text ≡ true) (sym taken)
            (sym (same_names done (base_class m c class) f.name.text) ∙ binds);
        none = none;
        behind = subst (λ l. has_default_before m (base_class m c class) l ≡ true) (sym taken) behind;
        is = refl;
      })));
    }) (by_code tt)
      where
        taken : take (length done) class.members ≡ done
        taken = ap (take (length done)) all ∙ take-append_seam done (field_member f ∷ rest)

    -- the fields of a class's own, after its base's and after others of its own
    order_from : (done rest : List Member) → class.members ≡ done ++ rest
        → BindAll m (base_class m c class) (names_behind [] done) rest
        → last_from (has_default_before m (base_class m c class) done)
        (own_fields m (base_class m c class) (names_behind [] done) rest) ≡ true
    order_from done [] all binds = nothing_last (has_default_before m (base_class m c class) done)
    order_from done (method_member f ∷ rest) all binds =
        subst (λ x. last_from x (own_fields m (base_class m c class) (f.name.text ∷ names_behind [] done) rest) ≡ true)
        (defaults_method m (base_class m c class) done f)
        (subst (λ l. last_from (has_default_before m (base_class m c class) (done ++ method_member f ∷ []))
        (own_fields m (base_class m c class) l rest) ≡ true) (names_last [] done (method_member f))
        (order_from (done ++ method_member f ∷ []) rest (all ∙ sym (append_assoc done (method_member f ∷ []) rest))
        (subst (λ l. BindAll m (base_class m c class) l rest) (sym (names_last [] done (method_member f)))
        binds.1)))
    order_from done (field_member f ∷ rest) all binds =
        let base = base_class m c class in
        let names = names_behind [] done in
        let others = own_fields m base (f.name.text ∷ names) rest in
        let further : last_from (has_default_before m base done || is_some f.default) others ≡ true =
        subst (λ x. last_from x others ≡ true) (defaults_field m base done f binds.0)
        (subst (λ l. last_from (has_default_before m base (done ++ field_member f ∷ [])) (own_fields m base l rest)
        ≡ true) (names_last [] done (field_member f))
        (order_from (done ++ field_member f ∷ []) rest (all ∙ sym (append_assoc done (field_member f ∷ []) rest))
        (subst (λ l. BindAll m base l rest) (sym (names_last [] done (field_member f))) binds.1))) in
        ap (λ x. last_from (has_default_before m base done)
        ((if x then record {
          name = f.name.text;
          type = read_ann m (bases_of m) f.annotation;
          has_default =
              is_some f.default;
        } ∷ [] else []) ++ others)) binds.0
        ∙ one_more (has_default_before m base done)
        (record {
          name = f.name.text;
          type = read_ann m (bases_of m) f.annotation;
          has_default =
              is_some f.default;
        }) others further (λ none behind. behind_error done rest f all binds.0 none behind)

  one_ordered : (n c : ℕ) → c < n → fields_last (class_facts_at (classes_of m) c).fields ≡ true
  one_ordered zero c h = absurd (omega arith)
  one_ordered (suc n) c h = go (slice_get (classes_in m.items) c) refl (λ b less. one_ordered n b (omega arith))
    where
      base_last : (class : ClassDef) → slice_get (classes_in m.items) c ≡ Some class
          → ((b : ℕ) → b < c → fields_last (class_facts_at (classes_of m) b).fields ≡ true) → (o : Option ℕ)
          → base_named m c class.base ≡ o → fields_last (base_facts (classes_of m) o).fields ≡ true
      base_last class is below None e = refl
      base_last class is below (Some b) e = below b (below_class m c b class is e)

      go : (o : Option ClassDef) → slice_get (classes_in m.items) c ≡ o
          → ((b : ℕ) → b < c → fields_last (class_facts_at (classes_of m) b).fields ≡ true)
          → fields_last (class_facts_at (classes_of m) c).fields ≡ true
      go None none below = ap (λ o. fields_last (facts.class_in o).fields) (no_class_past m c none)
      go (Some class) is below =
          ap (λ x. fields_last x.fields) (class_is m c class is)
          ∙ last_append (base_class m c class).fields (own_fields m (base_class m c class) [] class.members)
          (base_last class is below (base_named m c class.base) refl)
          (subst (λ x. last_from x (own_fields m (base_class m c class) [] class.members) ≡ true)
          (or-false (has_defaults (base_class m c class).fields))
          (order_from c class is [] class.members refl (members_bind m labels lawful clean c class is)))

  -- each class has its fields in order
  pub ordered : (c : ℕ) (class : ClassDef) → slice_get (classes_in m.items) c ≡ Some class
      → fields_last (class_facts_at (classes_of m) c).fields ≡ true
  ordered c class is = one_ordered (suc c) c (omega arith)
