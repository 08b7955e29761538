-- In a module without silent errors each member of a class binds its name: none is reserved, repeated or clashes with
-- an ancestor's.
use Rattle.std.proofs.Common.{◌≡◌, ℕ, zero, suc, ◌+◌, ◌<◌, List, [], ◌∷◌, ◌++◌, map, refl, sym, ap, ◌∙◌, subst, inl}
use Rattle.std.proofs.Common.{inr, arith, Contains, eq-or-lt_of_le, le_of_suc-le-suc}
use Rattle.std.specs.Prelude.{◌⊎◌, Bool as Test, true, false, ◌||◌, ◌&&◌, not, cond, if◌then◌else◌, is_some, Option}
use Rattle.std.specs.Prelude.{Some, None, slice_get, bytes_eq, codes}
use Rattle.std.specs.List.{list_any}
use Rattle.std.specs.Option.{option_or}
use Rattle.std.proofs.lemmas.Slice.Eq.{bytes_eq-Decides}
use Rattle.std.proofs.lemmas.List.Folds.{find-append, list_any-append}
use Rattle.std.proofs.lemmas.Option.{same_Some}
use Rattle.std.proofs.lemmas.Bool.{and_parts, false_from_ne_true, false≢true, or_cases, or_left, or_parts, or_right}
use Rattle.std.proofs.Math.Bool.{and-true}
use Rattle.pc_source.specs.declared.place.Place.{Place}
use Rattle.pc_source.specs.ReservedNames as keywords
use Rattle.pc_tree.specs.declared.code.Code.TheVariants.{E01, E06, E29}
use Rattle.pc_tree.specs.Code.{finding}
use Rattle.pc_tree.specs.Stopping as stopping
use Rattle.pc_tree.specs.Stopping.{one_if, name_of_item, name_of_member, bound_again, reserved_among, reserved_members}
use Rattle.pc_tree.specs.Stopping.{reserved_in_classes, is_reserved_member, HeldMember, held_text, is_field_of}
use Rattle.pc_tree.specs.Stopping.{is_clash, held_by, own_members, is_first_binding, members_of, clashes_among}
use Rattle.pc_tree.specs.Stopping.{clashing_in, clashing_members, reserved_bound, twice, option_text}
use Rattle.pc_tree.specs.Tree.{Name, Member, field_member, method_member, ClassDef, Item, constant_item, class_item}
use Rattle.pc_tree.specs.Tree.{def_item, Module}
use Rattle.pc_scope.specs.declared.resolution.Builtin.{Builtin}
use Rattle.pc_scope.specs.declared.resolution.Builtin.TheVariants as builtin
use Rattle.pc_scope.specs.Reserved.{builtin_of, is_builtin_name}
use Rattle.pc_scope.specs.Bindings.{classes_in}
use Rattle.pc_scope.specs.Resolution.{is_one_of, resolve_in_module}
use Rattle.pc_scope_findings.specs.Findings as scope
use Rattle.pc_annotations.specs.Annotations.{read_ann}
use Rattle.pc_class.specs.Bases.{bases_of, base_named}
use Rattle.pc_class.specs.Facts as facts
use Rattle.pc_class.specs.Facts.{TypedParameter, Method, field_by_name, method_by_name, base_facts, classes_of}
use Rattle.pc_class.specs.Facts.{class_facts_at, binds_field, binds_method, own_fields, own_methods}
use Rattle.pc_class.specs.Findings as findings
use Rattle.pc_class.specs.Findings.{base_class}
use Rattle.pc_class.proofs.ClassesBuilt.{class_over, class_is, below_class}
use Rattle.pc_module_rules.specs.Modules.{Labelling, IsLawful}
use Rattle.pc_sound.specs.Silent.{HasNoSilentError, by_code}
use Rattle.pc_sound.proofs.Lists.{front_empty, rest_empty, same_text_back}
use Rattle.pc_sound.proofs.Expressions.NameReads.{builtin_text, text_of_builtin}
use Rattle.pc_sound.proofs.Modules.ModuleNames.{class_named}
use Rattle.pc_sound.proofs.Modules.MadeClasses.{earlier_is}

none_there : (x : Test) (p : Place) → one_if x p ≡ [] → x ≡ false
none_there true p e = absurd (grind (arith, e))
none_there false p e = refl

-- ---- texts

-- the two tests of a text among names agree
pub among_same : (names : List (List ℕ)) (w : List ℕ) → stopping.is_among names w ≡ is_one_of w names
among_same [] w = refl
among_same (n ∷ names) w = ap (λ x. x || stopping.is_among names w) (same_text_back n w)
    ∙ ap (λ x. bytes_eq w n || x) (among_same names w)

reserved_there : (b : Builtin) → keywords.is_reserved (builtin_text b) ≡ true
reserved_there builtin.Any = refl
reserved_there builtin.Annotations = refl
reserved_there builtin.Bool = refl
reserved_there builtin.Dataclass = refl
reserved_there builtin.Dict = refl
reserved_there builtin.Int = refl
reserved_there builtin.IsInstance = refl
reserved_there builtin.Len = refl
reserved_there builtin.List = refl
reserved_there builtin.Object = refl
reserved_there builtin.Print = refl
reserved_there builtin.Range = refl
reserved_there builtin.Str = refl
reserved_there builtin.Tuple = refl

-- a name that is not reserved to the tree is none to the scope
pub unreserved : (w : List ℕ) → keywords.is_reserved w ≡ false → is_builtin_name w ≡ false
unreserved w e = go (builtin_of w) refl
  where
    go : (o : Option Builtin) → builtin_of w ≡ o → is_some (builtin_of w) ≡ false
    go None is = ap is_some is
    go (Some b) is = absurd (false≢true (sym e ∙ (ap keywords.is_reserved (text_of_builtin w b is) ∙ reserved_there b)))

-- ---- the members held of a class

-- the name is held, by a field or by any member
abbrev HoldsField : List HeldMember → List ℕ → Type 0
HoldsField hs w = list_any (is_field_of w) hs ≡ true

abbrev HoldsName : List HeldMember → List ℕ → Type 0
HoldsName hs w = list_any (λ h. bytes_eq h.text w) hs ≡ true

field_is_name : (hs : List HeldMember) (w : List ℕ) → HoldsField hs w → HoldsName hs w
field_is_name [] w h = h
field_is_name (x ∷ hs) w h = elim (or_cases (is_field_of w x) (list_any (is_field_of w) hs) h) [
  | inl a ↦ or_left (bytes_eq x.text w) (list_any (λ y. bytes_eq y.text w) hs)
      (and_parts x.is_field (bytes_eq x.text w) a).1
  | inr b ↦ or_right (bytes_eq x.text w) (list_any (λ y. bytes_eq y.text w) hs) (field_is_name hs w b)
]

held_texts : (hs : List HeldMember) (w : List ℕ) → stopping.is_among (map held_text hs) w
    ≡ list_any (λ h. bytes_eq h.text w) hs
held_texts [] w = refl
held_texts (x ∷ hs) w = ap (λ z. bytes_eq x.text w || z) (held_texts hs w)

-- the held members have each field and each method of a class
record Covers (hs : List HeldMember) (class : facts.ClassFacts) : Type 0 where
  fields : (w : List ℕ) → is_some (field_by_name class.fields w) ≡ true → HoldsField hs w
  methods : (w : List ℕ) → is_some (method_by_name class.methods w) ≡ true → HoldsName hs w

-- no member is reserved, and none clashes
abbrev IsClear : List (List ℕ) → List HeldMember → List Member → Type 0
IsClear before hs [] = Unit {0}
IsClear before hs (x ∷ rest) = ((is_reserved_member x ≡ false) × (is_clash before hs x ≡ false))
    × IsClear ((name_of_member x).text ∷ before) hs rest

clear_of : (before : List (List ℕ)) (hs : List HeldMember) (ms : List Member) → clashes_among before hs ms ≡ []
    → reserved_members ms ≡ [] → IsClear before hs ms
clear_of before hs [] c r = tt
clear_of before hs (x ∷ rest) c r =
    let here = one_if (is_clash before hs x) (name_of_member x).place in
    let reserved = one_if (is_reserved_member x) (name_of_member x).place in (
      (
        none_there (is_reserved_member x) (name_of_member x).place (front_empty reserved (reserved_members rest) r),
        none_there (is_clash before hs x) (name_of_member x).place
            (front_empty here (clashes_among ((name_of_member x).text ∷ before) hs rest) c),
      ),
      clear_of ((name_of_member x).text ∷ before) hs rest (rest_empty here
          (clashes_among ((name_of_member x).text ∷ before) hs rest) c) (rest_empty reserved (reserved_members rest) r),
    )

-- where members are clear, all are held
all_held : (before : List (List ℕ)) (hs : List HeldMember) (ms : List Member) → IsClear before hs ms
    → own_members before hs ms ≡ map held_by ms
all_held before hs [] clear = refl
all_held before hs (x ∷ rest) clear =
    ap (λ b. (if b then [] else held_by x ∷ []) ++ own_members ((name_of_member x).text ∷ before) hs rest)
    (ap (λ b. b || is_clash before hs x) clear.0.0 ∙ clear.0.1)
    ∙ ap (λ l. held_by x ∷ l) (all_held ((name_of_member x).text ∷ before) hs rest clear.1)

module _ (m : Module) where
  -- the fields and methods of a class's own are among its members
  own_field_held : (base : facts.ClassFacts) (before : List (List ℕ)) (ms : List Member) (w : List ℕ)
      → is_some (field_by_name (own_fields m base before ms) w) ≡ true → HoldsField (map held_by ms) w
  own_field_held base before [] w h = absurd (false≢true h)
  own_field_held base before (method_member f ∷ rest) w h = own_field_held base (f.name.text ∷ before) rest w h
  own_field_held base before (field_member f ∷ rest) w h = go (binds_field base before f.name.text) h
      (λ h'. own_field_held base (f.name.text ∷ before) rest w h')
    where
      found : (x : Test) (p : TypedParameter) → bytes_eq w f.name.text ≡ x
          → is_some (cond x (Some p) (field_by_name (own_fields m base (f.name.text ∷ before) rest) w)) ≡ true
          → (is_some (field_by_name (own_fields m base (f.name.text ∷ before) rest) w) ≡ true
          → HoldsField (map held_by rest) w) → HoldsField (map held_by (field_member f ∷ rest)) w
      found true p is h others = or_left (bytes_eq f.name.text w) (list_any (is_field_of w) (map held_by rest))
          (same_text_back f.name.text w ∙ is)
      found false p is h others = or_right (bytes_eq f.name.text w) (list_any (is_field_of w) (map held_by rest))
          (others h)

      go : (x : Test)
          → is_some
          (field_by_name ((if x then record {
            name = f.name.text;
            type = read_ann m (bases_of m) f.annotation;
            has_default = is_some f.default;
          } ∷ [] else []) ++ own_fields m base (f.name.text ∷ before) rest) w) ≡ true
          → (is_some (field_by_name (own_fields m base (f.name.text ∷ before) rest) w) ≡ true
          → HoldsField (map held_by rest) w) → HoldsField (map held_by (field_member f ∷ rest)) w
      go true h others = found (bytes_eq w f.name.text)
          (record { name = f.name.text; type = read_ann m (bases_of m) f.annotation; has_default = is_some f.default })
          refl h others
      go false h others = or_right (bytes_eq f.name.text w) (list_any (is_field_of w) (map held_by rest)) (others h)

  own_method_held : (base : facts.ClassFacts) (c number : ℕ) (before : List (List ℕ)) (ms : List Member) (w : List ℕ)
      → is_some (method_by_name (own_methods m base c number before ms) w) ≡ true → HoldsName (map held_by ms) w
  own_method_held base c number before [] w h = absurd (false≢true h)
  own_method_held base c number before (field_member f ∷ rest) w h = or_right (bytes_eq f.name.text w)
      (list_any (λ y. bytes_eq y.text w) (map held_by rest)) (own_method_held base c number (f.name.text ∷ before) rest
      w h)
  own_method_held base c number before (method_member f ∷ rest) w h = go (binds_method base before f.name.text) h
      (λ h'. own_method_held base c (suc number) (f.name.text ∷ before) rest w h')
    where
      found : (x : Test) (p : Method) → bytes_eq w f.name.text ≡ x
          → is_some (cond x (Some p) (method_by_name (own_methods m base c (suc number) (f.name.text ∷ before) rest) w))
          ≡ true → (is_some (method_by_name (own_methods m base c (suc number) (f.name.text ∷ before) rest) w) ≡ true
          → HoldsName (map held_by rest) w) → HoldsName (map held_by (method_member f ∷ rest)) w
      found true p is h others = or_left (bytes_eq f.name.text w) (list_any (λ y. bytes_eq y.text w) (map held_by rest))
          (same_text_back f.name.text w ∙ is)
      found false p is h others = or_right (bytes_eq f.name.text w)
          (list_any (λ y. bytes_eq y.text w) (map held_by rest)) (others h)

      go : (x : Test) → is_some (method_by_name ((if x then facts.method_made m c number f ∷ [] else []) ++ own_methods
          m base c (suc number) (f.name.text ∷ before) rest) w) ≡ true
          → (is_some (method_by_name (own_methods m base c (suc number) (f.name.text ∷ before) rest) w) ≡ true
          → HoldsName (map held_by rest) w) → HoldsName (map held_by (method_member f ∷ rest)) w
      go true h others = found (bytes_eq w f.name.text) (facts.method_made m c number f) refl h others
      go false h others = or_right (bytes_eq f.name.text w) (list_any (λ y. bytes_eq y.text w) (map held_by rest))
          (others h)

  -- each member binds its name
  abbrev pub BindAll : facts.ClassFacts → List (List ℕ) → List Member → Type 0
  BindAll base before [] = Unit {0}
  BindAll base before (field_member f ∷ rest) = (binds_field base before f.name.text ≡ true)
      × BindAll base (f.name.text ∷ before) rest
  BindAll base before (method_member f ∷ rest) = (binds_method base before f.name.text ≡ true)
      × BindAll base (f.name.text ∷ before) rest

  bind_all : (base : facts.ClassFacts) (hs : List HeldMember) → Covers hs base
      → (before : List (List ℕ)) (ms : List Member) → IsClear before hs ms → BindAll base before ms
  bind_all base hs covers before [] clear = tt
  bind_all base hs covers before (field_member f ∷ rest) clear =
      let w = f.name.text in
      let r = or_parts (keywords.is_reserved w) (bytes_eq w (codes "mro")) clear.0.0 in
      let c = or_parts (stopping.is_among before w) (stopping.is_among (map held_text hs) w) clear.0.1 in
      let no_field : is_some (field_by_name base.fields w) ≡ false =
      false_from_ne_true (is_some (field_by_name base.fields w))
      (λ h. false≢true (sym c.1 ∙ (held_texts hs w ∙ field_is_name hs w (covers.fields w h)))) in
      let no_method : is_some (method_by_name base.methods w) ≡ false =
      false_from_ne_true (is_some (method_by_name base.methods w))
      (λ h. false≢true (sym c.1 ∙ (held_texts hs w ∙ covers.methods w h))) in (
        ap (λ x. not (x || bytes_eq w (codes "mro")) && (not (is_one_of w before)
            && not (is_some (field_by_name base.fields w) || is_some (method_by_name base.methods w))))
            (unreserved w r.0)
            ∙ ap (λ x. not x && (not (is_one_of w before) && not (is_some (field_by_name base.fields w)
            || is_some (method_by_name base.methods w)))) r.1
            ∙ ap (λ x. not x && not (is_some (field_by_name base.fields w) || is_some (method_by_name base.methods w)))
            (sym (among_same before w) ∙ c.0)
            ∙ ap (λ x. not (x || is_some (method_by_name base.methods w))) no_field
            ∙ ap not no_method,
        bind_all base hs covers (w ∷ before) rest clear.1,
      )
  bind_all base hs covers before (method_member f ∷ rest) clear =
      let w = f.name.text in
      let c = or_parts (stopping.is_among before w) (list_any (is_field_of w) hs) clear.0.1 in
      let no_field : is_some (field_by_name base.fields w) ≡ false =
      false_from_ne_true (is_some (field_by_name base.fields w)) (λ h. false≢true (sym c.1 ∙ covers.fields w h)) in (
        ap (λ x. not x && (not (is_one_of w before) && not (is_some (field_by_name base.fields w))))
            (unreserved w clear.0.0)
            ∙ ap (λ x. not x && not (is_some (field_by_name base.fields w))) (sym (among_same before w) ∙ c.0)
            ∙ ap not no_field,
        bind_all base hs covers (w ∷ before) rest clear.1,
      )

  -- ---- over items, the nearest first

  abbrev count : List Item → ℕ
  count [] = zero
  count (class_item p c ∷ before) = suc (count before)
  count (constant_item p c ∷ before) = count before
  count (def_item p f ∷ before) = count before

  abbrev names_before : List Item → List (List ℕ)
  names_before before = map (λ i. (name_of_item i).text) before

  -- a class among items is the one of its number, of a name that is bound first, and its members are clear
  record IsPlaced (before : List Item) (c : ClassDef) : Type 0 where
    number : slice_get (classes_in m.items) (count before) ≡ Some c
    first : is_first_binding before c.name ≡ true
    clear : IsClear [] (members_of before (option_text c.base)) c.members

  abbrev ArePlaced : List Item → Type 0
  ArePlaced [] = Unit {0}
  ArePlaced (class_item p c ∷ before) = IsPlaced before c × ArePlaced before
  ArePlaced (constant_item p c ∷ before) = ArePlaced before
  ArePlaced (def_item p f ∷ before) = ArePlaced before

  -- the name of a class stands among the names of the items
  named_before : (before : List Item) → ArePlaced before → (b : ℕ) (t : ClassDef) → b < count before
      → slice_get (classes_in m.items) b ≡ Some t → stopping.is_among (names_before before) t.name.text ≡ true
  named_before [] placed b t less is = absurd (omega arith)
  named_before (constant_item p c ∷ before) placed b t less is = or_right (bytes_eq c.name.text t.name.text)
      (stopping.is_among (names_before before) t.name.text) (named_before before placed b t less is)
  named_before (def_item p f ∷ before) placed b t less is = or_right (bytes_eq f.name.text t.name.text)
      (stopping.is_among (names_before before) t.name.text) (named_before before placed b t less is)
  named_before (class_item p c ∷ before) placed b t less is = elim (eq-or-lt_of_le (le_of_suc-le-suc less)) [
    | inl e ↦ or_left (bytes_eq c.name.text t.name.text) (stopping.is_among (names_before before) t.name.text)
        ((bytes_eq-Decides c.name.text t.name.text).1 (ap (λ (x : ClassDef). x.name.text)
        (same_Some _ _ (sym placed.0.number ∙ (ap (slice_get (classes_in m.items)) (sym e) ∙ is)))))
    | inr l ↦ or_right (bytes_eq c.name.text t.name.text) (stopping.is_among (names_before before) t.name.text)
        (named_before before placed.1 b t l is)
  ]

  find_either : (xs ys : List TypedParameter) (w : List ℕ) → is_some (field_by_name (xs ++ ys) w) ≡ true
      → (is_some (field_by_name xs w) ≡ true) ⊎ (is_some (field_by_name ys w) ≡ true)
  find_either xs ys w h = go (field_by_name xs w) (sym (ap is_some (find-append (λ p. bytes_eq w p.name) xs ys)) ∙ h)
    where
      go : (o : Option TypedParameter) → is_some (option_or o (field_by_name ys w)) ≡ true → (is_some o ≡ true)
          ⊎ (is_some (field_by_name ys w) ≡ true)
      go None e = inr e
      go (Some p) e = inl refl

  method_either : (xs ys : List Method) (w : List ℕ) → is_some (method_by_name (xs ++ ys) w) ≡ true
      → (is_some (method_by_name xs w) ≡ true) ⊎ (is_some (method_by_name ys w) ≡ true)
  method_either xs ys w h = go (method_by_name xs w) (sym (ap is_some (find-append (λ p. bytes_eq w p.name) xs ys)) ∙ h)
    where
      go : (o : Option Method) → is_some (option_or o (method_by_name ys w)) ≡ true → (is_some o ≡ true)
          ⊎ (is_some (method_by_name ys w) ≡ true)
      go None e = inr e
      go (Some p) e = inl refl

  -- the members held of a base and clear members cover the class over that base
  over_covers : (hs : List HeldMember) (c : ℕ) (class : ClassDef) (base : facts.ClassFacts) → Covers hs base
      → IsClear [] hs class.members → Covers (hs ++ own_members [] hs class.members) (class_over m c class base)
  over_covers hs c class base covers clear = record {
    fields = λ w h. list_any-append (is_field_of w) hs (own_members [] hs class.members)
        ∙ elim (find_either base.fields (own_fields m base [] class.members) w h) [
          | inl a ↦ or_left (list_any (is_field_of w) hs) (list_any (is_field_of w) (own_members [] hs class.members))
              (covers.fields w a)
          | inr b ↦ or_right (list_any (is_field_of w) hs) (list_any (is_field_of w) (own_members [] hs class.members))
              (ap (list_any (is_field_of w)) (all_held [] hs class.members clear) ∙ own_field_held base [] class.members
              w
              b)
        ];
    methods = λ w h. list_any-append (λ x. bytes_eq x.text w) hs (own_members [] hs class.members)
        ∙ elim (method_either (own_methods m base c 0 [] class.members) base.methods w h) [
          | inl a ↦ or_right (list_any (λ x. bytes_eq x.text w) hs) (list_any (λ x. bytes_eq x.text w)
              (own_members [] hs class.members)) (ap (list_any (λ x. bytes_eq x.text w))
              (all_held [] hs class.members clear) ∙ own_method_held base c 0 [] class.members w a)
          | inr b ↦ or_left (list_any (λ x. bytes_eq x.text w) hs) (list_any (λ x. bytes_eq x.text w)
              (own_members [] hs class.members)) (covers.methods w b)
        ];
  }

  nothing_covers : (hs : List HeldMember) → Covers hs facts.empty_class
  nothing_covers hs = record { fields = λ w h. absurd (false≢true h); methods = λ w h. absurd (false≢true h) }

  -- the members held of a base cover it, where the classes before are covered
  base_covers : (before : List Item) → ArePlaced before → (c : ClassDef) → slice_get (classes_in m.items) (count before)
      ≡ Some c → ((d : ℕ) (u : ClassDef) → d < count before → slice_get (classes_in m.items) d ≡ Some u
      → Covers (members_of before (Some u.name.text)) (class_facts_at (classes_of m) d))
      → Covers (members_of before (option_text c.base)) (base_class m (count before) c)
  base_covers before placed c number below = by_name c.base refl
    where
      by_number : (n : Name) → c.base ≡ Some n → (o : Option ℕ) → base_named m (count before) (Some n) ≡ o
          → Covers (members_of before (Some n.text)) (base_facts (classes_of m) o)
      by_number n named None e = nothing_covers (members_of before (Some n.text))
      by_number n named (Some d) e =
          let early = earlier_is (count before) d (resolve_in_module m n.text) e in
          let x = class_named m n.text d early.is in
          let behind = x.behind in
          let at : slice_get (classes_in m.items) d ≡ Some x.class = ap (slice_get (classes_in m.items)) (omega arith)
          ∙ x.is in
          subst (λ w. Covers (members_of before (Some w)) (class_facts_at (classes_of m) d)) x.named
          (below d x.class (below_class m (count before) d c number (ap (base_named m (count before)) named ∙ e))
          at)

      by_name : (o : Option Name) → c.base ≡ o → Covers (members_of before (option_text c.base))
          (base_class m (count before) c)
      by_name None e = subst (λ o. Covers (members_of before (option_text o))
          (base_facts (classes_of m) (base_named m (count before) o))) (sym e) (nothing_covers (members_of before None))
      by_name (Some n) e = subst (λ o. Covers (members_of before (option_text o))
          (base_facts (classes_of m) (base_named m (count before) o))) (sym e)
          (by_number n e (base_named m (count before) (Some n)) refl)

  -- the members held of each class among the items cover it
  held_covers : (before : List Item) → ArePlaced before → (b : ℕ) (t : ClassDef) → b < count before
      → slice_get (classes_in m.items) b ≡ Some t → Covers (members_of before (Some t.name.text))
      (class_facts_at (classes_of m) b)
  held_covers [] placed b t less is = absurd (omega arith)
  held_covers (constant_item p c ∷ before) placed b t less is = held_covers before placed b t less is
  held_covers (def_item p f ∷ before) placed b t less is = held_covers before placed b t less is
  held_covers (class_item p c ∷ before) placed b t less is = elim (eq-or-lt_of_le (le_of_suc-le-suc less)) [
    | inl e ↦ here e (base_covers before placed.1 c placed.0.number (λ d u l i. held_covers before placed.1 d u l i))
    | inr l ↦ there l (held_covers before placed.1 b t l is)
  ]
    where
      here : b ≡ count before → Covers (members_of before (option_text c.base)) (base_class m (count before) c)
          → Covers (members_of (class_item p c ∷ before) (Some t.name.text)) (class_facts_at (classes_of m) b)
      here e base =
          let same_class : c ≡ t = same_Some _ _ (sym placed.0.number
          ∙ (ap (slice_get (classes_in m.items)) (sym e) ∙ is)) in
          let found : (bytes_eq c.name.text t.name.text && is_first_binding before c.name) ≡ true =
          ap (λ x. x && is_first_binding before c.name) ((bytes_eq-Decides c.name.text t.name.text).1
          (ap (λ (x : ClassDef). x.name.text) same_class)) ∙ placed.0.first in
          subst (λ hs. Covers hs (class_facts_at (classes_of m) b))
          (sym (ap (λ x. if x then members_of before (option_text c.base) ++ own_members []
          (members_of before (option_text c.base)) c.members else members_of before (Some t.name.text)) found))
          (subst (λ x. Covers (members_of before (option_text c.base) ++ own_members []
          (members_of before (option_text c.base)) c.members) x)
          (sym (ap (class_facts_at (classes_of m)) e ∙ class_is m (count before) c placed.0.number))
          (over_covers (members_of before (option_text c.base)) (count before) c (base_class m (count before) c) base
          placed.0.clear))

      there : b < count before → Covers (members_of before (Some t.name.text)) (class_facts_at (classes_of m) b)
          → Covers (members_of (class_item p c ∷ before) (Some t.name.text)) (class_facts_at (classes_of m) b)
      there l covers = subst (λ hs. Covers hs (class_facts_at (classes_of m) b))
          (sym (ap (λ x. if x then members_of before (option_text c.base) ++ own_members []
          (members_of before (option_text c.base)) c.members else members_of before (Some t.name.text))
          (other (bytes_eq c.name.text t.name.text) refl))) covers
        where
          other : (x : Test) → bytes_eq c.name.text t.name.text ≡ x
              → (bytes_eq c.name.text t.name.text && is_first_binding before c.name) ≡ false
          other false e = ap (λ x. x && is_first_binding before c.name) e
          other true e =
              absurd
              (false≢true (sym (ap (λ x. not x && not (keywords.is_reserved c.name.text))
              (ap (stopping.is_among (names_before before)) ((bytes_eq-Decides c.name.text t.name.text).0 e)
              ∙ named_before before placed.1 b t l is)) ∙ placed.0.first))

  -- item by item
  walk :
      (before rest : List Item) → ArePlaced before → ((i : ℕ) → slice_get (classes_in m.items) (count before + i)
      ≡ slice_get (classes_in rest) i)
      → clashing_in before rest ≡ [] → reserved_in_classes rest ≡ [] → reserved_among (map name_of_item rest) ≡ []
      → bound_again (names_before before) (map name_of_item rest) ≡ []
      → (i : ℕ) (class : ClassDef) → slice_get (classes_in rest) i ≡ Some class
      → BindAll (base_class m (count before + i) class) [] class.members
  walk before [] placed at clash members names again i class is = absurd (grind (arith, is))
  walk before (constant_item p c ∷ rest) placed at clash members names again i class is =
      walk (constant_item p c ∷ before) rest placed at clash members
      (rest_empty (one_if (keywords.is_reserved c.name.text) c.name.place) (reserved_among (map name_of_item rest))
      names)
      (rest_empty (one_if (stopping.is_among (names_before before) c.name.text
      && not (keywords.is_reserved c.name.text)) c.name.place)
      (bound_again (c.name.text ∷ names_before before) (map name_of_item rest)) again) i class is
  walk before (def_item p f ∷ rest) placed at clash members names again i class is =
      walk (def_item p f ∷ before) rest placed at clash members
      (rest_empty (one_if (keywords.is_reserved f.name.text) f.name.place) (reserved_among (map name_of_item rest))
      names)
      (rest_empty (one_if (stopping.is_among (names_before before) f.name.text
      && not (keywords.is_reserved f.name.text)) f.name.place)
      (bound_again (f.name.text ∷ names_before before) (map name_of_item rest)) again) i class is
  walk before (class_item p c ∷ rest) placed at clash members names again i class is =
      by_number i is (λ j e. walk (class_item p c ∷ before) rest (here, placed)
      (λ k. ap (slice_get (classes_in m.items)) (omega arith) ∙ at (suc k)) clash_rest members_rest names_rest
      again_rest j class e)
    where
      held : List HeldMember
      held = members_of before (option_text c.base)

      clash_rest : clashing_in (class_item p c ∷ before) rest ≡ []
      clash_rest = rest_empty (clashes_among [] held c.members) (clashing_in (class_item p c ∷ before) rest) clash

      members_rest : reserved_in_classes rest ≡ []
      members_rest = rest_empty (reserved_members c.members) (reserved_in_classes rest) members

      names_rest : reserved_among (map name_of_item rest) ≡ []
      names_rest = rest_empty (one_if (keywords.is_reserved c.name.text) c.name.place)
          (reserved_among (map name_of_item rest)) names

      again_rest : bound_again (c.name.text ∷ names_before before) (map name_of_item rest) ≡ []
      again_rest = rest_empty (one_if (stopping.is_among (names_before before) c.name.text
          && not (keywords.is_reserved c.name.text)) c.name.place)
          (bound_again (c.name.text ∷ names_before before) (map name_of_item rest)) again

      free : keywords.is_reserved c.name.text ≡ false
      free = none_there (keywords.is_reserved c.name.text) c.name.place
          (front_empty (one_if (keywords.is_reserved c.name.text) c.name.place) (reserved_among (map name_of_item rest))
          names)

      new : stopping.is_among (names_before before) c.name.text ≡ false
      new = sym (and-true (stopping.is_among (names_before before) c.name.text))
          ∙ (sym (ap (λ x. stopping.is_among (names_before before) c.name.text && not x) free)
          ∙ none_there (stopping.is_among (names_before before) c.name.text && not (keywords.is_reserved c.name.text))
          c.name.place
          (front_empty (one_if (stopping.is_among (names_before before) c.name.text
          && not (keywords.is_reserved c.name.text)) c.name.place)
          (bound_again (c.name.text ∷ names_before before) (map name_of_item rest)) again))

      here : IsPlaced before c
      here = record {
        number = ap (slice_get (classes_in m.items)) (omega arith) ∙ at 0;
        first = ap (λ x. not x && not (keywords.is_reserved c.name.text)) new ∙ ap not free;
        clear = clear_of [] held c.members (front_empty (clashes_among [] held c.members)
            (clashing_in (class_item p c ∷ before) rest) clash) (front_empty (reserved_members c.members)
            (reserved_in_classes rest) members);
      }

      by_number : (j : ℕ) → slice_get (c ∷ classes_in rest) j ≡ Some class
          → ((k : ℕ) → slice_get (classes_in rest) k ≡ Some class → BindAll
          (base_class m (suc (count before) + k) class) [] class.members)
          → BindAll (base_class m (count before + j) class) [] class.members
      by_number zero e others =
          subst (λ x. BindAll (base_class m (count before + zero) x) [] x.members) (same_Some _ _ e)
          (subst (λ k. BindAll (base_class m k c) [] c.members) (omega arith)
          (bind_all (base_class m (count before) c) held (base_covers before placed c here.number
          (λ d u l x. held_covers before placed d u l x)) [] c.members here.clear))
      by_number (suc j) e others = subst (λ k. BindAll (base_class m k class) [] class.members) (omega arith)
          (others j e)

-- ---- a module without silent errors

empty_of : (ps : List Place) → ((p : Place) → Contains ps p → ⊥) → ps ≡ []
empty_of [] h = refl
empty_of (p ∷ ps) h = absurd (h p (0, omega arith, refl))

module _ (m : Module) (labels : Labelling m) (lawful : IsLawful m labels) (clean : HasNoSilentError m) where
  pub none_clash : clashing_members m ≡ []
  none_clash = empty_of (clashing_members m) λ p h. clean (finding p E06)
      (record {
        labels = labels;
        lawful = lawful;
        found =
            inr (inl (findings.member (record { code = refl; stops = h })));
      }) (by_code tt)

  pub none_reserved : reserved_bound m ≡ []
  none_reserved = empty_of (reserved_bound m) λ p h. clean (finding p E29)
      (record { labels = labels; lawful = lawful; found = inl (scope.stopping tt h) }) (by_code tt)

  pub none_twice : twice m ≡ []
  none_twice = empty_of (twice m) λ p h. clean (finding p E01)
      (record { labels = labels; lawful = lawful; found = inl (scope.stopping tt h) }) (by_code tt)

  -- each member of each class binds its name
  pub members_bind : (c : ℕ) (class : ClassDef) → slice_get (classes_in m.items) c ≡ Some class
      → BindAll m (base_class m c class) [] class.members
  members_bind c class is =
      let others = rest_empty (reserved_among (map name_of_item m.items))
      (reserved_in_classes m.items ++ stopping.of_defs stopping.reserved_in_def stopping.reserved_in_def m.items)
      none_reserved in
      subst (λ k. BindAll m (base_class m k class) [] class.members) (omega arith)
      (walk m [] m.items tt (λ i. ap (slice_get (classes_in m.items)) (omega arith)) none_clash
      (front_empty (reserved_in_classes m.items) (stopping.of_defs stopping.reserved_in_def stopping.reserved_in_def
      m.items) others)
      (front_empty (reserved_among (map name_of_item m.items)) (reserved_in_classes m.items ++ stopping.of_defs
      stopping.reserved_in_def stopping.reserved_in_def m.items) none_reserved)
      (front_empty (bound_again [] (map name_of_item m.items)) (stopping.of_defs (stopping.params_again [])
      (stopping.params_again (codes "self" ∷ [])) m.items ++ (stopping.given_in_constants m.items
      ++ stopping.of_defs stopping.given_in_def stopping.given_in_def m.items)) none_twice)
      c class is)
