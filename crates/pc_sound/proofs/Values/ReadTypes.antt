-- The types read from the annotations of a text have no Never, and neither have the fields of its classes.
use Rattle.std.proofs.Common.{◌++◌, ℕ, suc, Bool as Test, true, List, [], ◌∷◌, Option, Some, None, refl, sym, subst}
use Rattle.std.proofs.Common.{inl, inr}
use Rattle.std.proofs.lemmas.Bool.{cond_both}
use Rattle.std.specs.Prelude.{if◌then◌else◌, is_some, nat_le, unwrap_or}
use Rattle.pc_token.specs.declared.token.Operator.{Operator}
use Rattle.pc_token.specs.Lexeme.{Lexeme}
use Rattle.pc_tree.specs.Tree.{Ann, Anns, named, none_type, applied, applied_empty, no_anns, more_anns, Member}
use Rattle.pc_tree.specs.Tree.{field_member, method_member, ClassDef, Item, constant_item, class_item, def_item, Module}
use Rattle.pc_tree.specs.Tree as tree
use Rattle.pc_grammar.specs.Grammar.Annotations.{AreSeveral, SpellsAnn, Separated, Annotation}
use Rattle.pc_grammar.specs.Grammar.Modules.{SpellsMembers, ClassBody, SpellsItems, SpellsModule}
use Rattle.pc_scope.specs.declared.resolution.Builtin.{Builtin}
use Rattle.pc_scope.specs.declared.resolution.Builtin.TheVariants as builtin
use Rattle.pc_scope.specs.declared.resolution.NameMeaning.{NameMeaning}
use Rattle.pc_scope.specs.declared.resolution.NameMeaning.TheVariants as meaning
use Rattle.pc_scope.specs.Resolution.{resolve_in_module}
use Rattle.pc_scope.specs.Bindings.{classes_in}
use Rattle.pc_types.specs.Tree.{Tree, Any, Never, Int, Str}
use Rattle.pc_types.specs.Below.{Bases}
use Rattle.pc_types.specs.Shape.{nodes, node_limit, trees, ahead, union}
use Rattle.pc_types.specs.Join.{is_before}
use Rattle.pc_annotations.specs.Annotations.{atom, named_type, dict_type, built_type, applied_type, empty_type, is_union}
use Rattle.pc_annotations.specs.Annotations.{insert_member, in_union_order, union_type, reading, read_anns, read_ann}
use Rattle.pc_annotations.specs.Bases.{bases_of, base_named}
use Rattle.pc_class.specs.Facts as facts
use Rattle.pc_class.specs.Facts.{TypedParameter, class_facts_at, base_facts, binds_field, own_fields}
use Rattle.pc_class.specs.Facts.{class_facts_behind, classes_behind, classes_of}
use Rattle.pc_sound.specs.Needed.{HasNoNever, HaveNoNever, NoneHasNever, FieldsHaveNoNever}
use Rattle.pc_sound.proofs.Values.Requirements.{fields_without}

-- ---- types

-- the type made, if any, has no Never
abbrev HasNoNeverIfAny : Option Tree → Type 0
HasNoNeverIfAny None = Unit {0}
HasNoNeverIfAny (Some t) = HasNoNever t

without_or : (o : Option Tree) → HasNoNeverIfAny o → HasNoNever (unwrap_or o Any)
without_or None n = tt
without_or (Some t) n = n

-- none of the types has Never
abbrev AllHaveNone : List Tree → Type 0
AllHaveNone [] = Unit {0}
AllHaveNone (t ∷ ts) = HasNoNever t × AllHaveNone ts

-- there are types, and none of them has Never
abbrev SomeHaveNone : List Tree → Type 0
SomeHaveNone [] = ⊥
SomeHaveNone (t ∷ ts) = HasNoNever t × AllHaveNone ts

all_of_some : (ts : List Tree) → SomeHaveNone ts → AllHaveNone ts
all_of_some [] n = tt
all_of_some (t ∷ ts) n = n

atom_without : (x : Test) (b : Builtin) → HasNoNeverIfAny (atom x b)
atom_without x builtin.Int = tt
atom_without x builtin.Bool = tt
atom_without x builtin.Str = tt
atom_without x builtin.Object = tt
atom_without x builtin.Any = cond_both x (Some Any) None HasNoNeverIfAny (λ e. tt) (λ e. tt)
atom_without x _ = tt

named_without : (x : Test) (r : NameMeaning) → HasNoNeverIfAny (named_type x r)
named_without x (meaning.Builtin b) = atom_without x b
named_without x (meaning.Class c) = tt
named_without x _ = tt

empty_without : (r : NameMeaning) → HasNoNeverIfAny (empty_type r)
empty_without (meaning.Builtin builtin.Tuple) = tt
empty_without _ = tt

trees_without : (ts : List Tree) → AllHaveNone ts → HaveNoNever (trees ts)
trees_without [] n = tt
trees_without (t ∷ ts) n = (n.0, trees_without ts n.1)

dict_without : (k v : Tree) → HasNoNever v → HasNoNeverIfAny (dict_type k v)
dict_without Int v n = (tt, n)
dict_without Str v n = (tt, n)
dict_without _ v n = tt

built_without : (b : Builtin) (ts : List Tree) → AllHaveNone ts → HasNoNeverIfAny (built_type b ts)
built_without builtin.List (t ∷ []) n = n.0
built_without builtin.Dict (k ∷ v ∷ []) n = dict_without k v n.1.0
built_without builtin.Tuple (t ∷ ts) n = trees_without (t ∷ ts) n
built_without _ _ n = tt

applied_without : (r : NameMeaning) (ts : List Tree) → AllHaveNone ts → HasNoNeverIfAny (applied_type r ts)
applied_without (meaning.Builtin b) ts n = built_without b ts n
applied_without _ ts n = tt

ahead_without : (m t : Tree) → HasNoNever m → HasNoNever t → HasNoNever (ahead m t)
ahead_without m Never n h = absurd h
ahead_without m t n h = (n, h)

-- the union of some types without Never has none; that of no types is Never itself
union_without : (ts : List Tree) → SomeHaveNone ts → HasNoNever (union ts)
union_without [] n = absurd n
union_without (t ∷ []) n = n.0
union_without (t ∷ u ∷ us) n = ahead_without t (union (u ∷ us)) n.0 (union_without (u ∷ us) n.1)

placed_without : (m : Tree) (ts : List Tree) → HasNoNever m → AllHaveNone ts → SomeHaveNone (insert_member m ts)
placed_without m [] h n = (h, tt)
placed_without m (t ∷ ts) h n =
    let rest = all_of_some (insert_member m ts) (placed_without m ts h n.1) in
    cond_both (is_before m t) (m ∷ t ∷ ts) (t ∷ insert_member m ts) SomeHaveNone (λ e. (h, n)) (λ e. (n.0, rest))

order_without : (ts : List Tree) → AllHaveNone ts → AllHaveNone (in_union_order ts)
order_without [] n = tt
order_without (t ∷ ts) n =
    let rest = order_without ts n.1 in
    all_of_some (insert_member t (in_union_order ts)) (placed_without t (in_union_order ts) n.0 rest)

order_some : (ts : List Tree) → SomeHaveNone ts → SomeHaveNone (in_union_order ts)
order_some [] n = absurd n
order_some (t ∷ ts) n = placed_without t (in_union_order ts) n.0 (order_without ts n.1)

union_type_without : (bases : Bases) (ts : List Tree) → SomeHaveNone ts → HasNoNeverIfAny (union_type bases ts)
union_type_without bases ts n =
    let made = union_without (in_union_order ts) (order_some ts n) in
    cond_both (is_union bases ts) (Some (union (in_union_order ts))) None HasNoNeverIfAny (λ e. made) (λ e. tt)

module _ (m : Module) where
  -- ---- annotations

  module _ (bases : Bases) where
    -- the types that several annotations are read as have no Never
    abbrev ReadWithout : Anns → Type 0
    ReadWithout anns = AllHaveNone (read_anns m bases anns)

    some_read : (anns : Anns) → AreSeveral anns → ReadWithout anns → SomeHaveNone (read_anns m bases anns)
    some_read no_anns s n = absurd s
    some_read (more_anns a rest) s n = n

    mutual
      reading_without :
          (a : Ann) (whole : Test) (ts : List Lexeme) → SpellsAnn a whole ts → HasNoNever (reading m bases a)
      reading_without (named n) whole ts h =
          let r = resolve_in_module m n.text in
          without_or (named_type m.imports_any r) (named_without m.imports_any r)
      reading_without (none_type p) whole ts h = tt
      reading_without (applied p head arguments) whole ts h =
          let r = resolve_in_module m head.text in
          let types = read_anns m bases arguments in
          let n = readings_without arguments _ _ _ h.1.right.right.left in
          without_or (applied_type r types) (applied_without r types n)
      reading_without (applied_empty p head) whole ts h =
          let r = resolve_in_module m head.text in
          without_or (empty_type r) (empty_without r)
      reading_without (tree.union p parts) whole ts h =
          let types = read_anns m bases parts in
          let n = some_read parts h.1 (readings_without parts _ _ _ h.2.1) in
          without_or (union_type bases types) (union_type_without bases types n)

      readings_without :
          (anns : Anns) (o : Operator) (whole : Test) (ts : List Lexeme) → Separated anns o whole ts
          → ReadWithout anns
      readings_without no_anns o whole ts h = absurd h
      readings_without (more_anns a rest) o whole ts h = (
        reading_without a whole _ h.left,
        elim h.right [
          | inl more ↦ readings_without rest o whole _ more.right
          | inr last ↦ subst ReadWithout (sym last.0) tt
        ],
      )

    -- an annotation of a text is read as a type without Never
    pub read_ann_without : (a : Ann) (ts : List Lexeme) → Annotation a ts → HasNoNever (read_ann m bases a)
    read_ann_without a ts h =
        let t = reading m bases a in
        cond_both (nat_le (nodes t) node_limit) t Any HasNoNever (λ e. reading_without a true ts h) (λ e. tt)

  -- ---- classes

  fields_append : (ps qs : List TypedParameter) → NoneHasNever ps → NoneHasNever qs → NoneHasNever (ps ++ qs)
  fields_append [] qs h k = k
  fields_append (p ∷ ps) qs h k = (h.0, fields_append ps qs h.1 k)

  classes_append :
      (cs ds : List facts.ClassFacts) → FieldsHaveNoNever cs → FieldsHaveNoNever ds → FieldsHaveNoNever (cs ++ ds)
  classes_append [] ds h k = k
  classes_append (c ∷ cs) ds h k = (h.0, classes_append cs ds h.1 k)

  -- the fields that members of a text bind
  own_fields_without :
      (base : facts.ClassFacts) (before : List (List ℕ)) (ms : List Member) (ts : List Lexeme) → SpellsMembers ms ts
      → NoneHasNever (own_fields m base before ms)
  own_fields_without base before [] ts h = tt
  own_fields_without base before (field_member f ∷ ms) ts h =
      let type = read_ann m (bases_of m) f.annotation in
      let field : TypedParameter = record { name = f.name.text; type = type; has_default = is_some f.default } in
      let n = read_ann_without (bases_of m) f.annotation _ h.left.right.right.left in
      let binds = binds_field base before f.name.text in
      let after = f.name.text ∷ before in
      fields_append (if binds then field ∷ [] else []) (own_fields m base after ms)
      (cond_both binds (field ∷ []) [] NoneHasNever (λ e. (n, tt)) (λ e. tt))
      (own_fields_without base after ms _ h.right)
  own_fields_without base before (method_member f ∷ ms) ts h =
      own_fields_without base (f.name.text ∷ before) ms _ h.right

  inherited_without :
      (earlier : List facts.ClassFacts) (b : Option ℕ) → FieldsHaveNoNever earlier
      → NoneHasNever (base_facts earlier b).fields
  inherited_without earlier None h = tt
  inherited_without earlier (Some b) h = fields_without earlier b h

  -- the members of each class stand in a text
  abbrev AreSpelled : List ClassDef → Type 0
  AreSpelled [] = Unit {0}
  AreSpelled (c ∷ cs) = ((ts : List Lexeme) × SpellsMembers c.members ts) × AreSpelled cs

  behind_without :
      (earlier : List facts.ClassFacts) (c : ℕ) (cs : List ClassDef) → AreSpelled cs → FieldsHaveNoNever earlier
      → FieldsHaveNoNever (classes_behind m earlier c cs)
  behind_without earlier c [] s h = h
  behind_without earlier c (class ∷ cs) s h =
      let base = base_facts earlier (base_named m c class.base) in
      let own = own_fields_without base [] class.members s.0.0 s.0.1 in
      let all = inherited_without earlier (base_named m c class.base) h in
      let n = fields_append base.fields (own_fields m base [] class.members) all own in
      behind_without (earlier ++ class_facts_behind m earlier c class ∷ []) (suc c) cs s.1
      (classes_append earlier (class_facts_behind m earlier c class ∷ []) h (n, tt))

  body_spelled :
      (ms : List Member) (ts : List Lexeme) → ClassBody ms ts → (us : List Lexeme) × SpellsMembers ms us
  body_spelled [] ts h = ([], refl)
  body_spelled (d ∷ ms) ts h = (ts, h)

  classes_spelled : (items : List Item) (ts : List Lexeme) → SpellsItems items ts → AreSpelled (classes_in items)
  classes_spelled [] ts h = tt
  classes_spelled (constant_item p c ∷ items) ts h = classes_spelled items _ h.right
  classes_spelled (class_item p c ∷ items) ts h =
      let suite = h.left.1.right.right.right.right.right.right in
      (body_spelled c.members _ suite.right.right.right.left, classes_spelled items _ h.right)
  classes_spelled (def_item p f ∷ items) ts h = classes_spelled items _ h.right

  -- no field of a class has Never, where tokens spell the module
  pub module_fields_without : (ts : List Lexeme) → SpellsModule m ts → FieldsHaveNoNever (classes_of m)
  unfolding classes_of
  module_fields_without ts h =
      behind_without [] 0 (classes_in m.items) (classes_spelled m.items _ h.right.right.right.left) tt
