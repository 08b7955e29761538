-- Annotations are read as types whose dicts have int or str as key and whose classes are as asked; so fields,
-- parameters and returns of a module have such types.
use Rattle.std.proofs.Common.{◌≡◌, ℕ, zero, suc, List, [], ◌∷◌, ◌++◌, map, refl, subst, arith}
use Rattle.std.specs.Prelude.{Bool as Test, true, false, if◌then◌else◌, nat_le, Option, Some, None, slice_get, is_some}
use Rattle.std.proofs.lemmas.Option.{same_Some}
use Rattle.pc_tree.specs.Tree.{Ann, Anns, named, none_type, applied, applied_empty, no_anns, more_anns, Param, FuncDef}
use Rattle.pc_tree.specs.Tree.{Member, field_member, method_member, ClassDef, Module}
use Rattle.pc_tree.specs.Tree as tree
use Rattle.pc_scope.specs.Resolution.{index_of, resolve_in_module, resolve_among}
use Rattle.pc_scope.specs.Bindings.{functions_in, classes_in}
use Rattle.pc_scope.specs.declared.resolution.Builtin.{Builtin}
use Rattle.pc_scope.specs.declared.resolution.Builtin.TheVariants as builtin
use Rattle.pc_scope.specs.declared.resolution.NameMeaning.{NameMeaning}
use Rattle.pc_scope.specs.declared.resolution.NameMeaning.TheVariants as meaning
use Rattle.pc_types.specs.Tree.{Tree, Any, Int, Str}
use Rattle.pc_types.specs.Below.{Bases}
use Rattle.pc_types.specs.Shape.{nodes, node_limit, union}
use Rattle.pc_types.specs.Join.{is_before}
use Rattle.pc_annotations.specs.Annotations.{atom, named_type, dict_type, built_type, applied_type, empty_type, is_union}
use Rattle.pc_annotations.specs.Annotations.{insert_member, in_union_order, union_type, reading, read_anns, read_ann}
use Rattle.pc_annotations.specs.Annotations.{read_option}
use Rattle.pc_class.specs.Bases.{bases_of, base_named}
use Rattle.pc_class.specs.Facts.{TypedParameter, Method, ClassFacts, class_facts_at, base_facts, binds_field}
use Rattle.pc_class.specs.Facts.{binds_method, parameters_of, return_type, own_fields, own_methods, class_facts_behind}
use Rattle.pc_class.specs.Facts.{classes_behind, classes_of}
use Rattle.pc_rules.specs.Context.{Signature}
use Rattle.pc_rules.specs.Signatures.{signature_of, signatures_of, body_context, initializer_context}
use Rattle.pc_sound.proofs.Regular.RegularParts.{Asked, ClassAsked, IsRegular, NamesAsked}
use Rattle.pc_sound.proofs.Regular.RegularTypes.{OptionRegular, EachRegular, union_regular}
use Rattle.pc_sound.proofs.Regular.RegularOperations.{or_regular, trees_regular}
use Rattle.pc_sound.proofs.Regular.RegularCalls.{ParametersRegular, SignatureRegular, MethodsRegular, ContextRegular}
use Rattle.pc_sound.proofs.Modules.ModuleNames.{outside_class}

module _ (asked : Asked) where
  atom_regular : (imports : Test) (b : Builtin) → OptionRegular asked (atom imports b)
  atom_regular imports builtin.Int = tt
  atom_regular imports builtin.Bool = tt
  atom_regular imports builtin.Str = tt
  atom_regular imports builtin.Object = tt
  atom_regular true builtin.Any = tt
  atom_regular false builtin.Any = tt
  atom_regular imports _ = tt

  named_regular : (imports : Test) (r : NameMeaning) → ((c : ℕ) → r ≡ meaning.Class c → ClassAsked asked c)
      → OptionRegular asked (named_type imports r)
  named_regular imports (meaning.Builtin b) meant = atom_regular imports b
  named_regular imports (meaning.Class c) meant = meant c refl
  named_regular imports _ meant = tt

  dict_regular : (k v : Tree) → IsRegular asked v → OptionRegular asked (dict_type k v)
  dict_regular Int v h = (tt, h)
  dict_regular Str v h = (tt, h)
  dict_regular _ v h = tt

  built_regular : (b : Builtin) (ts : List Tree) → EachRegular asked ts → OptionRegular asked (built_type b ts)
  built_regular builtin.List (t ∷ []) h = h.0
  built_regular builtin.Dict (k ∷ v ∷ []) h = dict_regular k v h.1.0
  built_regular builtin.Tuple (t ∷ ts) h = trees_regular asked (t ∷ ts) h
  built_regular _ _ h = tt

  applied_regular : (r : NameMeaning) (ts : List Tree) → EachRegular asked ts → OptionRegular asked (applied_type r ts)
  applied_regular (meaning.Builtin b) ts h = built_regular b ts h
  applied_regular _ ts h = tt

  empty_regular : (r : NameMeaning) → OptionRegular asked (empty_type r)
  empty_regular (meaning.Builtin builtin.Tuple) = tt
  empty_regular _ = tt

  placed_regular : (m : Tree) (ms : List Tree) → IsRegular asked m → EachRegular asked ms
      → EachRegular asked (insert_member m ms)
  placed_regular m [] h k = (h, tt)
  placed_regular m (n ∷ ns) h k = go (is_before m n) (placed_regular m ns h k.1)
    where
      go : (x : Test) → EachRegular asked (insert_member m ns) → EachRegular asked
          (if x then m ∷ n ∷ ns else n ∷ insert_member m ns)
      go true r = (h, k)
      go false r = (k.0, r)

  order_regular : (ms : List Tree) → EachRegular asked ms → EachRegular asked (in_union_order ms)
  order_regular [] h = tt
  order_regular (m ∷ ms) h = placed_regular m (in_union_order ms) h.0 (order_regular ms h.1)

  union_type_regular : (bases : Bases) (ts : List Tree) → EachRegular asked ts
      → OptionRegular asked (union_type bases ts)
  union_type_regular bases ts h = go (is_union bases ts)
    where
      go : (x : Test) → OptionRegular asked (if x then Some (union (in_union_order ts)) else None)
      go true = union_regular asked (in_union_order ts) (order_regular ts h)
      go false = tt

  module _ (m : Module) (meant : NamesAsked asked (resolve_in_module m)) (bases : Bases) where
    mutual
      reading_regular : (a : Ann) → IsRegular asked (reading m bases a)
      reading_regular (named n) = or_regular asked (named_type m.imports_any (resolve_in_module m n.text)) Any
          (named_regular m.imports_any (resolve_in_module m n.text) (meant n.text)) tt
      reading_regular (none_type p) = tt
      reading_regular (applied p head args) = or_regular asked (applied_type (resolve_in_module m head.text)
          (read_anns m bases args)) Any (applied_regular (resolve_in_module m head.text) (read_anns m bases args)
          (readings_regular args)) tt
      reading_regular (applied_empty p head) = or_regular asked (empty_type (resolve_in_module m head.text)) Any
          (empty_regular (resolve_in_module m head.text)) tt
      reading_regular (tree.union p parts) = or_regular asked (union_type bases (read_anns m bases parts)) Any
          (union_type_regular bases (read_anns m bases parts) (readings_regular parts)) tt

      readings_regular : (parts : Anns) → EachRegular asked (read_anns m bases parts)
      readings_regular no_anns = tt
      readings_regular (more_anns a rest) = (reading_regular a, readings_regular rest)

    pub ann_regular : (a : Ann) → IsRegular asked (read_ann m bases a)
    ann_regular a = go (nat_le (nodes (reading m bases a)) node_limit)
      where
        go : (x : Test) → IsRegular asked (if x then reading m bases a else Any)
        go true = reading_regular a
        go false = tt

    pub option_ann_regular : (o : Option Ann) → IsRegular asked (read_option m bases o)
    option_ann_regular None = tt
    option_ann_regular (Some a) = ann_regular a

  -- ---- parameters, fields, methods

  module _ (m : Module) (meant : NamesAsked asked (resolve_in_module m)) where
    pub parameters_regular : (ps : List Param) → ParametersRegular asked (parameters_of m ps)
    parameters_regular [] = tt
    parameters_regular (p ∷ ps) = (option_ann_regular m meant (bases_of m) p.annotation, parameters_regular ps)

    parameters_append : (ps qs : List TypedParameter) → ParametersRegular asked ps → ParametersRegular asked qs
        → ParametersRegular asked (ps ++ qs)
    parameters_append [] qs h k = k
    parameters_append (p ∷ ps) qs h k = (h.0, parameters_append ps qs h.1 k)

    methods_append : (ps qs : List Method) → MethodsRegular asked ps → MethodsRegular asked qs
        → MethodsRegular asked (ps ++ qs)
    methods_append [] qs h k = k
    methods_append (p ∷ ps) qs h k = (h.0, methods_append ps qs h.1 k)

    fields_regular : (base : ClassFacts) (before : List (List ℕ)) (ms : List Member)
        → ParametersRegular asked (own_fields m base before ms)
    fields_regular base before [] = tt
    fields_regular base before (field_member f ∷ rest) = go (binds_field base before f.name.text)
        (fields_regular base (f.name.text ∷ before) rest)
      where
        go : (x : Test) → ParametersRegular asked (own_fields m base (f.name.text ∷ before) rest)
            → ParametersRegular asked
            ((if x then record {
              name = f.name.text;
              type = read_ann m (bases_of m) f.annotation;
              has_default =
                  is_some f.default;
            } ∷ [] else []) ++ own_fields m base (f.name.text ∷ before) rest)
        go true h = (ann_regular m meant (bases_of m) f.annotation, h)
        go false h = h
    fields_regular base before (method_member f ∷ rest) = fields_regular base (f.name.text ∷ before) rest

    methods_regular : (base : ClassFacts) (c number : ℕ) (before : List (List ℕ)) (ms : List Member)
        → MethodsRegular asked (own_methods m base c number before ms)
    methods_regular base c number before [] = tt
    methods_regular base c number before (field_member f ∷ rest) = methods_regular base c number (f.name.text ∷ before)
        rest
    methods_regular base c number before (method_member f ∷ rest) = go (binds_method base before f.name.text)
        (methods_regular base c (suc number) (f.name.text ∷ before) rest)
      where
        go : (x : Test) → MethodsRegular asked (own_methods m base c (suc number) (f.name.text ∷ before) rest)
            → MethodsRegular asked
            ((if x then record {
              name = f.name.text;
              owner = c;
              number = number;
              place = f.name.place;
              parameters =
                  parameters_of m f.params;
              returns = return_type m f;
            } ∷ [] else []) ++ own_methods m base c (suc number)
            (f.name.text ∷ before) rest)
        go true h = ((parameters_regular f.params, option_ann_regular m meant (bases_of m) f.returns), h)
        go false h = h

    -- a class whose fields and methods are of such types
    abbrev ClassRegular : ClassFacts → Type 0
    ClassRegular c = ParametersRegular asked c.fields × MethodsRegular asked c.methods

    abbrev ClassesRegular : List ClassFacts → Type 0
    ClassesRegular [] = Unit {0}
    ClassesRegular (c ∷ cs) = ClassRegular c × ClassesRegular cs

    at_regular : (cs : List ClassFacts) (i : ℕ) → ClassesRegular cs → ClassRegular (class_facts_at cs i)
    at_regular [] i h = (tt, tt)
    at_regular (c ∷ cs) zero h = h.0
    at_regular (c ∷ cs) (suc i) h = at_regular cs i h.1

    inherited_regular : (cs : List ClassFacts) (o : Option ℕ) → ClassesRegular cs → ClassRegular (base_facts cs o)
    inherited_regular cs None h = (tt, tt)
    inherited_regular cs (Some i) h = at_regular cs i h

    behind_regular : (cs : List ClassFacts) (c : ℕ) (d : ClassDef) → ClassesRegular cs
        → ClassRegular (class_facts_behind m cs c d)
    behind_regular cs c d h =
        let base = base_facts cs (base_named m c d.base) in
        let b = inherited_regular cs (base_named m c d.base) h in (
          parameters_append base.fields (own_fields m base [] d.members) b.0 (fields_regular base [] d.members),
          methods_append (own_methods m base c 0 [] d.members) base.methods (methods_regular base c 0 [] d.members)
              b.1,
        )

    more_regular : (cs : List ClassFacts) (c : ClassFacts) → ClassesRegular cs → ClassRegular c
        → ClassesRegular (cs ++ c ∷ [])
    more_regular [] c h k = (k, tt)
    more_regular (x ∷ cs) c h k = (h.0, more_regular cs c h.1 k)

    all_behind_regular : (cs : List ClassFacts) (c : ℕ) (ds : List ClassDef) → ClassesRegular cs
        → ClassesRegular (classes_behind m cs c ds)
    all_behind_regular cs c [] h = h
    all_behind_regular cs c (d ∷ ds) h = all_behind_regular (cs ++ class_facts_behind m cs c d ∷ []) (suc c) ds
        (more_regular cs (class_facts_behind m cs c d) h (behind_regular cs c d h))

    pub classes_regular : (i : ℕ) → ClassRegular (class_facts_at (classes_of m) i)
    unfolding classes_of
    classes_regular i = at_regular (classes_behind m [] 0 (classes_in m.items)) i
        (all_behind_regular [] 0 (classes_in m.items) tt)

    -- ---- functions

    one_signature : (fs : List FuncDef) (i : ℕ) (s : Signature) → slice_get (map (signature_of m) fs) i ≡ Some s
        → SignatureRegular asked s
    one_signature [] i s e = absurd (grind (arith, e))
    one_signature (f ∷ fs) zero s e = subst (SignatureRegular asked) (same_Some _ _ e)
        (parameters_regular f.params, option_ann_regular m meant (bases_of m) f.returns)
    one_signature (f ∷ fs) (suc i) s e = one_signature fs i s e

    pub functions_regular : (i : ℕ) (s : Signature) → slice_get (signatures_of m) i ≡ Some s → SignatureRegular asked s
    unfolding signatures_of
    functions_regular i s e = one_signature (functions_in m.items) i s e

    -- ---- contexts of bodies and initializers

    -- a class that a name means in a body is one that it means in the module
    among_asked : (names : List (List ℕ)) → NamesAsked asked (resolve_among m names)
    among_asked names word c e = meant word c (outside_class (index_of word names) (resolve_in_module m word) c e)

    pub body_regular : (constants : List Tree) (names : List (List ℕ))
        → ((i : ℕ) (t : Tree) → slice_get constants i ≡ Some t → IsRegular asked t)
        → ContextRegular asked (body_context m constants names)
    body_regular constants names h = record {
      names = among_asked names;
      constants = h;
      functions = functions_regular;
      fields = λ c. (classes_regular c).0;
      methods = λ c. (classes_regular c).1;
    }

    pub initializer_regular : (constants : List Tree) (known : ℕ)
        → ((i : ℕ) (t : Tree) → slice_get constants i ≡ Some t → IsRegular asked t)
        → ContextRegular asked (initializer_context m constants known)
    initializer_regular constants known h = record {
      names = meant;
      constants = h;
      functions = functions_regular;
      fields = λ c. (classes_regular c).0;
      methods = λ c. (classes_regular c).1;
    }
