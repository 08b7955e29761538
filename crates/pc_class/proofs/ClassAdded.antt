-- One more class of a module over its base: the table has of it exactly the facts of the definition.
use Rattle.std.proofs.Common.{◌≡◌, ◌<◌, ℕ, zero, suc, List, [], ◌∷◌, ◌++◌, length, map, refl, sym, ap, ◌∙◌, subst}
use Rattle.std.proofs.Common.{arith, append-nil}
use Rattle.std.specs.Prelude.{Bool, true, ◌||◌, Option, Some, None, is_some, All, slice_get, slice_index_or, bytes_eq}
use Rattle.std.specs.Option.{option_map}
use Rattle.std.specs.List.{list_any}
use Rattle.std.proofs.lemmas.Option.{same_Some}
use Rattle.std.proofs.lemmas.List.{map-append}
use Rattle.std.proofs.lemmas.List.Elements.{All-append, All-weaker}
use Rattle.std.proofs.lemmas.List.Folds.{list_any-append}
use Rattle.pc_tree.specs.Tree.{ClassDef, Module}
use Rattle.pc_types.specs.Tree.{Tree}
use Rattle.pc_annotations.specs.Bases.{base_named}
use Rattle.pc_class.specs.declared.table.Parameter.{Parameter as RustParameter}
use Rattle.pc_class.specs.declared.table.Method.{Method as RustMethod}
use Rattle.pc_class.specs.declared.parts.ClassNode.{ClassNode}
use Rattle.pc_class.specs.Facts.{TypedParameter, Method, ClassFacts, base_facts, class_facts_behind, own_fields}
use Rattle.pc_class.specs.Facts.{own_methods}
use Rattle.pc_shared_maps.specs.NameMaps.{NameMaps, named_at, IsMap, KeepsNamed}
use Rattle.pc_class.specs.Entries as entries
use Rattle.pc_class.specs.Entries.{HasMaps, inherited_by, inherited_in, entries_of_members, class_entries, defaulted_in}
use Rattle.pc_class.specs.Outlines.{at_number, IsNumberIn, first_named, IsMapOf, field_name}
use Rattle.pc_class.specs.Outlines.{method_name as class_method_name, own_field, own_method, all_own, AreNew}
use Rattle.pc_class.specs.Tables.{ClassEntry, empty_entry, inherited_entry, HasParameter, HasMethod, parameter_with}
use Rattle.pc_class.specs.Tables.{method_with, class_with, classes_with}
use Rattle.pc_class.specs.declared.parts.ClassArena.{ClassArena}
use Rattle.pc_class.specs.Parts.{parameter_name, stored_method_name, inherited_node, entries_behind, classes_of_table}
use Rattle.pc_class.specs.Parts.{AreNodes, IsClassTable, HasParts}
use Rattle.pc_class.specs.Built.{Added, IsClassAt}
use Rattle.pc_class.proofs.Holding.{held_kept, named_on}
use Rattle.pc_class.proofs.TableReads.{find_map, inherits_there}
use Rattle.pc_class.proofs.TableMore.{entries_next, nodes_next}
use Rattle.pc_class.proofs.OwnMembers.{SameInherited, entries_same, fields_are, methods_are, defaults_are, new_fields}
use Rattle.pc_class.proofs.OwnMembers.{new_methods}
use Rattle.pc_class.proofs.ClassesBuilt.{below_class}

-- a map has something just where these have
held_some : {X : Type 0} (name : X → List ℕ) (d : NameMaps) (all : List X) (at : ℕ) (these : List X)
    → IsMapOf name d all at these → (n : List ℕ) → is_some (named_at d at n) ≡ is_some (first_named name these n)
held_some {X} name d all at these h n = go (named_at d at n) (h.within n) (h.same n)
  where
    there : (i : ℕ) (xs : List X) → i < length xs → is_some (slice_get xs i) ≡ true
    there i [] l = absurd (omega arith)
    there zero (x ∷ xs) l = refl
    there (suc i) (x ∷ xs) l = there i xs (omega arith)

    go : (o : Option ℕ) → IsNumberIn all o → at_number all o ≡ first_named name these n
        → is_some o ≡ is_some (first_named name these n)
    go None w e = ap is_some e
    go (Some i) w e = sym (there i all w) ∙ ap is_some e

some_map : {X Y : Type 0} (f : X → Y) (o : Option X) → is_some (option_map f o) ≡ is_some o
some_map f None = refl
some_map f (Some x) = refl

any_map : {Ty : Type 0} (tree : Ty → Tree) (ps : List (RustParameter Ty))
    → list_any (λ (p : TypedParameter). p.has_default) (map (parameter_with tree) ps)
    ≡ list_any (λ (p : RustParameter Ty). p.has_default) ps
any_map tree [] = refl
any_map tree (p ∷ ps) = ap (λ b. p.has_default || b) (any_map tree ps)

-- the element at an index
record AtIndex {X : Type 0} (xs : List X) (i : ℕ) (other : X) : Type 0 where
  found : X
  is : slice_get xs i ≡ Some found
  same : slice_index_or xs i other ≡ found

at_index : {X : Type 0} (xs : List X) (i : ℕ) (other : X) → i < length xs → AtIndex xs i other
at_index [] i other l = absurd (omega arith)
at_index (x ∷ xs) zero other l = record { found = x; is = refl; same = refl }
at_index (x ∷ xs) (suc i) other l = let r = at_index xs i other (omega arith) in
    record { found = r.found; is = r.is; same = r.same }

get_index : {X : Type 0} (xs : List X) (i : ℕ) (x other : X) → slice_get xs i ≡ Some x → slice_index_or xs i other ≡ x
get_index [] i x other e = absurd (grind (arith, e))
get_index (y ∷ xs) zero x other e = same_Some _ _ e
get_index (y ∷ xs) (suc i) x other e = get_index xs i x other e

-- the entry held for a base
pub record IsBase {Ty : Type 0} (d : NameMaps) (F : List (RustParameter Ty)) (M : List (RustMethod Ty)) (n : ClassNode)
    (e : ClassEntry Ty) : Type 0 where
  pub fields : IsMapOf parameter_name d F n.held.fields e.fields
  pub methods : IsMapOf stored_method_name d M n.held.methods e.methods
  pub defaulted : n.defaulted ≡ list_any (λ (p : RustParameter Ty). p.has_default) e.fields

pub base_held : {Ty : Type 0} (d : NameMaps) (F : List (RustParameter Ty)) (M : List (RustMethod Ty))
    (ns : List ClassNode) (es : List (ClassEntry Ty)) → AreNodes d F M ns es → (o : Option ℕ)
    → ((b : ℕ) → o ≡ Some b → b < length ns) → IsBase d F M (inherited_node ns o) (inherited_entry es o)
base_held d F M ns es are None less = record { fields = are.no_fields; methods = are.no_methods; defaulted = refl }
base_held {Ty} d F M ns es are (Some b) less =
    let x = at_index ns b (inherited_node ns None) (less b refl) in
    let node = are.each b x.found x.is in
    let e = get_index es b _ empty_entry node.is in
    subst (λ n. IsBase d F M n (slice_index_or es b empty_entry)) (sym x.same)
    (subst (IsBase d F M x.found) (sym e) (record {
      fields = node.fields_held;
      methods = node.methods_held;
      defaulted =
          node.defaulted;
    }))

module _ {Ty : Type 0} (tree : Ty → Tree) (m : Module) (d : NameMaps) (F : List (RustParameter Ty))
    (M : List (RustMethod Ty)) (ns : List ClassNode) (es : List (ClassEntry Ty)) (are : AreNodes d F M ns es)
    (class : ClassDef) (is : IsClassAt m (length ns) class) (base : Option ℕ)
    (based : base ≡ base_named m (length ns) class.base) where
  pub below : (b : ℕ) → base ≡ Some b → b < length ns
  below b e = below_class m (length ns) b class is (sym based ∙ e)

  -- the base, in the table and by the definition
  abbrev pub base_entry : ClassEntry Ty
  base_entry = inherited_entry es base

  abbrev pub base_node : ClassNode
  base_node = inherited_node ns base

  abbrev pub base_class : ClassFacts
  base_class = base_facts (classes_with tree es) (base_named m (length ns) class.base)

  pub base_is : base_class ≡ class_with tree base_entry
  base_is = ap (base_facts (classes_with tree es)) (sym based) ∙ inherits_there tree es base

  pub held : IsBase d F M base_node base_entry
  held = base_held d F M ns es are base below

  pub base_maps : (o : ClassNode) → o ≡ base_node → HasMaps d o.held
  base_maps o e = subst (λ (x : ClassNode). HasMaps d x.held) (sym e)
      (record { fields = held.fields.is_map; methods = held.methods.is_map })

  -- its entries
  same_names : SameInherited (inherited_in d base_node.held) (inherited_by (class_with tree base_entry))
  same_names = record {
    fields = λ n. held_some parameter_name d F base_node.held.fields base_entry.fields held.fields n
        ∙ sym (ap is_some (find_map (parameter_with tree) (λ (f : TypedParameter). bytes_eq n f.name) base_entry.fields)
        ∙ some_map (parameter_with tree) (first_named parameter_name base_entry.fields n));
    methods = λ n. held_some stored_method_name d M base_node.held.methods base_entry.methods held.methods n
        ∙ sym (ap is_some (find_map (method_with tree) (λ (f : Method). bytes_eq n f.name) base_entry.methods)
        ∙ some_map (method_with tree) (first_named stored_method_name base_entry.methods n));
  }

  pub entries_are : entries_of_members (inherited_in d base_node.held) [] 0 class.members ≡ class_entries
      (inherited_by base_class) class
  entries_are = entries_same (inherited_in d base_node.held) (inherited_by (class_with tree base_entry)) same_names [] 0
      class.members ∙ ap (λ (b : ClassFacts). class_entries (inherited_by b) class) (sym base_is)

  pub fields_new : AreNew field_name (own_field m) (map (parameter_with tree) base_entry.fields)
      (class_entries (inherited_by base_class) class)
  fields_new = subst (λ (b : ClassFacts). AreNew field_name (own_field m) b.fields
      (class_entries (inherited_by base_class) class)) base_is (new_fields m base_class class.members)

  pub methods_new : (k : ℕ) → AreNew class_method_name (own_method m k) []
      (class_entries (inherited_by base_class) class)
  methods_new k = new_methods m k base_class class.members

  -- whether a field of the base has a default
  pub base_defaulted : base_node.defaulted ≡ list_any (λ (p : TypedParameter). p.has_default) base_class.fields
  base_defaulted = held.defaulted ∙ sym (any_map tree base_entry.fields)
      ∙ ap (λ (b : ClassFacts). list_any (λ (p : TypedParameter). p.has_default) b.fields) (sym base_is)

  module _ (d1 d2 : NameMaps) (k1 : KeepsNamed d d1) (k2 : KeepsNamed d1 d2) (at_fields at_methods : ℕ)
      (has has2 : Ty → Type 0) (xs : List entries.MemberEntry) (same : xs ≡ class_entries (inherited_by base_class)
      class) (b : Bool) (b_is : b ≡ defaulted_in base_node.defaulted xs) where
    -- the class as the table keeps it
    abbrev pub node_with : List (RustParameter Ty) → List (RustMethod Ty) → ClassNode
    node_with F1 M2 = record {
      base = base;
      held = record { fields = at_fields; methods = at_methods };
      defaulted = b;
      fields = record { start = length F; end = length F1 };
      methods = record { start = length M; end = length M2 };
    }

    abbrev pub entry_with : List (RustParameter Ty) → List (RustMethod Ty) → ClassEntry Ty
    entry_with fs ms = record { base = base; fields = base_entry.fields ++ fs; methods = ms ++ base_entry.methods }

    -- the table with it
    record IsMore (F1 : List (RustParameter Ty)) (M2 : List (RustMethod Ty)) (e : ClassEntry Ty) : Type 0 where
      nodes : AreNodes d2 F1 M2 (ns ++ node_with F1 M2 ∷ []) (es ++ e ∷ [])
      all : es ≡ entries_behind F M [] ns → entries_behind F1 M2 [] (ns ++ node_with F1 M2 ∷ []) ≡ es ++ e ∷ []

    module _ (F1 : List (RustParameter Ty)) (M2 : List (RustMethod Ty))
        (f : Added parameter_name (HasParameter has) (parameter_with tree) d1 F F1 at_fields base_entry.fields []
        (all_own (own_field m) xs))
        (g : Added stored_method_name (HasMethod has2) (method_with tree) d2 M M2 at_methods [] base_entry.methods
        (all_own (own_method m (length ns)) xs)) where
      default_is : b ≡ list_any (λ (p : RustParameter Ty). p.has_default) (base_entry.fields ++ f.these)
      default_is =
          b_is ∙ defaults_are m base_node.defaulted xs
          ∙ ap (λ (ps : List TypedParameter). base_node.defaulted || list_any (λ (p : TypedParameter). p.has_default)
          ps) (sym f.means)
          ∙ ap (λ c. base_node.defaulted || c) (any_map tree f.these)
          ∙ ap (λ c. c || list_any (λ (p : RustParameter Ty). p.has_default) f.these) held.defaulted
          ∙ sym (list_any-append (λ (p : RustParameter Ty). p.has_default) base_entry.fields f.these)

      over : IsMore (F ++ f.these) (M ++ g.these) (entry_with f.these g.these)
      over =
          let k = named_on d d1 d2 k1 k2 in
          let n = node_with (F ++ f.these) (M ++ g.these) in
          let fields : IsMapOf parameter_name d2 (F ++ f.these) at_fields (base_entry.fields ++ f.these) =
          subst (λ ps. IsMapOf parameter_name d2 (F ++ f.these) at_fields ps)
          (append-nil (base_entry.fields ++ f.these))
          (subst (λ ps. IsMapOf parameter_name d2 ps at_fields ((base_entry.fields ++ f.these) ++ []))
          (append-nil (F ++ f.these))
          (held_kept parameter_name d1 d2 (F ++ f.these) [] at_fields _
          (subst (λ ps. IsMapOf parameter_name d1 ps at_fields ((base_entry.fields ++ f.these) ++ [])) f.all f.held)
          k2)) in
          let methods : IsMapOf stored_method_name d2 (M ++ g.these) at_methods (g.these ++ base_entry.methods) =
          subst (λ ms. IsMapOf stored_method_name d2 ms at_methods (g.these ++ base_entry.methods)) g.all g.held in
          record {
            nodes = nodes_next d d2 k F f.these M g.these ns es are n refl refl below fields methods default_is;
            all = entries_next d d2 k F f.these M g.these ns es are n refl refl below;
          }

      more : IsMore F1 M2 (entry_with f.these g.these)
      more = subst (λ X. IsMore X M2 (entry_with f.these g.these)) (sym f.all)
          (subst (λ Y. IsMore (F ++ f.these) Y (entry_with f.these g.these)) (sym g.all) over)

      pub nodes_added : AreNodes d2 F1 M2 (ns ++ node_with F1 M2 ∷ []) (es ++ entry_with f.these g.these ∷ [])
      nodes_added = more.nodes

      pub entries_added : es ≡ entries_behind F M [] ns → entries_behind F1 M2 [] (ns ++ node_with F1 M2 ∷ []) ≡ es
          ++ entry_with f.these g.these ∷ []
      entries_added = more.all

      -- and it means the class of the module
      pub class_added : class_with tree (entry_with f.these g.these) ≡ class_facts_behind m (classes_with tree es)
          (length ns) class
      class_added =
          let B = base_class in
          let fs = f.means ∙ ap (all_own (own_field m)) same ∙ sym (fields_are m B [] 0 class.members) in
          let ms = g.means ∙ ap (all_own (own_method m (length ns))) same
          ∙ sym (methods_are m B (length ns) [] 0 class.members) in
          ap (λ (ps : List TypedParameter). let x : ClassFacts = record {
            base = base;
            fields = ps;
            methods =
                map (method_with tree) (g.these ++ base_entry.methods);
          } in x)
          (map-append (parameter_with tree) base_entry.fields f.these)
          ∙ ap (λ (ps : List Method). let x : ClassFacts = record {
            base = base;
            fields =
                map (parameter_with tree) base_entry.fields ++ map (parameter_with tree) f.these;
            methods = ps;
          } in x)
          (map-append (method_with tree) g.these base_entry.methods)
          ∙ ap (λ (c : ClassFacts). let x : ClassFacts = record {
            base = base;
            fields =
                c.fields ++ map (parameter_with tree) f.these;
            methods = map (method_with tree) g.these ++ c.methods;
          } in
          x) (sym base_is)
          ∙ ap (λ (ps : List TypedParameter). let x : ClassFacts =
          record { base = base; fields = B.fields ++ ps; methods = map (method_with tree) g.these ++ B.methods } in
          x) fs
          ∙ ap (λ (ps : List Method). let x : ClassFacts = record {
            base = base;
            fields = B.fields ++ own_fields m B []
                class.members;
            methods = ps ++ B.methods;
          } in x) ms
          ∙ ap (λ (o : Option ℕ). let x : ClassFacts = record {
            base = o;
            fields = B.fields ++ own_fields m B []
                class.members;
            methods = own_methods m B (length ns) 0 [] class.members ++ B.methods;
          } in x) based

pub entries_are_behind : {Ty : Type 0} (p : ClassArena Ty) → classes_of_table p ≡ entries_behind p.fields.items
    p.methods.items [] p.classes.items
unfolding classes_of_table
entries_are_behind p = refl

pub has_fields : {Ty : Type 0} (has has2 : Ty → Type 0) → ((t : Ty) → has t → has2 t) → (ps : List (RustParameter Ty))
    → All (HasParameter has) ps → All (HasParameter has2) ps
has_fields has has2 k ps h = All-weaker (HasParameter has) (HasParameter has2) (λ p i. k p.ty i) ps h

pub has_methods : {Ty : Type 0} (has has2 : Ty → Type 0) → ((t : Ty) → has t → has2 t) → (xs : List (RustMethod Ty))
    → All (HasMethod has) xs → All (HasMethod has2) xs
has_methods has has2 k xs h = All-weaker (HasMethod has) (HasMethod has2)
    (λ x i. record { params = has_fields has has2 k x.params i.params; ret = k x.ret i.ret }) xs h

-- a table that a class was added to
module _ {Ty : Type 0} (tree : Ty → Tree) (m : Module) (p q : ClassArena Ty) (table : IsClassTable p) (class : ClassDef)
    (is : IsClassAt m (length p.classes.items) class) (base : Option ℕ)
    (based : base ≡ base_named m (length p.classes.items) class.base)
    (d1 : NameMaps) (k1 : KeepsNamed p.named d1) (k2 : KeepsNamed d1 q.named) (at_fields at_methods : ℕ)
    (has0 has has2 : Ty → Type 0) (xs : List entries.MemberEntry)
    (same : xs ≡ class_entries (inherited_by (base_class tree m p.named p.fields.items p.methods.items p.classes.items
    (classes_of_table p) table class is base based)) class) (b : Bool)
    (b_is : b ≡ defaulted_in (inherited_node p.classes.items base).defaulted xs)
    (f : Added parameter_name (HasParameter has) (parameter_with tree) d1 p.fields.items q.fields.items at_fields
    (inherited_entry (classes_of_table p) base).fields [] (all_own (own_field m) xs))
    (g : Added stored_method_name (HasMethod has2) (method_with tree) q.named p.methods.items q.methods.items at_methods
    [] (inherited_entry (classes_of_table p) base).methods (all_own (own_method m (length p.classes.items)) xs))
    (n : ClassNode)
    (n_is : n ≡ (let x : ClassNode = record {
      base = base;
      held =
          record { fields = at_fields; methods = at_methods };
      defaulted = b;
      fields =
          record { start = length p.fields.items; end = length q.fields.items };
      methods =
          record { start = length p.methods.items; end = length q.methods.items };
    } in x))
    (all : q.classes.items ≡ p.classes.items ++ n ∷ []) where
  abbrev entry_new : ClassEntry Ty
  entry_new = record {
    base = base;
    fields = (inherited_entry (classes_of_table p) base).fields ++ f.these;
    methods =
        g.these ++ (inherited_entry (classes_of_table p) base).methods;
  }

  nodes_are : q.classes.items ≡ p.classes.items ++ node_with tree m p.named p.fields.items p.methods.items
      p.classes.items (classes_of_table p) table class is base based d1 q.named k1 k2 at_fields at_methods has has2 xs same b
      b_is q.fields.items q.methods.items ∷ []
  nodes_are = all ∙ ap (λ (x : ClassNode). p.classes.items ++ x ∷ []) n_is

  entries_new : classes_of_table q ≡ classes_of_table p ++ entry_new ∷ []
  entries_new =
      entries_are_behind q
      ∙ ap (entries_behind q.fields.items q.methods.items []) nodes_are
      ∙ entries_added tree m p.named p.fields.items p.methods.items p.classes.items (classes_of_table p) table class is base
      based d1 q.named k1 k2 at_fields at_methods has has2 xs same b b_is q.fields.items q.methods.items f g
      (entries_are_behind p)

  pub table_new : IsClassTable q
  table_new =
      subst (λ (ns : List ClassNode). AreNodes q.named q.fields.items q.methods.items ns (classes_of_table q)) (sym nodes_are)
      (subst (λ (es : List (ClassEntry Ty)). AreNodes q.named q.fields.items q.methods.items
      (p.classes.items ++ node_with tree m p.named p.fields.items p.methods.items p.classes.items (classes_of_table p)
      table class is base based d1 q.named k1 k2 at_fields at_methods has has2 xs same b b_is q.fields.items
      q.methods.items ∷ []) es) (sym entries_new)
      (nodes_added tree m p.named p.fields.items p.methods.items p.classes.items (classes_of_table p) table class is base
      based d1 q.named k1 k2 at_fields at_methods has has2 xs same b b_is q.fields.items q.methods.items f g))

  pub classes_new : classes_with tree (classes_of_table q) ≡ classes_with tree (classes_of_table p) ++ class_facts_behind m
      (classes_with tree (classes_of_table p)) (length p.classes.items) class ∷ []
  classes_new =
      ap (classes_with tree) entries_new
      ∙ map-append (class_with tree) (classes_of_table p) (entry_new ∷ [])
      ∙ ap (λ (c : ClassFacts). classes_with tree (classes_of_table p) ++ c ∷ [])
      (class_added tree m p.named p.fields.items p.methods.items p.classes.items (classes_of_table p) table class is base
      based d1 q.named k1 k2 at_fields at_methods has has2 xs same b b_is q.fields.items q.methods.items f g)

  pub given_new : HasParts has0 p → ((t : Ty) → has0 t → has2 t) → ((t : Ty) → has t → has2 t) → HasParts has2 q
  given_new h k l = record {
    fields = subst (All (HasParameter has2)) (sym f.all) (All-append (HasParameter has2) p.fields.items f.these
        (has_fields has0 has2 k p.fields.items h.fields) (has_fields has has2 l f.these f.given));
    methods = subst (All (HasMethod has2)) (sym g.all) (All-append (HasMethod has2) p.methods.items g.these
        (has_methods has0 has2 k p.methods.items h.methods) g.given);
  }

-- the elements that a map of one list holds, once there are more maps
pub held_on : {X : Type 0} (name : X → List ℕ) (d d' : NameMaps) (all : List X) (at : ℕ) (these : List X)
    → IsMapOf name d all at these → KeepsNamed d d' → IsMapOf name d' all at these
held_on name d d' all at these h k = subst (λ xs. IsMapOf name d' xs at these) (append-nil all)
    (held_kept name d d' all [] at these h k)

-- a class whose spans end where the lists do
pub node_same : (base : Option ℕ) (f g : ℕ) (b : Bool) (x x' y y' z z' w w' : ℕ) → x ≡ x' → y ≡ y' → z ≡ z' → w ≡ w'
    → (let n : ClassNode = record {
      base = base;
      held = record { fields = f; methods = g };
      defaulted = b;
      fields =
          record { start = x; end = y };
      methods = record { start = z; end = w };
    } in n)
    ≡ (let n : ClassNode = record {
      base = base;
      held = record { fields = f; methods = g };
      defaulted = b;
      fields =
          record { start = x'; end = y' };
      methods = record { start = z'; end = w' };
    } in n)
node_same base f g b x x' y y' z z' w w' hx hy hz hw =
    ap (λ t. let n : ClassNode = record {
      base = base;
      held = record { fields = f; methods = g };
      defaulted = b;
      fields = record { start = t; end = y };
      methods = record { start = z; end = w };
    } in n) hx
    ∙ ap (λ t. let n : ClassNode = record {
      base = base;
      held = record { fields = f; methods = g };
      defaulted = b;
      fields = record { start = x'; end = t };
      methods = record { start = z; end = w };
    } in n) hy
    ∙ ap (λ t. let n : ClassNode = record {
      base = base;
      held = record { fields = f; methods = g };
      defaulted = b;
      fields = record { start = x'; end = y' };
      methods = record { start = t; end = w };
    } in n) hz
    ∙ ap (λ t. let n : ClassNode = record {
      base = base;
      held = record { fields = f; methods = g };
      defaulted = b;
      fields = record { start = x'; end = y' };
      methods = record { start = z'; end = t };
    } in n) hw

-- a table without classes
pub no_nodes : {Ty : Type 0} (d : NameMaps) (F : List (RustParameter Ty)) (M : List (RustMethod Ty))
    (ns : List ClassNode) (es : List (ClassEntry Ty)) → IsMap d 0 → ((n : List ℕ) → named_at d 0 n ≡ None) → ns ≡ []
    → es ≡ [] → AreNodes d F M ns es
no_nodes d F M ns es is_map none e f = record {
  no_fields = record {
    is_map = is_map;
    within = λ n. subst (IsNumberIn F) (sym (none n)) tt;
    same =
        λ n. ap (at_number F) (none n);
  };
  no_methods = record {
    is_map = is_map;
    within = λ n. subst (IsNumberIn M) (sym (none n)) tt;
    same =
        λ n. ap (at_number M) (none n);
  };
  many = ap length f ∙ ap length (sym e);
  each = λ c n i. absurd (grind (arith, ap (λ (xs : List ClassNode). slice_get xs c) (sym e) ∙ i));
}
