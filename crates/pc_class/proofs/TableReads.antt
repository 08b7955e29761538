-- The reads of a class table: the item that the maps of a class have at a name.
use Rattle.std.proofs.Common.{◌≡◌, ◌<◌, ℕ, zero, suc, List, [], ◌∷◌, length, map, get_or, refl, sym, ap, ◌∙◌}
use Rattle.std.proofs.Common.{arith}
use Rattle.std.specs.Prelude.{Bool, true, false, cond, Option, Some, None, find, slice_get, slice_index_or, bytes_eq}
use Rattle.std.specs.Prelude.{Contains}
use Rattle.std.specs.Borrow.{Bor}
use Rattle.std.specs.Option.{option_copied, option_map}
use Rattle.std.proofs.lemmas.Option.{same_Some, slice_get_read}
use Rattle.pc_types.specs.Tree.{Tree}
use Rattle.pc_class.specs.Facts.{ClassFacts, class_in, class_facts_at, base_facts, field_by_name, method_by_name}
use Rattle.pc_class.specs.declared.table.Parameter.{Parameter as RustParameter}
use Rattle.pc_class.specs.declared.table.Method.{Method as RustMethod}
use Rattle.pc_class.specs.declared.parts.ClassNode.{ClassNode}
use Rattle.pc_class.specs.declared.parts.ClassArena.{ClassArena}
use Rattle.pc_class.specs.Outlines.{first_named}
use Rattle.pc_class.specs.Tables.{ClassEntry, empty_entry, inherited_entry, parameter_with, method_with, class_with}
use Rattle.pc_class.specs.Tables.{classes_with, parameter_lent, method_lent, IsFieldIfAny, IsMethodIfAny}
use Rattle.pc_class.specs.Parts.{parameter_name, stored_method_name, classes_of_table, IsClassNode, IsClassTable}

pub find_map : {X Y : Type 0} (f : X → Y) (p : Y → Bool) (xs : List X)
    → find p (map f xs) ≡ option_map f (find (λ x. p (f x)) xs)
find_map f p [] = refl
find_map {X} {Y} f p (x ∷ xs) = go (p (f x)) (find_map f p xs)
  where
    go : (b : Bool) → find p (map f xs) ≡ option_map f (find (λ x. p (f x)) xs)
        → cond b (Some (f x)) (find p (map f xs)) ≡ option_map f (cond b (Some x) (find (λ x. p (f x)) xs))
    go true e = refl
    go false e = e

pub get_map : {X Y : Type 0} (f : X → Y) (xs : List X) (i : ℕ) → slice_get (map f xs) i ≡ option_map f (slice_get xs i)
get_map f [] i = refl
get_map f (x ∷ xs) zero = refl
get_map f (x ∷ xs) (suc i) = get_map f xs i

-- an element at an index is contained in the list
pub get_contains : {X : Type 0} (xs : List X) (i : ℕ) (x : X) → slice_get xs i ≡ Some x → Contains xs x
get_contains [] i x e = absurd (grind (arith, e))
get_contains (y ∷ xs) zero x e = (0, omega arith, same_Some _ _ e)
get_contains (y ∷ xs) (suc i) x e = let r = get_contains xs i x e in (suc r.0, (let l = r.1 in omega arith), r.2)

pub find_contains : {X : Type 0} (p : X → Bool) (xs : List X) (x : X) → find p xs ≡ Some x → Contains xs x
find_contains p [] x e = absurd (grind (arith, e))
find_contains p (y ∷ xs) x e = go (p y) (λ f. find_contains p xs x f) e
  where
    go : (b : Bool) → (find p xs ≡ Some x → Contains xs x) → cond b (Some y) (find p xs) ≡ Some x → Contains (y ∷ xs) x
    go true on f = (0, omega arith, same_Some _ _ f)
    go false on f = let r = on f in (suc r.0, (let l = r.1 in omega arith), r.2)

-- a member that is lent means what it is
lent_means : {X Y : Type 0} (meaning : X → Y) (o : Option (Bor X)) → option_map (λ (x : Bor X). meaning x.now) o
    ≡ option_map meaning (option_copied o)
lent_means meaning None = refl
lent_means meaning (Some x) = refl

-- the node of a class of a table
pub node_there : {Ty : Type 0} (p : ClassArena Ty) → IsClassTable p → (c : ℕ) (n : ClassNode)
    → n ≡ get_or p.classes.items c n → c < length p.classes.items
    → IsClassNode p.named p.fields.items p.methods.items (classes_of_table p) c n
node_there p table c n is less = table.each c n (slice_get_read p.classes.items (length p.classes.items) c n refl less
    is)

module _ {Ty : Type 0} (tree : Ty → Tree) (es : List (ClassEntry Ty)) where
  -- a class of the table among those that it means
  pub class_there : (c : ℕ) (e : ClassEntry Ty) → slice_get es c ≡ Some e → class_facts_at (classes_with tree es) c
      ≡ class_with tree e
  class_there c e is = ap class_in (get_map (class_with tree) es c ∙ ap (option_map (class_with tree)) is)

  field_there : (c : ℕ) (e : ClassEntry Ty) → slice_get es c ≡ Some e → (n : List ℕ)
      → field_by_name (class_facts_at (classes_with tree es) c).fields n ≡ option_map (parameter_with tree)
      (first_named parameter_name e.fields n)
  field_there c e is n = ap (λ (x : ClassFacts). field_by_name x.fields n) (class_there c e is)
      ∙ find_map (parameter_with tree) (λ f. bytes_eq n f.name) e.fields

  method_there : (c : ℕ) (e : ClassEntry Ty) → slice_get es c ≡ Some e → (n : List ℕ)
      → method_by_name (class_facts_at (classes_with tree es) c).methods n ≡ option_map (method_with tree)
      (first_named stored_method_name e.methods n)
  method_there c e is n = ap (λ (x : ClassFacts). method_by_name x.methods n) (class_there c e is)
      ∙ find_map (method_with tree) (λ f. bytes_eq n f.name) e.methods

  -- the member that the maps of a class have at a name, by what it means
  pub field_read : (c : ℕ) (e : ClassEntry Ty) → slice_get es c ≡ Some e → (n : List ℕ)
      (o : Option (Bor (RustParameter Ty))) → option_copied o ≡ first_named parameter_name e.fields n
      → option_map (parameter_lent tree) o ≡ field_by_name (class_facts_at (classes_with tree es) c).fields n
  field_read c e is n o f = lent_means (parameter_with tree) o ∙ ap (option_map (parameter_with tree)) f
      ∙ sym (field_there c e is n)

  pub method_read : (c : ℕ) (e : ClassEntry Ty) → slice_get es c ≡ Some e → (n : List ℕ)
      (o : Option (Bor (RustMethod Ty))) → option_copied o ≡ first_named stored_method_name e.methods n
      → option_map (method_lent tree) o ≡ method_by_name (class_facts_at (classes_with tree es) c).methods n
  method_read c e is n o f = lent_means (method_with tree) o ∙ ap (option_map (method_with tree)) f
      ∙ sym (method_there c e is n)

-- and it is one of the class's
module _ {Ty : Type 0} (es : List (ClassEntry Ty)) (c : ℕ) (e : ClassEntry Ty) (is : slice_get es c ≡ Some e)
    (n : List ℕ) where
  pub field_listed : (o : Option (Bor (RustParameter Ty))) → option_copied o ≡ first_named parameter_name e.fields n
      → IsFieldIfAny es o
  field_listed None f = tt
  field_listed (Some p) f = record {
    class = e;
    listed = get_contains es c e is;
    among = find_contains _ e.fields p.now (sym f);
  }

  pub method_listed : (o : Option (Bor (RustMethod Ty))) → option_copied o ≡ first_named stored_method_name e.methods n
      → IsMethodIfAny es o
  method_listed None f = tt
  method_listed (Some x) f = record {
    class = e;
    listed = get_contains es c e is;
    among = find_contains _ e.methods x.now (sym f);
  }

-- the entry that a class inherits means the facts of its base
pub inherits_there : {Ty : Type 0} (tree : Ty → Tree) (es : List (ClassEntry Ty)) (o : Option ℕ)
    → base_facts (classes_with tree es) o ≡ class_with tree (inherited_entry es o)
inherits_there tree es None = refl
inherits_there tree es (Some b) = go es b
  where
    go : (xs : List (ClassEntry _)) (i : ℕ) → class_facts_at (classes_with tree xs) i ≡ class_with tree
        (slice_index_or xs i empty_entry)
    go [] i = refl
    go (x ∷ xs) zero = refl
    go (x ∷ xs) (suc i) = go xs i
