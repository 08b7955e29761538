-- Walks over the members of a class and over the items of a module, from one of them on.
use Rattle.std.proofs.Common.{◌≡◌, ◌<◌, ◌+◌, ℕ, suc, List, ◌∷◌, map, drop, length, get_or, sym, ap, ◌∙◌, subst, arith}
use Rattle.std.specs.Prelude.{Some, Bool as Test, slice_get}
use Rattle.pc_source.specs.declared.place.Place.{Place}
use Rattle.pc_tree.specs.declared.tree.Item.{Item as RustItem}
use Rattle.pc_tree.specs.declared.tree.Member.{Member as RustMember}
use Rattle.pc_tree.specs.Tree.{FuncDef, Field, Member, field_member, method_member, ClassDef, Constant, Item}
use Rattle.pc_tree.specs.Tree.{constant_item, class_item, def_item, Module, member_of, item_of}
use Rattle.pc_tree.proofs.Stops.{cons_at}
use Rattle.pc_scope.specs.Bindings.{classes_in, functions_in, methods_in}
use Rattle.pc_scope.specs.declared.resolution.Owner.TheVariants as owners
use Rattle.pc_types.specs.Tree.{Tree}
use Rattle.pc_notes.specs.Notes.{Note}
use Rattle.pc_module_rules.specs.Computed.Statements.{function_finds}
use Rattle.pc_module_rules.specs.Computed.Modules.{methods_find, bodies_find}

-- these stand among all from a number on
abbrev pub StandsFrom : {X : Type 0} → (all : List X) → ℕ → (rest : List X) → Type 0
StandsFrom all n rest = (i : ℕ) → slice_get all (n + i) ≡ slice_get rest i

-- the first of them, and the others
pub stands_first : {X : Type 0} (all rest : List X) (n : ℕ) (x : X) → StandsFrom all n (x ∷ rest)
    → slice_get all n ≡ Some x
stands_first all rest n x h = ap (slice_get all) (omega arith) ∙ h 0

pub others_stand : {X : Type 0} (all rest : List X) (n : ℕ) (x : X) → StandsFrom all n (x ∷ rest)
    → StandsFrom all (n + 1) rest
others_stand all rest n x h i = ap (slice_get all) (omega arith) ∙ h (suc i)

-- the members, and the items, from one on
pub members_next : (ms : List RustMember) (i : ℕ) (x : RustMember) → i < length ms → x ≡ get_or ms i x
    → map member_of (drop i ms) ≡ member_of x ∷ map member_of (drop (i + 1) ms)
members_next ms i x less is = ap (map member_of) (cons_at ms i x less is)

pub items_next : (items : List RustItem) (i : ℕ) (x : RustItem) → i < length items → x ≡ get_or items i x
    → map item_of (drop i items) ≡ item_of x ∷ map item_of (drop (i + 1) items)
items_next items i x less is = ap (map item_of) (cons_at items i x less is)

-- the method, the class and the function that stands first
pub method_here : (all : List FuncDef) (before rest : List Member) (n : ℕ) (d : FuncDef)
    → StandsFrom all n (methods_in before) → before ≡ method_member d ∷ rest → slice_get all n ≡ Some d
method_here all before rest n d h is = stands_first all (methods_in rest) n d
    (subst (λ (l : List Member). StandsFrom all n (methods_in l)) is h)

pub class_here : (all : List ClassDef) (before rest : List Item) (n : ℕ) (p : Place) (x : ClassDef)
    → StandsFrom all n (classes_in before) → before ≡ class_item p x ∷ rest → slice_get all n ≡ Some x
class_here all before rest n p x h is = stands_first all (classes_in rest) n x
    (subst (λ (l : List Item). StandsFrom all n (classes_in l)) is h)

pub def_here : (all : List FuncDef) (before rest : List Item) (n : ℕ) (p : Place) (x : FuncDef)
    → StandsFrom all n (functions_in before) → before ≡ def_item p x ∷ rest → slice_get all n ≡ Some x
def_here all before rest n p x h is = stands_first all (functions_in rest) n x
    (subst (λ (l : List Item). StandsFrom all n (functions_in l)) is h)

module _ (keeps : Test) (m : Module) (constants : List Tree) where
  -- ---- members

  module _ (class : ℕ) (all : List FuncDef) (total : List Note) (before rest : List Member) (n next : ℕ)
      (old new : List Note) where
    -- where a walk over members stands: after so many methods, and what is found in all
    pub record MembersAt : Type 0 where
      pub stand : StandsFrom all next (methods_in rest)
      pub found : methods_find keeps m constants class next rest new ≡ total

    module _ (stand : StandsFrom all n (methods_in before)) (found : methods_find keeps m constants class n before old
        ≡ total) where
      pub field_passed : (d : Field) → before ≡ field_member d ∷ rest → next ≡ n → new ≡ old → MembersAt
      field_passed d is same kept = record {
        stand = subst (λ (k : ℕ). StandsFrom all k (methods_in rest)) (sym same)
            (subst (λ (l : List Member). StandsFrom all n (methods_in l)) is stand);
        found = (λ j. methods_find keeps m constants class (same j) rest (kept j))
            ∙ ap (λ (l : List Member). methods_find keeps m constants class n l old) (sym is) ∙ found;
      }

      pub method_passed : (d : FuncDef) → before ≡ method_member d ∷ rest → next ≡ n + 1
          → new ≡ function_finds keeps m constants (owners.Method class n) d old → MembersAt
      method_passed d is more pushed =
          let one : next ≡ suc n = more ∙ (omega arith) in
          record {
            stand = subst (λ (k : ℕ). StandsFrom all k (methods_in rest)) (sym more)
                (others_stand all (methods_in rest) n d (subst (λ (l : List Member). StandsFrom all n (methods_in l)) is
                stand));
            found = (λ j. methods_find keeps m constants class (one j) rest (pushed j))
                ∙ ap (λ (l : List Member). methods_find keeps m constants class n l old) (sym is) ∙ found;
          }

  -- ---- items

  module _ (classes : List ClassDef) (functions : List FuncDef) (total : List Note) (before rest : List Item)
      (c f next_class next_function : ℕ) (old new : List Note) where
    -- where a walk over items stands: after so many classes and functions, and what is found in all
    pub record ItemsAt : Type 0 where
      pub classes_stand : StandsFrom classes next_class (classes_in rest)
      pub functions_stand : StandsFrom functions next_function (functions_in rest)
      pub found : bodies_find keeps m constants next_class next_function rest new ≡ total

    module _ (classes_from : StandsFrom classes c (classes_in before))
        (functions_from : StandsFrom functions f (functions_in before))
        (found : bodies_find keeps m constants c f before old ≡ total) where
      pub constant_passed : (p : Place) (x : Constant) → before ≡ constant_item p x ∷ rest → next_class ≡ c
          → next_function ≡ f → new ≡ old → ItemsAt
      constant_passed p x is ec ef kept = record {
        classes_stand = subst (λ (k : ℕ). StandsFrom classes k (classes_in rest)) (sym ec)
            (subst (λ (l : List Item). StandsFrom classes c (classes_in l)) is classes_from);
        functions_stand = subst (λ (k : ℕ). StandsFrom functions k (functions_in rest)) (sym ef)
            (subst (λ (l : List Item). StandsFrom functions f (functions_in l)) is functions_from);
        found = (λ j. bodies_find keeps m constants (ec j) (ef j) rest (kept j))
            ∙ ap (λ (l : List Item). bodies_find keeps m constants c f l old) (sym is) ∙ found;
      }

      pub class_passed : (p : Place) (x : ClassDef) → before ≡ class_item p x ∷ rest → next_class ≡ c + 1
          → next_function ≡ f → new ≡ methods_find keeps m constants c 0 x.members old → ItemsAt
      class_passed p x is ec ef pushed =
          let one : next_class ≡ suc c = ec ∙ (omega arith) in
          record {
            classes_stand = subst (λ (k : ℕ). StandsFrom classes k (classes_in rest)) (sym ec)
                (others_stand classes (classes_in rest) c x
                (subst (λ (l : List Item). StandsFrom classes c (classes_in l)) is classes_from));
            functions_stand = subst (λ (k : ℕ). StandsFrom functions k (functions_in rest)) (sym ef)
                (subst (λ (l : List Item). StandsFrom functions f (functions_in l)) is functions_from);
            found = (λ j. bodies_find keeps m constants (one j) (ef j) rest (pushed j))
                ∙ ap (λ (l : List Item). bodies_find keeps m constants c f l old) (sym is) ∙ found;
          }

      pub def_passed : (p : Place) (x : FuncDef) → before ≡ def_item p x ∷ rest → next_class ≡ c → next_function ≡ f + 1
          → new ≡ function_finds keeps m constants (owners.Func f) x old → ItemsAt
      def_passed p x is ec ef pushed =
          let one : next_function ≡ suc f = ef ∙ (omega arith) in
          record {
            classes_stand = subst (λ (k : ℕ). StandsFrom classes k (classes_in rest)) (sym ec)
                (subst (λ (l : List Item). StandsFrom classes c (classes_in l)) is classes_from);
            functions_stand = subst (λ (k : ℕ). StandsFrom functions k (functions_in rest)) (sym ef)
                (others_stand functions (functions_in rest) f x
                (subst (λ (l : List Item). StandsFrom functions f (functions_in l)) is functions_from));
            found = (λ j. bodies_find keeps m constants (ec j) (one j) rest (pushed j))
                ∙ ap (λ (l : List Item). bodies_find keeps m constants c f l old) (sym is) ∙ found;
          }
