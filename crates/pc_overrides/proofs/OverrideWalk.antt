-- The walk over the methods that a method overrides: the methods still to be tested from each of them on, and that the
-- store gave its types.
use Rattle.std.proofs.Common.{◌≡◌, ◌<◌, ℕ, List, sym, ap, ◌∙◌, subst, arith}
use Rattle.std.specs.Prelude.{Bool, ◌&&◌, Option, Some, None, bytes_eq}
use Rattle.std.specs.Option.{option_map}
use Rattle.std.specs.Borrow.{Bor}
use Rattle.std.specs.List.{list_all}
use Rattle.std.proofs.lemmas.List.Elements.{All-contains, All-weaker}
use Rattle.std.proofs.lemmas.Slice.Eq.{bytes_eq-Decides}
use Rattle.pc_source.proofs.ListSearch.{found_passes}
use Rattle.pc_tree.specs.Tree.{Module}
use Rattle.pc_types.specs.Tree.{Tree}
use Rattle.pc_types.specs.Below.{base_of}
use Rattle.pc_annotations.specs.Bases.{bases_of}
use Rattle.pc_class.specs.declared.table.Method.{Method as RustMethod}
use Rattle.pc_class.specs.Facts.{Method, ClassFacts, class_facts_at, base_facts, method_by_name, classes_of}
use Rattle.pc_class.specs.Overrides.{overridden}
use Rattle.pc_class.specs.Tables.{ClassEntry, classes_with, method_lent, HasParameter, HasMethod, HasEntry, HasEntries}
use Rattle.pc_class.specs.Tables.{IsMethod}
use Rattle.pc_class.proofs.TableFields.{steps_left, fewer}
use Rattle.pc_overrides.proofs.Overridden.{nearest, none_kept}

module _ {Ty : Type 0} where
  -- the store gave the types of a method of the table
  pub method_given : (has : Ty → Type 0) (es : List (ClassEntry Ty)) (x : RustMethod Ty) → HasEntries has es
      → IsMethod es x → HasMethod has x
  method_given has es x given is = All-contains (HasMethod has) is.class.methods x
      (All-contains (HasEntry has) es is.class given is.listed).methods is.among

  -- and it has them still
  pub method_keeps : (has later : Ty → Type 0) (x : RustMethod Ty) → ((t : Ty) → has t → later t) → HasMethod has x
      → HasMethod later x
  method_keeps has later x keeps h = record {
    params = All-weaker (HasParameter has) (HasParameter later) (λ p q. keeps p.ty q) x.params h.params;
    ret = keeps x.ret h.ret;
  }

module _ (m : Module) (name : List ℕ) where
  -- the methods of the name that a class of this base inherits
  abbrev pub above : Option ℕ → List Method
  above o = overridden (base_facts (classes_of m) o).methods name

  -- the nearest method is tested, and then those above its owner
  pub all_next : (test : Method → Bool) (at : Option ℕ) (c : ℕ) (x : Method) (base : Option ℕ) → at ≡ Some c
      → method_by_name (class_facts_at (classes_of m) c).methods name ≡ Some x → base ≡ base_of (bases_of m) x.owner
      → list_all test (above at) ≡ (test x && list_all test (above base))
  all_next test at c x base here e b =
      ap (λ o. list_all test (above o)) here ∙ ap (list_all test) (nearest m name c x e).all
      ∙ ap (λ o. test x && list_all test (above o)) (sym b)

  -- where there is none, nothing is left to be tested
  pub all_done : (test : Method → Bool) (at : Option ℕ) (c : ℕ) → at ≡ Some c
      → method_by_name (class_facts_at (classes_of m) c).methods name ≡ None → list_all test (above at) ≡ list_all test
      (above None)
  all_done test at c here e = ap (λ o. list_all test (above o)) here
      ∙ ap (list_all test) (none_kept _ (class_facts_at (classes_of m) c).methods e)

  -- the nearest method has the name
  pub named_so : (c : ℕ) (x : Method) → method_by_name (class_facts_at (classes_of m) c).methods name ≡ Some x
      → name ≡ x.name
  named_so c x e = (bytes_eq-Decides name x.name).0
      (found_passes (λ f. bytes_eq name f.name) (class_facts_at (classes_of m) c).methods x e)

  -- the owner of the nearest method has the same methods of the name
  pub owner_has : (P : List ℕ → List Method → Type 0) (base : Option ℕ) (c : ℕ) (x : Method) → base ≡ Some c
      → method_by_name (class_facts_at (classes_of m) c).methods name ≡ Some x
      → P x.name (overridden (base_facts (classes_of m) (Some x.owner)).methods x.name) → P name (above base)
  owner_has P base c x here e h =
      let named = named_so c x e in
      let n = nearest m name c x e in
      subst (P name) (n.own ∙ sym n.all ∙ ap above (sym here))
      (subst (λ t. P t (overridden (base_facts (classes_of m) (Some x.owner)).methods t)) (sym named) h)

  -- the base of the owner stands before the class
  pub base_fewer : (at : Option ℕ) (c : ℕ) (x : Method) (base : Option ℕ) → at ≡ Some c
      → method_by_name (class_facts_at (classes_of m) c).methods name ≡ Some x → ((b : ℕ) → base ≡ Some b → b < x.owner)
      → steps_left base < steps_left at
  base_fewer at c x base here e before =
      let l = fewer base x.owner before in
      let o = (nearest m name c x e).owner in
      subst (λ o. steps_left base < steps_left o) (sym here) (omega arith)

-- the method that the table gave at the name is the one that the class has there
pub found_there : {Ty : Type 0} (tree : Ty → Tree) (es : List (ClassEntry Ty)) (m : Module) (class : ℕ)
    (text name : List ℕ) (given known : Option (Bor (RustMethod Ty))) → classes_with tree es ≡ classes_of m
    → text ≡ name
    → option_map (method_lent tree) given ≡ method_by_name (class_facts_at (classes_with tree es) class).methods text
    → given ≡ known → method_by_name (class_facts_at (classes_of m) class).methods name
    ≡ option_map (method_lent tree) known
found_there tree es m class text name given known same is e k =
    ap (λ t. method_by_name (class_facts_at (classes_of m) class).methods t) (sym is)
    ∙ ap (λ (cs : List ClassFacts). method_by_name (class_facts_at cs class).methods text) (sym same) ∙ sym e
    ∙ ap (option_map (method_lent tree)) k
