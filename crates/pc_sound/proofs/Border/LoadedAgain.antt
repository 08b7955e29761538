-- A module that is loaded is so under each heap typing under which its constants are of their types.
use Rattle.std.proofs.Common.{◌≡◌, ℕ, zero, suc, List, [], ◌∷◌, ◌++◌, refl, sym, ap, ◌∙◌, subst, arith}
use Rattle.std.specs.Prelude.{true, ◌&&◌, Some, slice_get}
use Rattle.std.proofs.lemmas.Bool.{and_parts}
use Rattle.std.proofs.lemmas.Option.{none-some, same_Some}
use Rattle.pc_tree.specs.Tree.{Constant, Module}
use Rattle.pc_scope.specs.Bindings.{constants_in}
use Rattle.pc_types.specs.Tree.{Tree}
use Rattle.pc_types.specs.Below.{Bases}
use Rattle.pc_class.specs.Bases.{bases_of}
use Rattle.pc_value.specs.Value.{Value}
use Rattle.pc_machine.specs.State.{Class, Globals, a_value}
use Rattle.pc_machine.specs.Names.{global_by_name}
use Rattle.pc_sound.specs.Values.{HeapTyping, HasType}
use Rattle.pc_sound.specs.Loaded.{IsLoaded}
use Rattle.pc_sound.specs.Typed.{has_type}
use Rattle.pc_sound.specs.Border.{ValueDemand, bound_demand, constant_demands, are_met}
use Rattle.pc_sound.proofs.Border.TypedValues.{typed}
use Rattle.pc_sound.proofs.Modules.MainWorld.{made_again, class_again}
use Rattle.pc_sound.proofs.Modules.ModuleNames.{constant_named}

module _ (bases : Bases) (k : HeapTyping) where
  -- demands that are met are met in each part
  pub met_parts : (xs ys : List ValueDemand) → are_met bases k (xs ++ ys) ≡ true
      → (are_met bases k xs ≡ true) × (are_met bases k ys ≡ true)
  met_parts [] ys e = (refl, e)
  met_parts (x ∷ xs) ys e =
      let h = and_parts (has_type bases k x.type x.value) (are_met bases k (xs ++ ys)) e in
      let g = met_parts xs ys h.1 in
      ((λ i. h.0 i && g.0 i), g.1)

  constant_met : (cs : List Constant) (ts : List Tree) (globals : Globals)
      → are_met bases k (constant_demands cs ts globals) ≡ true → (i : ℕ) (c : Constant) (t : Tree) (v : Value)
      → slice_get cs i ≡ Some c → slice_get ts i ≡ Some t → global_by_name c.name.text globals ≡ Some (a_value v)
      → HasType bases k t v
  constant_met [] ts globals e i c t v at type is = absurd (none-some _ at)
  constant_met (x ∷ cs) [] globals e i c t v at type is = absurd (none-some _ type)
  constant_met (x ∷ cs) (u ∷ ts) globals e zero c t v at type is =
      let here = (met_parts (bound_demand u (global_by_name x.name.text globals)) (constant_demands cs ts globals)
      e).0 in
      let bound : global_by_name x.name.text globals ≡ Some (a_value v) =
      ap (λ y. global_by_name y.name.text globals) (same_Some _ _ at) ∙ is in
      let met = subst (λ o. are_met bases k (bound_demand u o) ≡ true) bound here in
      subst (λ y. HasType bases k y v) (same_Some _ _ type) (typed bases k u v (and_parts (has_type bases k u v) true
      met).0)
  constant_met (x ∷ cs) (u ∷ ts) globals e (suc i) c t v at type is = constant_met cs ts globals
      (met_parts (bound_demand u (global_by_name x.name.text globals)) (constant_demands cs ts globals) e).1 i c t v at
      type is

-- the constants checked, the module is loaded under another heap typing
pub loaded_again : (m : Module) (types : List Tree) (k k' : HeapTyping) (made : List Class) (globals : Globals)
    → are_met (bases_of m) k' (constant_demands (constants_in m.items) types globals) ≡ true
    → IsLoaded m types k made globals → IsLoaded m types k' made globals
loaded_again m types k k' made globals met w = record {
  constant = λ word i t r e.
      let c = w.constant word i t r e in
      let n = constant_named m word i r in
      let b = n.behind in
      let at : i ≡ n.at = omega arith in
      record {
        value = c.value;
        is = c.is;
        has = constant_met (bases_of m) k' (constants_in m.items) types globals met i n.constant t c.value
            (ap (slice_get (constants_in m.items)) at ∙ n.is) e
            (subst (λ x. global_by_name x globals ≡ Some (a_value c.value)) (sym n.named) c.is);
      };
  function = λ word i d r e. let f = w.function word i d r e in
      record { function = f.function; is = f.is; made = made_again m k k' f.function d f.made };
  class = w.class;
  classes = λ c t e. class_again m k k' made c (w.classes c t e);
  reserved = w.reserved;
  no_more = w.no_more;
}
