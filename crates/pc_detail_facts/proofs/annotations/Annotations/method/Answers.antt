use Rattle.std.proofs.Common.{◌∙◌, [], Bor, Global, List, Option, Vec, ap, map}
use Rattle.std.specs.Option.{option_map}
use Rattle.std.specs.Prelude.{slice_get, unwrap_or}
use Rattle.pc_tree.specs.Tree.{FuncDef}
use Rattle.pc_tree.specs.declared.tree.FuncDef.{FuncDef as RustFunction}
use Rattle.pc_scope.specs.Bindings.{classes_in}
use Rattle.pc_detail_facts.specs.Held.{function_lent}
use Rattle.pc_detail_facts.proofs.FieldMaps.{method_held}
use Rattle.pc_detail_facts.proofs.Held.{found_at, missed_at}
use Rattle.pc_detail_facts.proofs.annotations.Annotations.method.Goals as goal

abbrev methods_or : Option (Vec (Bor RustFunction) Global) → List FuncDef
methods_or o = unwrap_or (option_map (λ (v : Vec (Bor RustFunction) Global). map function_lent v.items) o) []

pub returns-in-Some : goal.returns-in-Some
returns-in-Some c = λ m h.
    c.method_in.ensures
    ∙ ap (λ (l : List (Bor RustFunction)). slice_get (map function_lent l) c.args.number) c.deref-in-Some.ensures.value
    ∙ ap (λ (o : Option (Vec (Bor RustFunction) Global)). slice_get (methods_or o) c.args.number)
    (found_at c.deref.result.now c.args.class c.in-Some.methods.now c.in-Some.ensures.lookup.0
    c.in-Some.ensures.lookup.1
    ∙ ap (λ (l : List (Vec (Bor RustFunction) Global)). slice_get l c.args.class) c.deref.ensures.value)
    ∙ method_held c.args.self.now.methods.items (classes_in m.items) c.args.class c.args.number h.methods

pub returns-in-None : goal.returns-in-None
returns-in-None c = λ m h.
    ap (λ (o : Option (Vec (Bor RustFunction) Global)). slice_get (methods_or o) c.args.number)
    (missed_at c.deref.result.now c.args.class c.in-None.ensures.lookup.3
    ∙ ap (λ (l : List (Vec (Bor RustFunction) Global)). slice_get l c.args.class) c.deref.ensures.value)
    ∙ method_held c.args.self.now.methods.items (classes_in m.items) c.args.class c.args.number h.methods
