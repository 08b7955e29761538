-- Each flow of a module has a sink, if at each place there is at most one expression; so E12 and A1 have details.
use Rattle.std.proofs.Common.{◌≡◌, ℕ, suc, List, [], ◌∷◌, ◌++◌, true, false, sym, subst}
use Rattle.std.proofs.Common.{map, Contains}
use Rattle.pc_tree.proofs.Among.{first_among}
use Rattle.std.proofs.lemmas.List.Elements.{Contains-append_right}
use Rattle.std.specs.List.{AllByRecursion}
use Rattle.std.specs.Prelude.{flat_map, find, Option, Some}
use Rattle.pc_source.specs.declared.place.Place.{Place}
use Rattle.pc_tree.specs.declared.code.Code.{Code}
use Rattle.pc_tree.specs.Depth.{place_of}
use Rattle.pc_tree.specs.Tree.{Expr}
use Rattle.pc_tree.specs.Tree.{Member, field_member, method_member, ClassDef, Constant, Item, constant_item}
use Rattle.pc_tree.specs.Tree.{class_item, def_item, Module}
use Rattle.pc_scope.specs.declared.resolution.Owner.TheVariants as owners
use Rattle.pc_scope.specs.Bindings.{constants_in, functions_in, classes_in, methods_in, Body, function_bodies}
use Rattle.pc_scope.specs.Bindings.{method_bodies, class_bodies, bodies}
use Rattle.pc_scope.specs.Expressions.{parts_in}
use Rattle.pc_scope.specs.Expressions.{exprs_in_all}
use Rattle.pc_scope.specs.Resolution.{receiver}
use Rattle.pc_types.specs.Tree.{Tree}
use Rattle.pc_annotations.specs.Bases.{bases_of}
use Rattle.pc_class.specs.Facts.{ClassFacts, return_type}
use Rattle.pc_class.specs.Findings.{base_class}
use Rattle.pc_rules.specs.Labels.{whole_label}
use Rattle.pc_rules.specs.Signatures.{initializer_context}
use Rattle.pc_rules.specs.Signatures.{binds_name, annotated_types}
use Rattle.pc_module_rules.specs.FirstAt.{first_flow_at}
use Rattle.pc_module_rules.specs.FlowsOfExpressions.{CodedFlow, coded_at, coded_in}
use Rattle.pc_module_rules.specs.FlowsOfModules.{flows_in_each, coded_at_default, coded_in_params, coded_in_members}
use Rattle.pc_module_rules.specs.FlowsOfModules.{coded_in_methods, coded_in_function, coded_in_item, coded_in_body}
use Rattle.pc_module_rules.specs.FlowsOfModules.{coded_flows, HasFlow}
use Rattle.pc_module_rules.specs.FlowsOfStatements.{coded_in_suite}
use Rattle.pc_module_rules.specs.Modules.{entry_parameters, names_entered, FunctionLabels, LawfulFunction, MembersLabels}
use Rattle.pc_module_rules.specs.Modules.{LawfulMembers, ModuleItemsLabels, constant_types, BeforeItem}
use Rattle.pc_module_rules.specs.Modules.{before_next, nothing_before, LawfulModuleItems, Labelling, IsLawful}
use Rattle.pc_module_rules.specs.TypesOfExpressions.{TypeAt}
use Rattle.pc_module_rules.specs.TypesOfExpressions.{types_in}
use Rattle.pc_module_rules.specs.TypesOfModules.{types_in_each, types_in_item, types_in_methods, types_in_body}
use Rattle.pc_module_rules.specs.TypesOfModules.{labelled_types}
use Rattle.pc_module_rules.specs.TypesOfStatements.{types_in_suite}
use Rattle.pc_module_rules.proofs.FirstFlows.{first_is}
use Rattle.pc_detail_texts.specs.Details.{flow}
use Rattle.pc_detail_texts.specs.Details.{a_constant, a_field_default}
use Rattle.pc_detail_rules.specs.Facts.{Known, known_under}
use Rattle.pc_detail_rules.specs.Laws.{HasOwnPlaces}
use Rattle.pc_detail_rules.specs.Nodes.{OwnedExpr, owned, exprs_of_body, exprs_of_module, stmts_in_suite}
use Rattle.pc_detail_rules.specs.Nodes.{function_name}
use Rattle.pc_detail_rules.specs.Sinks.{SinkAt, only_sink, takes_into, sink_among, flow_among}
use Rattle.pc_detail_rules.specs.Sinks.{parameter_default, default_of_field, sinks_of_class, sinks_of_constant}
use Rattle.pc_detail_rules.specs.Sinks.{sinks_in, sinks_of_stmt, sinks_of_body, sinks_of}
use Rattle.pc_detail_rules.proofs.Explained.Lists.{IsThere, there_mapped, all_left, all_right, all_unmapped, all_unjoined}
use Rattle.pc_detail_rules.proofs.Explained.Lists.{all_pick, all_among, all_weaker}
use Rattle.pc_detail_rules.proofs.Explained.Modules.{in_initializer}
use Rattle.pc_detail_rules.proofs.Explained.Places.{types_known}
use Rattle.pc_detail_rules.proofs.Explained.Sinks.{Sunk, AreIn, AreSunk, only_there, flows_sunk}
use Rattle.pc_detail_rules.proofs.Explained.Sinks.{Go, both}
use Rattle.pc_detail_rules.proofs.Explained.FlowsOfExpressions.{IsKnown, HasSinks, HasAll, whole_sunk}
use Rattle.pc_detail_rules.proofs.Explained.FlowsOfStatements.{suite_sunk, params_sunk, default_sunk}

-- ---- the module

module _ (m : Module) (labels : Labelling m) (code : Code) (separate : HasOwnPlaces m) where
  -- what is known under the labels
  abbrev known : Known
  known = known_under m labels

  abbrev constants : List Tree
  constants = constant_types m m.items labels

  -- the sinks of the module
  abbrev ss : List SinkAt
  ss = sinks_of m known

  abbrev Known' : List TypeAt → Type 0
  Known' ts = AllByRecursion (IsKnown known) ts

  abbrev Goes : List CodedFlow → Type 0
  Goes ds = Go ss ds

  abbrev of_constants : List SinkAt
  of_constants = flat_map sinks_of_constant (constants_in m.items)

  abbrev of_classes : List SinkAt
  of_classes = flat_map sinks_of_class (classes_in m.items)

  abbrev of_bodies : List SinkAt
  of_bodies = flat_map (sinks_of_body m known) (bodies m)

  abbrev of_exprs : List SinkAt
  of_exprs = flat_map (sinks_in m known) (exprs_of_module m)

  behind_constants : AreIn ss (of_classes ++ (of_bodies ++ of_exprs))
  behind_constants = all_right (Contains ss) of_constants (of_classes ++ (of_bodies ++ of_exprs)) (all_among ss)

  behind_classes : AreIn ss (of_bodies ++ of_exprs)
  behind_classes = all_right (Contains ss) of_classes (of_bodies ++ of_exprs) behind_constants

  -- the sinks of expressions
  each_expr : AllByRecursion (λ (o : OwnedExpr). AreIn ss (sinks_in m known o)) (exprs_of_module m)
  each_expr = all_unjoined (Contains ss) (sinks_in m known) (exprs_of_module m)
      (all_right (Contains ss) of_bodies of_exprs behind_classes)

  abbrev initial : List Expr
  initial = flat_map (λ (c : Constant). parts_in false c.value) (constants_in m.items)

  -- the parts of an initializer have their sinks
  abbrev ConstantSinks : Constant → Type 0
  ConstantSinks c = HasAll m known ss owners.Module c.value × AreIn ss (sinks_of_constant c)

  initial_sinks : AllByRecursion (λ (c : Constant). HasAll m known ss owners.Module c.value) (constants_in m.items)
  initial_sinks = all_unjoined (HasSinks m known ss owners.Module) (λ (c : Constant). parts_in false c.value)
      (constants_in m.items)
      (all_unmapped (λ (o : OwnedExpr). AreIn ss (sinks_in m known o)) (owned owners.Module) initial
      (all_left (λ (o : OwnedExpr). AreIn ss (sinks_in m known o)) (map (owned owners.Module) initial)
      (flat_map exprs_of_body (bodies m)) each_expr))

  constant_sinks : AllByRecursion (λ (c : Constant). AreIn ss (sinks_of_constant c)) (constants_in m.items)
  constant_sinks = all_unjoined (Contains ss) sinks_of_constant (constants_in m.items)
      (all_left (Contains ss) of_constants (of_classes ++ (of_bodies ++ of_exprs)) (all_among ss))

  -- the expressions of a body have their sinks
  body_exprs : (b : Body) → Contains (bodies m) b
      → AllByRecursion (HasAll m known ss b.owner) (exprs_in_all false b.function.body)
  body_exprs b of =
      let IsIn : OwnedExpr → Type 0 = λ (o : OwnedExpr). AreIn ss (sinks_in m known o) in
      let whole = flat_map (parts_in false) (exprs_in_all false b.function.body) in
      let each = all_unjoined IsIn exprs_of_body (bodies m)
      (all_right IsIn (map (owned owners.Module) initial) (flat_map exprs_of_body (bodies m)) each_expr) in
      all_unjoined (HasSinks m known ss b.owner) (parts_in false) (exprs_in_all false b.function.body)
      (all_unmapped IsIn (owned b.owner) whole
      (all_pick (λ (x : Body). AllByRecursion IsIn (exprs_of_body x)) (bodies m) b each of))

  -- the sinks of a body
  body_sinks : (b : Body) → Contains (bodies m) b → AreIn ss (sinks_of_body m known b)
  body_sinks b of = all_pick (λ (x : Body). AreIn ss (sinks_of_body m known x)) (bodies m) b
      (all_unjoined (Contains ss) (sinks_of_body m known) (bodies m)
      (all_left (Contains ss) of_bodies of_exprs behind_classes)) of

  param_sinks : (b : Body) → Contains (bodies m) b
      → AreIn ss (flat_map (parameter_default (function_name m b)) b.function.params)
  param_sinks b of = all_left (Contains ss) (flat_map (parameter_default (function_name m b)) b.function.params)
      (flat_map (sinks_of_stmt m known b) (stmts_in_suite b.function.body)) (body_sinks b of)

  function_sunk : (b : Body) → Contains (bodies m) b → (k : FunctionLabels b.function)
      → LawfulFunction m constants b.owner b.function k → Known' (types_in_suite true b.function.body k.body)
      → Goes (coded_in_suite code b.function.body k.body)
  function_sunk b of k law typed =
      let d = b.function in
      let stmts = all_unjoined (Contains ss) (sinks_of_stmt m known b) (stmts_in_suite d.body)
      (all_right (Contains ss) (flat_map (parameter_default (function_name m b)) d.params)
      (flat_map (sinks_of_stmt m known b) (stmts_in_suite d.body)) (body_sinks b of)) in
      suite_sunk m known code ss constants b of k.declared (return_type m d)
      (names_entered [] (entry_parameters m b.owner d)) _ d.body k.body k.out law.body stmts typed (body_exprs b of)

  abbrev IsBody : Body → Type 0
  IsBody b = Contains (bodies m) b

  joined : (xs ys : List CodedFlow) → Goes xs → Goes ys → Goes (xs ++ ys)
  joined xs ys h k = both ss xs ys h k

  members_sunk : (cname : List ℕ) (base : ClassFacts) (c nth : ℕ) (before : List (List ℕ)) (ms : List Member)
      (k : MembersLabels ms) → LawfulMembers m constants base c nth before ms k
      → AllByRecursion IsBody (method_bodies c nth (methods_in ms)) → AreIn ss (flat_map (default_of_field cname) ms)
      → Known' (types_in_methods true ms k) → Goes (coded_in_members code ms k) × Goes (coded_in_methods code ms k)
  members_sunk cname base c nth before [] k law own at typed = (tt, tt)
  members_sunk cname base c nth before (field_member x ∷ ms) k law own at typed =
      let others = flat_map (default_of_field cname) ms in
      let later = members_sunk cname base c nth (x.name.text ∷ before) ms k.rest law.others own
      (all_right (Contains ss) (default_of_field cname (field_member x)) others at) typed in (
        joined (coded_at_default code x.default k.default) (coded_in_members code ms k.rest)
            (default_sunk m known code ss _ x.default _ k.default (a_field_default cname x.name.text) (Some x.annotation) law.default
            (all_left (Contains ss) (default_of_field cname (field_member x)) others at)) later.0,
        later.1,
      )
  members_sunk cname base c nth before (method_member x ∷ ms) k law own at typed =
      let b : Body = record { owner = owners.Method c nth; function = x } in
      let in_method = types_in_suite true x.body k.method.body in
      let in_others = types_in_methods true ms k.rest in
      let later = members_sunk cname base c (suc nth) (x.name.text ∷ before) ms k.rest law.others own.1 at
      (all_right (IsKnown known) in_method in_others typed) in (
        joined (coded_in_params code x.params k.method.params) (coded_in_members code ms k.rest)
            (params_sunk m known code ss (function_name m b) (receiver b.owner) x.params k.method.params law.method.params
            (param_sinks b own.0)) later.0,
        joined (coded_in_suite code x.body k.method.body) (coded_in_methods code ms k.rest)
            (function_sunk b own.0 k.method law.method (all_left (IsKnown known) in_method in_others typed))
            later.1,
      )

  -- the flows of items: at the defaults of functions, in constants and classes, and in bodies
  record ItemsSunk (items : List Item) (k : ModuleItemsLabels items) : Type 0 where
    functions : Goes (flows_in_each (coded_in_function code) items k)
    values : Goes (flows_in_each (coded_in_item code) items k)
    bodies : Goes (flows_in_each (coded_in_body code) items k)

  items_sunk_all : (b : BeforeItem) (items : List Item) (k : ModuleItemsLabels items)
      → LawfulModuleItems m constants b items k
      → AllByRecursion (λ (c : Constant). HasAll m known ss owners.Module c.value) (constants_in items)
      → AllByRecursion (λ (c : Constant). AreIn ss (sinks_of_constant c)) (constants_in items)
      → AllByRecursion (λ (c : ClassDef). AreIn ss (sinks_of_class c)) (classes_in items)
      → AllByRecursion IsBody (function_bodies b.functions (functions_in items))
      → AllByRecursion IsBody (class_bodies b.classes (classes_in items))
      → Known' (types_in_each (types_in_item true) items k) → Known' (types_in_each (types_in_body true) items k)
      → ItemsSunk items k
  items_sunk_all b [] k law parts consts classes functions methods typed bodied =
      record { functions = tt; values = tt; bodies = tt }
  items_sunk_all b (constant_item p c ∷ rest) k law parts consts classes functions methods typed bodied =
      let in_value = types_in true c.value k.first.value in
      let in_rest = types_in_each (types_in_item true) rest k.rest in
      let later = items_sunk_all (before_next m b (constant_item p c) k.first) rest k.rest law.1 parts.1 consts.1 classes
      functions methods (all_right (IsKnown known) in_value in_rest typed) bodied in
      let here = coded_in code c.value k.first.value ++ coded_at code (place_of c.value) k.first.flows in
      let ctx = in_initializer m b.constants b.classes in
      record {
        functions = later.functions;
        values = joined here (flows_in_each (coded_in_item code) rest k.rest)
            (joined (coded_in code c.value k.first.value) (coded_at code (place_of c.value) k.first.flows)
            (whole_sunk m known code ss owners.Module (initializer_context m b.constants b.classes) ctx [] [] _ c.value
            k.first.value law.0.value (all_left (IsKnown known) in_value in_rest typed) parts.0)
            (flows_sunk ss code (bases_of m) (whole_label c.value k.first.value)
            (annotated_types m (binds_name b.names c.name) c.annotation) k.first.flows (place_of c.value) law.0.flow
            (every (annotated_types m (binds_name b.names c.name) c.annotation) consts.0.0))) later.values;
        bodies = later.bodies;
      }
    where
      every : (ts : List Tree) → Contains ss (only_sink (place_of c.value) (a_constant c.name.text) c.annotation)
          → AreSunk ss (place_of c.value) ts
      every [] h = tt
      every (t ∷ ts) h = (only_there ss (place_of c.value) (a_constant c.name.text) t c.annotation h, every ts h)
  items_sunk_all b (class_item p c ∷ rest) k law parts consts classes functions methods typed bodied =
      let own = method_bodies b.classes 0 (methods_in c.members) in
      let others = class_bodies (suc b.classes) (classes_in rest) in
      let in_class = types_in_methods true c.members k.first in
      let in_rest = types_in_each (types_in_body true) rest k.rest in
      let here = members_sunk c.name.text (base_class m b.classes c) b.classes 0 [] c.members k.first law.0
      (all_left IsBody own others methods) classes.0 (all_left (IsKnown known) in_class in_rest bodied) in
      let later = items_sunk_all (before_next m b (class_item p c) k.first) rest k.rest law.1 parts consts classes.1
      functions (all_right IsBody own others methods) typed (all_right (IsKnown known) in_class in_rest bodied) in
      record {
        functions = later.functions;
        values = joined (coded_in_members code c.members k.first) (flows_in_each (coded_in_item code) rest k.rest) here.0
            later.values;
        bodies = joined (coded_in_methods code c.members k.first) (flows_in_each (coded_in_body code) rest k.rest) here.1
            later.bodies;
      }
  items_sunk_all b (def_item p d ∷ rest) k law parts consts classes functions methods typed bodied =
      let f : Body = record { owner = owners.Func b.functions; function = d } in
      let in_function = types_in_suite true d.body k.first.body in
      let in_rest = types_in_each (types_in_body true) rest k.rest in
      let later = items_sunk_all (before_next m b (def_item p d) k.first) rest k.rest law.1 parts consts classes functions.1
      methods typed (all_right (IsKnown known) in_function in_rest bodied) in
      record {
        functions = joined (coded_in_params code d.params k.first.params)
            (flows_in_each (coded_in_function code) rest k.rest)
            (params_sunk m known code ss (function_name m f) (receiver f.owner) d.params k.first.params law.0.params
            (param_sinks f functions.0)) later.functions;
        values = later.values;
        bodies = joined (coded_in_suite code d.body k.first.body) (flows_in_each (coded_in_body code) rest k.rest)
            (function_sunk f functions.0 k.first law.0 (all_left (IsKnown known) in_function in_rest bodied))
            later.bodies;
      }

  -- each flow of the module has a sink
  all_sunk : IsLawful m labels → Goes (coded_flows code m labels)
  all_sunk lawful =
      let functions = function_bodies 0 (functions_in m.items) in
      let methods = class_bodies 0 (classes_in m.items) in
      let in_items = types_in_each (types_in_item true) m.items labels in
      let in_bodies = types_in_each (types_in_body true) m.items labels in
      let typed : Known' (labelled_types true m labels) = all_weaker
      (λ (t : TypeAt). HasOwnPlaces m → known.types t.place ≡ t.type) (IsKnown known) (λ t h. h separate)
      (labelled_types true m labels) (types_known m labels) in
      let classes = all_unjoined (Contains ss) sinks_of_class (classes_in m.items)
      (all_left (Contains ss) of_classes (of_bodies ++ of_exprs) behind_constants) in
      let each = items_sunk_all nothing_before m.items labels lawful initial_sinks constant_sinks classes
      (all_left IsBody functions methods (all_among (bodies m)))
      (all_right IsBody functions methods (all_among (bodies m)))
      (all_left (IsKnown known) in_items in_bodies typed)
      (all_right (IsKnown known) in_items in_bodies typed) in
      let defaults = flows_in_each (coded_in_function code) m.items labels in
      let in_each = flows_in_each (coded_in_item code) m.items labels in
      joined (defaults ++ in_each) (flows_in_each (coded_in_body code) m.items labels)
      (joined defaults in_each each.functions each.values) each.bodies

  -- a first flow at a place has a detail
  pub flow_told : IsLawful m labels → (p : Place) → HasFlow code m p
      → IsThere (flow_among ss p (first_flow_at p (coded_flows code m labels)))
  flow_told lawful p h =
      let first = h.flows labels lawful in
      let d : CodedFlow = record { place = p; from = h.from; into = h.into } in
      let among : Contains (coded_flows code m labels) d = subst (λ (ds : List CodedFlow). Contains ds d) (sym first.order)
      (Contains-append_right first.before (d ∷ first.behind) d (first_among d first.behind)) in
      let there = all_pick (Sunk ss) (coded_flows code m labels) d (all_sunk lawful) among in
      subst (λ (o : Option (Tree × Tree)). IsThere (flow_among ss p o))
      (sym (first_is p h.from h.into (coded_flows code m labels) first))
      (there_mapped (flow h.from h.into) (sink_among ss p h.into)
      (there_mapped (λ (s : SinkAt). s.sink) (find (takes_into p h.into) ss) there))
