use Rattle.std.proofs.Common.{◌≡◌, ◌∙◌, ◌++◌, List, Option, Some, sym, ap, subst}
use Rattle.std.specs.Option.{option_map}
use Rattle.pc_scope.specs.declared.resolution.NameMeaning.{NameMeaning}
use Rattle.pc_tree.specs.Tree.{ann_of, expr_of, name_of, module_of, option_expr_of}
use Rattle.pc_types.specs.Tree.{Tree}
use Rattle.pc_annotations.specs.Annotations.{read_ann}
use Rattle.pc_flow.specs.Stored.{env_of}
use Rattle.pc_notes.specs.Notes.{Note, notes_of}
use Rattle.pc_rules.specs.Computed.ModuleParents.{class_parents}
use Rattle.pc_module_rules.specs.Computed.Statements.{annotation_finds, bound_name}
use Rattle.pc_module_rules.specs.Computed.Statements.{annotated_binding, bind_value}
use Rattle.pc_walk.specs.AnnotatedNames.{declared_by}
use Rattle.pc_walk.specs.declared.context.BodyContext.{BodyContext as RustBodyContext}
use Rattle.pc_walk.specs.StatementsHeld.{HoldsTypeIfAny, HoldsTypes, body_context_with}
use Rattle.pc_walk.specs.Walks.{HoldsEnv, body_context_in}
use Rattle.pc_walk.proofs.Bound.{alone_gives, value_unless}
use Rattle.pc_walk.proofs.Held.{types_kept}
use Rattle.pc_walk.proofs.Walks.{stands_on}
use Rattle.pc_statements.proofs.binding.bind_read.Goals as goal

pub bind_value-requires-clause-stands : goal.bind_value-requires-clause-stands
bind_value-requires-clause-stands g c =
    let a = c.in_ok-ty.ensures in
    stands_on g.S.TypeStore c.args.walk.now c.annotated_type.new.walk c.args.env c.requires a.goes_on
    a.declared

pub returns-in-None-clause-bound : goal.returns-in-None-clause-bound
returns-in-None-clause-bound g c =
    let S = g.S.TypeStore in
    let tree = S.tree in
    let old = c.args.walk.now in
    let mid = c.annotated_type.new.walk in
    let a = c.in_ok-ty.ensures in
    let bases = (class_parents old.context.globals.now) in
    let F = body_context_in S old in
    let T = env_of tree old.declared.now in
    let E = env_of tree c.args.env in
    let name = name_of c.args.name.now in
    let annotation = ann_of c.args.annotation.now in
    let found = notes_of old.found.now in
    let t = read_ann (module_of old.context.globals.now.outline.now.tree.now) bases annotation in
    let meaning = c.args.meaning in
    let ty = c.in_ok-ty.ty in
    let declared = declared_by old.declared.now meaning ty in
    let held = subst (λ (f : RustBodyContext _). HoldsTypeIfAny (S.has mid.store.now) tree
    (class_parents f.globals.now) ty)
    c.annotated_type.ensures.goes_on.context a.typed.0 in
    let alone = alone_gives S.has tree bases mid.store.now F old.declared.now meaning ty t a.typed.1 held
    (types_kept S.has tree bases old.store.now mid.store.now c.annotated_type.ensures.goes_on.kept old.declared.now
    c.requires.declared) in
    let declared_is : c.declare_alone.new.declared ≡ declared =
    c.declare_alone.ensures ∙ ap (λ (ds : List (Option _)). declared_by ds meaning ty) a.declared in
    let table_is = ap (env_of tree) declared_is ∙ alone.is in
    let stood = stands_on S old mid c.args.env c.requires c.annotated_type.ensures.goes_on a.declared in
    let later = subst (λ (f : RustBodyContext _). HoldsTypes (S.has mid.store.now) tree
    (class_parents f.globals.now) declared)
    (sym c.annotated_type.ensures.goes_on.context) alone.holds in
    rw c.in-None.is (record {
      is = λ i. record { table = table_is i; env = E; found = a.pushed i };
      stands = record {
        context = stood.context;
        declared = subst (λ (ds : List (Option _)). HoldsEnv S mid ds) (sym declared_is) later;
        current = stood.current;
      };
    })

pub returns-in_ok-behind-in-Some-clause-bound : goal.returns-in_ok-behind-in-Some-clause-bound
returns-in_ok-behind-in-Some-clause-bound g c =
    let S = g.S.TypeStore in
    let tree = S.tree in
    let old = c.args.walk.now in
    let mid = c.annotated_type.new.walk in
    let a = c.in_ok-ty.ensures in
    let b = c.in_ok-behind-in-Some.ensures.bound in
    let F = body_context_in S old in
    let T = env_of tree old.declared.now in
    let E = env_of tree c.args.env in
    let name = name_of c.args.name.now in
    let annotation = ann_of c.args.annotation.now in
    let found = notes_of old.found.now in
    let after = notes_of mid.found.now in
    let t = read_ann (module_of old.context.globals.now.outline.now.tree.now)
    (class_parents old.context.globals.now) annotation in
    let meaning = c.args.meaning in
    let ty = option_map tree c.in_ok-ty.ty in
    let e = expr_of c.deref.result.now in
    let inside : NameMeaning → List Note = λ r. found ++ annotation_finds F (bound_name F T r) name annotation in
    record {
      is = b.is
          ∙ ap (λ (f : RustBodyContext _). bind_value (body_context_with tree f)
          (env_of tree mid.declared.now) E meaning ty e
          after) c.annotated_type.ensures.goes_on.context
          ∙ ap (λ (ds : List (Option _)). bind_value F (env_of tree ds) E meaning ty e after) a.declared
          ∙ ap (λ (ns : List Note). bind_value F T E meaning ty e ns) a.pushed
          ∙ ap (λ (o : Option Tree). bind_value F T E meaning o e (inside meaning)) a.typed.1
          ∙ value_unless F T E meaning t e (inside meaning)
          ∙ ap (λ x. annotated_binding F T E meaning name annotation (Some (expr_of x)) found) c.deref.ensures
          ∙ ap (λ v. annotated_binding F T E meaning name annotation (option_expr_of v) found) (sym c.in-Some.is);
      stands = b.stands;
    }
