use Rattle.pc_flow.specs.Naming.{meanings}
use Rattle.std.proofs.Common.{◌≡◌, ◌++◌, map, length, ap, subst, ◌∙◌}
use Rattle.std.specs.Prelude.{IfOk, OnOk}
use Rattle.std.specs.Option.{option_map}
use Rattle.pc_tree.specs.Tree.{expr_of}
use Rattle.pc_flow.specs.Stored.{env_of, declared_of}
use Rattle.pc_notes.specs.Notes.{notes_of}
use Rattle.pc_rules.specs.Computed.Standing.{Standing, MeansLabel, label_in, finds_in}
use Rattle.pc_annotations.specs.ModuleOutlines.{module_in}
use Rattle.pc_signatures.proofs.InitializerStanding.{module_names, standing_is}
use Rattle.pc_signatures.proofs.constants.type_initializer.Goals as goal

pub returns-clause-labelled : goal.returns-clause-labelled
unfolding meanings label_in
returns-clause-labelled g c =
    let tree = g.S.TypeStore.tree in
    let globals = c.requires.globals in
    let m = module_in c.args.globals.now.outline.now in
    let is = standing_is m _ _ _ c.args.globals.now.keeps _ (map tree c.args.read.now.constants.items) _
    (length c.args.read.now.methods.items) _ _ _
    globals.outline.parents globals.classes globals.functions.are (ap (map tree) c.deref.ensures.value)
    (c.len.ensures ∙ c.args.read.now.methods.ok.0) (module_names m _ globals.outline.scopes.tables)
    (ap (declared_of tree) c.in_ok-declared.ensures) (ap (env_of tree) c.in_ok-env.ensures) in
    subst (λ (k : Standing). IfOk c.check_expr.result (λ l. MeansLabel g.S.TypeStore.has tree
    c.check_expr.new.state.store.now l (label_in k (option_map tree c.args.want.now) (expr_of c.args.value.now))))
    is c.check_expr.ensures.labelled

pub returns-clause-found : goal.returns-clause-found
unfolding meanings
returns-clause-found g c =
    let tree = g.S.TypeStore.tree in
    let globals = c.requires.globals in
    let m = module_in c.args.globals.now.outline.now in
    let is = standing_is m _ _ _ c.args.globals.now.keeps _ (map tree c.args.read.now.constants.items) _
    (length c.args.read.now.methods.items) _ _ _
    globals.outline.parents globals.classes globals.functions.are (ap (map tree) c.deref.ensures.value)
    (c.len.ensures ∙ c.args.read.now.methods.ok.0) (module_names m _ globals.outline.scopes.tables)
    (ap (declared_of tree) c.in_ok-declared.ensures) (ap (env_of tree) c.in_ok-env.ensures) in
    subst (λ (k : Standing). OnOk c.check_expr.result ((notes_of c.check_expr.new.state.found.now)
    ≡ (notes_of c.args.state.now.found.now) ++ finds_in k (option_map tree c.args.want.now)
    (expr_of c.args.value.now))) is c.check_expr.ensures.found
