use Rattle.std.proofs.Common.{◌≡◌, OnOk, sym, subst}
use Rattle.pc_tree.specs.declared.tree.ItemKind.{ItemKind}
use Rattle.pc_tree.specs.Tree.{item_of_kind}
use Rattle.pc_rules.specs.Computed.Signatures.{behind}
use Rattle.pc_annotations.specs.ModuleOutlines.{module_in}
use Rattle.pc_signatures.specs.Internal.ItemsRead.{reached_with}
use Rattle.pc_signatures.proofs.constants.add_item.Goals as goal

pub returns-in-Constant-clause-reached : goal.returns-in-Constant-clause-reached
returns-in-Constant-clause-reached g c =
    let tree = g.S.TypeStore.tree in
    let m = module_in c.args.globals.now.outline.now in
    subst (λ (k : ItemKind). OnOk c.add_constant.result (reached_with tree c.add_constant.new.read
    ≡ behind m (reached_with tree c.args.read.now) (item_of_kind c.args.item.now.first k))) (sym c.in-Constant.is)
    (c.add_constant.ensures.reached c.args.item.now.first)

pub returns-in-Class-clause-reached : goal.returns-in-Class-clause-reached
returns-in-Class-clause-reached g c =
    let tree = g.S.TypeStore.tree in
    let m = module_in c.args.globals.now.outline.now in
    subst (λ (k : ItemKind). OnOk c.add_class.result (reached_with tree c.add_class.new.read
    ≡ behind m (reached_with tree c.args.read.now) (item_of_kind c.args.item.now.first k))) (sym c.in-Class.is)
    (c.add_class.ensures.reached c.args.item.now.first)
