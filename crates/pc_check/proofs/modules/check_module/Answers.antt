use Rattle.std.proofs.Common.{◌∙◌, List, map, length, sym, ap}
use Rattle.pc_tree.specs.declared.tree.Item.{Item as RustItem}
use Rattle.pc_tree.specs.Tree.{item_of, module_of}
use Rattle.pc_scope.specs.Bindings.{classes_in}
use Rattle.pc_class.specs.Facts.{ClassFacts}
use Rattle.pc_class.proofs.ItemsBuilt.{bases_are, bases_there}
use Rattle.pc_rules.proofs.Kept.{entries_kept}
use Rattle.pc_check.proofs.modules.check_module.Goals as goal

pub read_signatures-requires-clause-outline : goal.read_signatures-requires-clause-outline
read_signatures-requires-clause-outline g c = record {
  scopes = c.requires.scopes;
  parents = c.parents-parents.ensures ∙ sym (bases_there g.S.TypeStore.tree c.args.classes.now)
      ∙ ap (map (λ (x : ClassFacts). x.base)) c.requires.classes ∙ bases_are (module_of c.args.tree.now);
}

pub check_bodies-requires : goal.check_bodies-requires
check_bodies-requires g c =
    let has = g.S.TypeStore.has in
    record {
      outline = record {
        scopes = c.requires.scopes;
        parents = c.parents-parents.ensures ∙ sym (bases_there g.S.TypeStore.tree c.args.classes.now)
            ∙ ap (map (λ (x : ClassFacts). x.base)) c.requires.classes ∙ bases_are (module_of c.args.tree.now);
      };
      classes = c.requires.classes;
      entries = entries_kept (has c.args.store.now) (has _) c.read_signatures.ensures.goes_on.kept c.args.classes.now
          c.requires.entries;
      held = c.in_ok-signatures.ensures.held;
      same_constants = c.constants.ensures;
      same_functions = c.functions.ensures;
      constants = c.in_ok-signatures.ensures.constants;
      functions = c.in_ok-signatures.ensures.functions;
      methods = c.in_ok-signatures.ensures.methods;
      known = c.count_classes-known.ensures
          ∙ ap (λ (l : List RustItem). length (classes_in (map item_of l))) c.as_slice.ensures.value;
    }
