use Rattle.std.proofs.Common.{◌∙◌, map, sym, ap}
use Rattle.pc_tree.specs.Tree.{module_of}
use Rattle.pc_class.specs.Facts.{ClassFacts}
use Rattle.pc_class.proofs.ItemsBuilt.{bases_are, bases_there}
use Rattle.pc_rules.proofs.Kept.{entries_kept}
use Rattle.test_typing.proofs.signatures.signed_text.Goals as goal

pub read_signatures-requires-clause-outline : goal.read_signatures-requires-clause-outline
read_signatures-requires-clause-outline g c = record {
  scopes = c.requires.scopes;
  parents = c.parents.ensures ∙ sym (bases_there g.S.TypeStore.tree c.args.classes.now)
      ∙ ap (map (λ (x : ClassFacts). x.base)) c.requires.classes ∙ bases_are (module_of c.args.tree.now);
}

pub label_text-requires-clause-classes : goal.label_text-requires-clause-classes
label_text-requires-clause-classes g c = entries_kept (g.S.TypeStore.has _) (g.S.TypeStore.has _)
    c.read_signatures.ensures.goes_on.kept _ c.requires.entries
