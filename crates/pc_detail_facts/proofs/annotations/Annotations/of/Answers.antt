use Rattle.std.proofs.Common.{◌∙◌, [], List, ap, map, subst}
use Rattle.pc_tree.specs.Tree.{ClassDef}
use Rattle.pc_scope.specs.Bindings.{classes_in, methods_in}
use Rattle.pc_types.specs.Below.{Bases}
use Rattle.pc_annotations.specs.ModuleOutlines.{module_in}
use Rattle.pc_detail_facts.specs.Annotated.{HoldsFields}
use Rattle.pc_detail_rules.specs.Written.{fields_behind}
use Rattle.pc_detail_facts.proofs.annotations.Annotations.of.Goals as goal

pub returns : goal.returns
returns c = record {
  fields = subst (λ (b : Bases). HoldsFields (fields_behind b [] 0 (classes_in (module_in c.args.outline.now).items))
      c.in_ok-fields.fields) c.requires.outline.parents
      (subst (λ (cs : List ClassDef). HoldsFields (fields_behind c.args.outline.now.parents.now [] 0 cs)
      c.in_ok-fields.fields) c.requires.classes c.in_ok-fields.ensures);
  methods = c.in_ok-methods.ensures ∙ ap (map (λ (d : ClassDef). methods_in d.members)) c.requires.classes;
}
