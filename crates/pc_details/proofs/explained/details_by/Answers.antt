use Rattle.std.proofs.Common.{◌∙◌, ◌++◌, List, ap₂}
use Rattle.pc_tree.specs.Tree.{ClassDef, FuncDef}
use Rattle.pc_scope.specs.Bindings.{class_bodies, function_bodies}
use Rattle.pc_annotations.specs.ModuleOutlines.{module_in}
use Rattle.pc_detail_facts.specs.declared.facts.Facts.{Facts}
use Rattle.pc_details.proofs.DetailsMade.{all_told, parents_of_table}
use Rattle.pc_details.proofs.LeftToTell.{listed_told}
use Rattle.pc_details.proofs.explained.details_by.Goals as goal

pub details_with-requires-clause-facts : goal.details_with-requires-clause-facts
details_with-requires-clause-facts c = record {
  outline = c.requires.outline;
  classes = c.requires.classes;
  parents = parents_of_table (module_in c.args.outline.now) c.args.classes.now c.requires.classes;
  given = c.requires.given;
  fields = c.requires.fields;
  listed = c.requires.listed;
  annotations = c.in_ok-annotations.ensures;
  definitions = c.requires.definitions;
  known = c.requires.known;
}

pub details_with-requires-clause-bodies : goal.details_with-requires-clause-bodies
details_with-requires-clause-bodies c = rw c.deref-2.ensures.value (c.in_ok-bodies.ensures
    ∙ ap₂ (λ (fs : List FuncDef) (cs : List ClassDef). function_bodies 0 fs ++ class_bodies 0 cs)
    c.requires.definitions.functions c.requires.definitions.classes)

pub returns-clause-right : goal.returns-clause-right
returns-clause-right c = λ told h. all_told c.details_with.result _ c.args.findings.now told
    c.details_with.ensures.right h

pub returns-clause-whole : goal.returns-clause-whole
returns-clause-whole c = λ told h distinct.
    let facts : Facts = record {
      alloc = c.args.alloc;
      outline = c.args.outline;
      classes = c.args.classes;
      fields = c.args.fields;
      annotations = record { ref_ptr = (c.annotations-2-1.given, 0); now = c.in_ok-annotations.annotations };
      definitions = c.args.definitions;
      known = c.args.known;
    } in
    listed_told c.details_with.result facts c.args.findings.now told (c.details_with.ensures.whole distinct) h
