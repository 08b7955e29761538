use Rattle.std.proofs.Common.{◌∙◌, ap, map}
use Rattle.pc_tree.specs.Tree.{module_of}
use Rattle.pc_class.specs.Facts.{ClassFacts}
use Rattle.pc_notes.specs.Notes.{notes_of}
use Rattle.pc_details.proofs.DetailsMade.{parents_of_table}
use Rattle.pc_details.proofs.explained.details_of.Goals as goal

pub details_by-requires-clause-outline : goal.details_by-requires-clause-outline
details_by-requires-clause-outline c = record {
  scopes = c.requires.scopes;
  parents = c.parents.ensures ∙ parents_of_table (module_of c.args.module.now) c.args.classes.now c.requires.classes;
}

pub details_by-requires-clause-fields : goal.details_by-requires-clause-fields
details_by-requires-clause-fields c = rw c.deref.ensures.value (c.in_ok-fields.ensures.fields
    ∙ ap (map (λ (x : ClassFacts). x.fields)) c.requires.classes)

pub details_by-requires-clause-listed : goal.details_by-requires-clause-listed
details_by-requires-clause-listed c = rw c.deref.ensures.value c.in_ok-fields.ensures.given

pub returns-clause-right : goal.returns-clause-right
returns-clause-right c = c.details_by.ensures.right (notes_of c.args.notes.now) c.in_ok-known.ensures.told

pub returns-clause-whole : goal.returns-clause-whole
returns-clause-whole c = c.details_by.ensures.whole (notes_of c.args.notes.now) c.in_ok-known.ensures.told
