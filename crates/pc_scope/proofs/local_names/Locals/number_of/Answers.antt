use Rattle.std.proofs.Common.{◌∙◌, ap, sym}
use Rattle.std.specs.Prelude.{string_bytes, position, bytes_eq}
use Rattle.pc_tree.specs.Text.{text_bytes}
use Rattle.pc_scope.specs.declared.local_names.Locals.{Locals}
use Rattle.pc_scope.specs.Resolution.{index_of}
use Rattle.pc_scope.specs.Internal.WalkViews.{locals_in}
use Rattle.pc_scope.proofs.TextSets.{placed}
use Rattle.pc_scope.proofs.local_names.Locals.number_of.Goals as goal

pub returns-in-Few : goal.returns-in-Few
returns-in-Few c = c.place_of.ensures
    ∙ ap (position (λ t. bytes_eq c.args.name.now (text_bytes t))) c.deref.ensures.value
    ∙ placed text_bytes c.args.name.now c.in-Few.texts.items
    ∙ ap (λ (l : Locals). index_of c.args.name.now (locals_in l)) (sym c.in-Few.is)

pub returns-in-Many : goal.returns-in-Many
returns-in-Many c = c.get_index_of.ensures.index ∙ placed string_bytes c.args.name.now c.in-Many.texts.keys
    ∙ ap (λ (l : Locals). index_of c.args.name.now (locals_in l)) (sym c.in-Many.is)
