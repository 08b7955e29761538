use Rattle.std.proofs.Common.{◌≡◌, ◌∙◌, sym, ap, length, arith}
use Rattle.std.proofs.lemmas.List.{length-map}
use Rattle.pc_tree.specs.Tree.{ClassDef}
use Rattle.pc_scope.specs.Bindings.{classes_in}
use Rattle.pc_detail_facts.specs.Held.{class_lent, module_held}
use Rattle.pc_type_details.proofs.ClassesBelow.{class_here, class_next}
use Rattle.pc_type_details.proofs.attributes.class_below.Goals as goal
use Rattle.std.proofs.Common.{List}

pub returns-then-is_class_below : goal.returns-then-is_class_below
returns-then-is_class_below c =
    let m = module_held c.args.facts.now in
    let all : length c.args.facts.now.definitions.now.classes.items ≡ length (classes_in m.items) =
    sym (length-map c.args.facts.now.definitions.now.classes.items class_lent)
    ∙ ap (λ (cs : List ClassDef). length cs) c.requires.definitions.classes in
    sym (class_here m c.args.name.now c.args.above c.loop-class.class (omega arith)
    (sym c.is_class_below.ensures ∙ c.if-is_class_below.true)) ∙ c.loop-class.invariant

pub loop-class-preserved : goal.loop-class-preserved
loop-class-preserved c =
    let m = module_held c.args.facts.now in
    let all : length c.args.facts.now.definitions.now.classes.items ≡ length (classes_in m.items) =
    sym (length-map c.args.facts.now.definitions.now.classes.items class_lent)
    ∙ ap (λ (cs : List ClassDef). length cs) c.requires.definitions.classes in
    sym (class_next m c.args.name.now c.args.above c.loop-class.class (omega arith)
    (sym c.is_class_below.ensures ∙ c.if-is_class_below.false)) ∙ c.loop-class.invariant
