use Rattle.std.proofs.Common.{◌≡◌, ◌∙◌, Bor, Bool, List, Option, Some, ap, subst, sym}
use Rattle.std.specs.Option.{option_map}
use Rattle.std.specs.Prelude.{IfOk, if◌then◌else◌}
use Rattle.pc_tree.specs.Tree.{ann_of}
use Rattle.pc_tree.specs.declared.tree.Ann.{Ann as RustAnn}
use Rattle.pc_types.specs.Boxed.{tree_of}
use Rattle.pc_detail_texts.specs.Sentences.{Words}
use Rattle.pc_detail_texts.specs.Shortened.{shortened}
use Rattle.pc_detail_texts.specs.Shown.{words}
use Rattle.pc_detail_facts.specs.Annotated.{annotation_lent}
use Rattle.pc_detail_facts.specs.Held.{module_held}
use Rattle.pc_detail_facts.proofs.Results.{if_ok}
use Rattle.pc_detail_rules.specs.ToldTypes.{told_target, told_type}
use Rattle.pc_detail_rules.specs.Written.{ann_text}
use Rattle.pc_detail_facts.proofs.facts.Facts.target_words.Goals as goal

pub returns-then-is_written : goal.returns-then-is_written
returns-then-is_written c =
    let m = module_held c.args.self.now in
    let a = ann_of c.in-Some.ann.now in
    let t = tree_of c.args.ty.now in
    if_ok c.ann_words.result (λ w e. e
    ∙ ap (λ (b : Bool). if b then shortened (ann_text a) else told_type m t)
    (sym c.if-is_written.true ∙ c.in_ok-is_written-in-Some.ensures)
    ∙ sym (ap (λ (o : Option (Bor RustAnn)). told_target m (option_map annotation_lent o) t) c.in-Some.is))
    c.ann_words.ensures

pub returns-else-is_written : goal.returns-else-is_written
returns-else-is_written c =
    let m = module_held c.args.self.now in
    let a = ann_of c.in-Some.ann.now in
    let t = tree_of c.args.ty.now in
    if_ok c.type_words.result (λ w e. e
    ∙ ap (λ (b : Bool). if b then shortened (ann_text a) else told_type m t)
    (sym c.if-is_written.false ∙ c.in_ok-is_written-in-Some.ensures)
    ∙ sym (ap (λ (o : Option (Bor RustAnn)). told_target m (option_map annotation_lent o) t) c.in-Some.is))
    c.type_words.ensures
