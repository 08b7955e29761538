use Rattle.std.proofs.Common.{◌∙◌, ◌++◌, List, Some, ap, sym}
use Rattle.pc_tree.specs.declared.code.Finding.{Finding}
use Rattle.pc_tree.specs.Tree.{ann_of}
use Rattle.pc_types.specs.Tree.{Tree}
use Rattle.pc_annotations.specs.Listed.{ann_findings}
use Rattle.pc_detail_facts.specs.Held.{module_held}
use Rattle.pc_type_details.proofs.LargeTypes.{read_large, read_small}
use Rattle.pc_type_details.proofs.annotating.reading.Goals as goal

pub returns-then-is_too_large-clause-reading : goal.returns-then-is_too_large-clause-reading
returns-then-is_too_large-clause-reading c =
    let f = c.args.facts.now in
    let m = module_held f in
    let bases = f.outline.now.parents.now in
    let a = ann_of c.args.ann.now in
    read_large m bases a c.read_ann.new.found.items c.requires.outline.parents
    (c.in_ok-ty.ensures.pushed ∙ ap (λ (l : List Finding). l ++ ann_findings m bases a) c.new-found.ensures.items)
    (sym c.if-is_too_large.true ∙ c.is_too_large.ensures)

pub returns-clause-reading : goal.returns-clause-reading
returns-clause-reading c =
    let f = c.args.facts.now in
    let m = module_held f in
    let bases = f.outline.now.parents.now in
    let a = ann_of c.args.ann.now in
    ap (λ (t : Tree). Some t) c.in_ok-ty.ensures.typed.1
    ∙ read_small m bases a c.read_ann.new.found.items c.requires.outline.parents
    (c.in_ok-ty.ensures.pushed ∙ ap (λ (l : List Finding). l ++ ann_findings m bases a) c.new-found.ensures.items)
    (sym c.if-is_too_large.false ∙ c.is_too_large.ensures)
