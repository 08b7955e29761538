use Rattle.std.proofs.Common.{◌∙◌, ◌++◌, ◌&&◌, List, ap, ap₂}
use Rattle.pc_tree.specs.declared.code.Finding.{Finding}
use Rattle.pc_tree.specs.Stopping.{has_none}
use Rattle.pc_tree.specs.Tree.{ann_of}
use Rattle.pc_types.specs.Below.{Bases}
use Rattle.pc_types.specs.Boxed.{tree_of}
use Rattle.pc_types.specs.Join.{same_tree}
use Rattle.pc_types.specs.Tree.{Tree}
use Rattle.pc_annotations.specs.Annotations.{read_ann}
use Rattle.pc_annotations.specs.Listed.{ann_findings}
use Rattle.pc_detail_facts.specs.Held.{module_held}
use Rattle.pc_detail_facts.proofs.facts.Facts.denotes.Goals as goal

pub read_ann-requires : goal.read_ann-requires
read_ann-requires c = c.requires.outline.scopes

pub returns : goal.returns
returns c =
    let m = module_held c.args.self.now in
    let a = ann_of c.args.ann.now in
    let b = c.args.self.now.outline.now.parents.now in
    let t = tree_of c.args.ty.now in
    c.is_read_as.ensures
    ∙ ap₂ (λ (fs : List Finding) (u : Tree). has_none fs && same_tree u t)
    (c.deref.ensures.value ∙ c.in_ok-read.ensures.pushed
    ∙ ap (λ (l : List Finding). l ++ ann_findings m b a) c.new-found.ensures.items) c.in_ok-read.ensures.typed.1
    ∙ ap (λ (q : Bases). has_none (ann_findings m q a) && same_tree (read_ann m q a) t) c.requires.outline.parents
