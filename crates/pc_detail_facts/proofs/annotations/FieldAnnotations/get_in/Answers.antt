use Rattle.std.proofs.Common.{◌∙◌, Bor, List, ap, sym}
use Rattle.std.specs.Option.{option_map}
use Rattle.std.specs.Prelude.{slice_get}
use Rattle.pc_tree.specs.declared.tree.Field.{Field as RustField}
use Rattle.pc_tree.specs.Tree.{ann_of}
use Rattle.pc_shared_maps.specs.SharedLists.{at_number}
use Rattle.pc_detail_facts.proofs.FieldMaps.{annotation_held}
use Rattle.pc_detail_facts.proofs.Held.{found_at, missed_at}
use Rattle.pc_detail_facts.proofs.annotations.FieldAnnotations.get_in.Goals as goal

pub get-requires : goal.get-requires
get-requires c = c.requires.1.held.is_map

pub returns-in-None : goal.returns-in-None
returns-in-None c = λ those h. ap (λ o. option_map (λ (x : Bor RustField). ann_of x.now.annotation)
    (at_number c.args.self.now.fields.items o)) (sym c.in-None.is ∙ c.get.ensures)
    ∙ annotation_held c.args.name.now c.args.self.now those c.args.map h

pub returns-in-Some-get : goal.returns-in-Some-get
returns-in-Some-get c = λ those h.
    let f = c.args.self.now in
    ap (option_map (λ (x : Bor RustField). ann_of x.now.annotation))
    (found_at c.deref.result.now c.in-Some.number c.in-Some-get.field.now c.in-Some-get.ensures.lookup.0
    c.in-Some-get.ensures.lookup.1
    ∙ ap (λ (l : List (Bor RustField)). slice_get l c.in-Some.number) c.deref.ensures.value)
    ∙ ap (λ o. option_map (λ (x : Bor RustField). ann_of x.now.annotation) (at_number f.fields.items o))
    (sym c.in-Some.is ∙ c.get.ensures)
    ∙ annotation_held c.args.name.now f those c.args.map h

pub returns-in-None-get : goal.returns-in-None-get
returns-in-None-get c = λ those h.
    let f = c.args.self.now in
    ap (option_map (λ (x : Bor RustField). ann_of x.now.annotation))
    (missed_at c.deref.result.now c.in-Some.number c.in-None-get.ensures.lookup.3
    ∙ ap (λ (l : List (Bor RustField)). slice_get l c.in-Some.number) c.deref.ensures.value)
    ∙ ap (λ o. option_map (λ (x : Bor RustField). ann_of x.now.annotation) (at_number f.fields.items o))
    (sym c.in-Some.is ∙ c.get.ensures)
    ∙ annotation_held c.args.name.now f those c.args.map h
