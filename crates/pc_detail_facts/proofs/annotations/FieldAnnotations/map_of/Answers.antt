use Rattle.std.proofs.Common.{◌∙◌, List, ℕ, Option, Some, ap, subst, sym}
use Rattle.std.specs.Prelude.{slice_get}
use Rattle.pc_detail_facts.specs.Annotated.{IsFieldMap}
use Rattle.pc_detail_facts.proofs.FieldMaps.{map_at, no_map}
use Rattle.pc_detail_facts.proofs.Held.{found_at}
use Rattle.pc_detail_rules.specs.Written.{Annotated, inherited_fields}
use Rattle.pc_detail_facts.proofs.annotations.FieldAnnotations.map_of.Goals as goal

pub returns-in-Some-get : goal.returns-in-Some-get
returns-in-Some-get c = λ lists h.
    subst (λ (o : Option ℕ). IsFieldMap c.args.self.now (inherited_fields lists o) c.in-Some-get.map.now)
    (sym c.in-Some.is) (map_at lists c.args.self.now c.in-Some.class c.in-Some-get.map.now h
    (found_at c.deref.result.now c.in-Some.class c.in-Some-get.map.now c.in-Some-get.ensures.lookup.0
    c.in-Some-get.ensures.lookup.1
    ∙ ap (λ (l : List ℕ). slice_get l c.in-Some.class) c.deref.ensures.value))

pub returns-in-None-get : goal.returns-in-None-get
returns-in-None-get c = λ lists h.
    subst (λ (l : List Annotated). IsFieldMap c.args.self.now l 0)
    (sym (ap (inherited_fields lists) c.in-Some.is ∙ no_map lists c.args.self.now c.deref.result.now c.in-Some.class h
    c.deref.ensures.value c.in-None-get.ensures.lookup.3)) h.none
