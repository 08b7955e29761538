use Rattle.std.proofs.Common.{◌∙◌, [], List, ℕ, ap, sym}
use Rattle.std.specs.Prelude.{slice_get, slice_index_or}
use Rattle.pc_detail_facts.proofs.FieldMaps.{map_at, no_map}
use Rattle.pc_detail_facts.proofs.Held.{found_at}
use Rattle.pc_detail_rules.specs.Written.{Annotated, annotation_named}
use Rattle.pc_detail_facts.proofs.annotations.FieldAnnotations.get.Goals as goal

pub get_in-requires : goal.get_in-requires
get_in-requires c = (
  slice_index_or c.requires.0 c.args.class [],
  map_at c.requires.0 c.args.self.now c.args.class c.in-Some.map.now c.requires.1
      (found_at c.deref.result.now c.args.class c.in-Some.map.now c.in-Some.ensures.lookup.0 c.in-Some.ensures.lookup.1
      ∙ ap (λ (l : List ℕ). slice_get l c.args.class) c.deref.ensures.value),
)

pub returns-in-Some : goal.returns-in-Some
returns-in-Some c = λ lists h. c.get_in.ensures (slice_index_or lists c.args.class [])
    (map_at lists c.args.self.now c.args.class c.in-Some.map.now h
    (found_at c.deref.result.now c.args.class c.in-Some.map.now c.in-Some.ensures.lookup.0 c.in-Some.ensures.lookup.1
    ∙ ap (λ (l : List ℕ). slice_get l c.args.class) c.deref.ensures.value))

pub returns-in-None : goal.returns-in-None
returns-in-None c = λ lists h. sym (ap (λ (l : List Annotated). annotation_named l c.args.name.now)
    (no_map lists c.args.self.now c.deref.result.now c.args.class h c.deref.ensures.value c.in-None.ensures.lookup.3))
