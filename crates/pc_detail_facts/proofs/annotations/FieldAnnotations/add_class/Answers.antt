use Rattle.std.proofs.Common.{◌++◌}
use Rattle.pc_tree.specs.Tree.{class_of}
use Rattle.pc_detail_facts.proofs.FieldMaps.{class_added}
use Rattle.pc_detail_rules.specs.Written.{annotated_fields, inherited_fields}
use Rattle.pc_detail_facts.proofs.annotations.FieldAnnotations.add_class.Goals as goal

pub add_fields-requires : goal.add_fields-requires
add_fields-requires c = (c.map_of-inherited.ensures c.requires.0 c.requires.1).held.is_map

pub returns : goal.returns
returns c = λ lists h.
    class_added c.args.self.now c.add_fields.new.self _ lists
    (inherited_fields lists c.args.base ++ annotated_fields (class_of c.args.class.now)) c.in_ok-map.map h
    c.in_ok-map.ensures.kept c.in_ok-map.ensures.maps
    (c.in_ok-map.ensures.held (inherited_fields lists c.args.base) (c.map_of-inherited.ensures lists h))
    c.in_ok-push.ensures.items
