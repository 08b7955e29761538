use Rattle.std.proofs.Common.{◌∙◌, ◌++◌, [], List, ap, append-nil, append_assoc, map, refl, subst, sym, take, arith}
use Rattle.std.proofs.lemmas.List.{take_all}
use Rattle.std.specs.Prelude.{flat_map}
use Rattle.pc_tree.specs.Tree.{Member, member_of}
use Rattle.pc_tree.specs.declared.tree.Member.{Member as RustMember}
use Rattle.pc_detail_facts.specs.Annotated.{IsFieldMap}
use Rattle.pc_detail_rules.specs.Written.{Annotated, annotated_field}
use Rattle.pc_detail_facts.proofs.FieldMaps.{fields_more_of, fields_on, fields_same}
use Rattle.pc_detail_facts.proofs.annotations.FieldAnnotations.add_fields.Goals as goal

pub loop-member-init : goal.loop-member-init
loop-member-init c = record {
  is_map = c.requires;
  kept = fields_same c.args.self.now;
  maps = refl;
  held = λ those h. subst (λ (l : List Annotated). IsFieldMap c.args.self.now l c.args.map) (sym (append-nil those)) h;
}

pub loop-member-preserved : goal.loop-member-preserved
loop-member-preserved c =
    let v = c.loop-member.invariant in
    let i = c.loop-member.member-index in
    record {
      is_map = c.in_ok-map.ensures.is_map;
      kept = fields_on c.args.self.now _ _ v.kept c.in_ok-map.ensures.kept;
      maps = c.in_ok-map.ensures.maps ∙ v.maps;
      held = λ those h. subst (λ (l : List Annotated). IsFieldMap c.add_member.new.self (those ++ l) c.in_ok-map.map)
          (sym (fields_more_of _ i c.member-item.result c.loop-member-test.true c.member-item.is))
          (subst (λ (l : List Annotated). IsFieldMap c.add_member.new.self l c.in_ok-map.map)
          (append_assoc those (flat_map annotated_field (map member_of (take i _)))
          (annotated_field (member_of c.member-item.result))) (c.in_ok-map.ensures.held _ (v.held those h)));
    }
