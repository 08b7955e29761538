use Rattle.std.proofs.Common.{◌+◌, All, arith, subst, sym}
use Rattle.std.proofs.lemmas.List.Elements.{All-push}
use Rattle.pc_class.specs.Tables.{classes_with}
use Rattle.pc_rules.specs.Operations.{attribute_member}
use Rattle.pc_operations.proofs.AttributesRead.{AreRead, read_more}
use Rattle.pc_operations.proofs.fields.field_types.Goals as goal

pub loop-i-preserved : goal.loop-i-preserved
loop-i-preserved g c =
    let has = g.S.TypeStore.has c.args.store.now in
    let tree = g.S.TypeStore.tree in
    let on = attribute_member (classes_with tree c.args.classes.now) c.args.name.now in
    let v = c.loop-i.invariant in
    record {
      held = subst (All has) (sym c.in_ok-push-in-Some.ensures.items) (All-push has c.loop-i.types.items c.in-Some.ty
          v.held (rw c.in-Some.is at c.in_ok-ty.ensures.held));
      read = subst (AreRead tree on c.in_ok-members.members.items (c.loop-i.i + 1))
          (sym c.in_ok-push-in-Some.ensures.items) (read_more tree on c.in_ok-members.members.items c.loop-i.i
          c.loop-i.types.items c.index.result.now c.in-Some.ty (omega arith) c.index.ensures
          (rw c.in-Some.is at c.in_ok-ty.ensures.value) v.read);
    }
