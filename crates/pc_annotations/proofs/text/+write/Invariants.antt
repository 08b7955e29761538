use Rattle.std.proofs.Common.{◌≡◌, ◌+◌, ◌*◌, ◌++◌, map, take, string_bytes}
use Rattle.pc_annotations.specs.Named.{named_module}
use Rattle.pc_types.specs.Shape.{nodes}
use Rattle.pc_annotations.specs.Text.{type_text, with_separator}
use Rattle.pc_annotations.proofs.text.+write.Given as goal

abbrev pub decreases-write_type : goal.decreases-write_type
decreases-write_type g l = 3 * nodes (g.S.TypeStore.tree l.ty.now) + 2

abbrev pub decreases-write_applied : goal.decreases-write_applied
decreases-write_applied g l = 3 * nodes (g.S.TypeStore.tree l.ty.now) + 1

abbrev pub decreases-write_parts : goal.decreases-write_parts
decreases-write_parts g l = 3 * nodes (g.S.TypeStore.tree l.ty.now)

abbrev pub invariant-write_parts-loop-i : goal.invariant-write_parts-loop-i
invariant-write_parts-loop-i g l =
    string_bytes l.out ≡ string_bytes l.fn.out ++ with_separator l.separator
    (map (λ t. type_text (named_module l.names) (g.S.TypeStore.tree t)) (take l.i l.parts.items))
