use Rattle.std.proofs.Common.{◌∙◌, ◌++◌, ◌∷◌, [], List, ap, subst}
use Rattle.pc_shared_maps.specs.declared.shared.MapNode.{MapNode}
use Rattle.pc_shared_maps.specs.SharedMaps.{HasAllSuccessors}
use Rattle.pc_shared_maps.proofs.SharedParts.{more_keeps}
use Rattle.pc_shared_maps.proofs.shared.SharedMaps.add.Goals as goal

pub returns-clause-kept : goal.returns-clause-kept
returns-clause-kept c = more_keeps c.args.self.now (subst HasAllSuccessors c.self.view_is c.self.invariant) c.args.node
    c.push.new.self.items (c.in_ok-push.ensures.items ∙ ap (λ (l : List MapNode). l ++ c.args.node ∷ []) c.self.view_is)
