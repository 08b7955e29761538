use Rattle.std.proofs.Common.{◌≡◌, ◌∙◌, List, Some, ap, map}
use Rattle.std.specs.List.{list_any}
use Rattle.std.specs.Prelude.{filter, flat_map}
use Rattle.pc_tree.specs.Depth.{place_of, place_of_ann, place_of_target}
use Rattle.pc_tree.specs.Tree.{Ann, Target, module_of}
use Rattle.pc_notes.specs.Notes.{is_same_place}
use Rattle.pc_detail_rules.specs.Explains.{calls_at}
use Rattle.pc_detail_facts.specs.Held.{body_of, owned_of}
use Rattle.pc_detail_rules.specs.Nodes.{OwnedExpr, anns_in, anns_of_item, targets_in, targets_of}
use Rattle.pc_detail_nodes.specs.NodesHeld.{ann_lent, body_among, stmts_of_all, target_lent}
use Rattle.pc_detail_facts.specs.Held.{stmt_lent}
use Rattle.pc_detail_nodes.proofs.NodesByPlace.{shown_or}
use Rattle.pc_detail_nodes.proofs.nodes.Nodes.of.Goals as goal

pub returns : goal.returns
returns c =
    let m = module_of c.args.module.now in
    let stmts : map stmt_lent c.deref.result.now ≡ stmts_of_all (map body_of c.args.bodies.now) =
    rw c.deref.ensures.value c.in_ok-stmts.ensures in
    let targets : map target_lent c.deref-2.result.now ≡ targets_in m =
    rw c.deref-2.ensures.value (c.in_ok-targets.ensures
    ∙ ap (flat_map targets_of) (stmts ∙ ap stmts_of_all c.requires.bodies)) in
    let anns : map ann_lent c.deref-3.result.now ≡ flat_map anns_in (flat_map anns_of_item m.items) =
    rw c.deref-3.ensures.value c.in_ok-anns.ensures in
    record {
      exprs = λ f listed. shown_or owned_of _ _ (c.in_ok-exprs_by_place.ensures f listed
          ∙ ap (λ (l : List OwnedExpr). Some (filter (λ (o : OwnedExpr). is_same_place f.place (place_of o.expr)) l))
          c.requires.exprs);
      targets = λ f listed. shown_or target_lent _ _ (c.in_ok-targets_by_place.ensures f listed
          ∙ ap (λ (l : List Target). Some (filter (λ (t : Target). is_same_place f.place (place_of_target t)) l)) targets);
      anns = λ f listed. shown_or ann_lent _ _ (c.in_ok-anns_by_place.ensures f listed
          ∙ ap (λ (l : List Ann). Some (filter (λ (a : Ann). is_same_place f.place (place_of_ann a)) l)) anns);
      callees = λ p. c.in_ok-callees_among.ensures p
          ∙ ap (list_any (λ (o : OwnedExpr). calls_at p o.expr)) c.requires.exprs;
      functions = λ p. c.in_ok-functions_by_place.ensures p ∙ ap (body_among p) c.requires.bodies;
    }
