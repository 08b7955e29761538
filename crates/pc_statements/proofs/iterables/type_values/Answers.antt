use Rattle.std.proofs.Common.{◌∙◌, map, None, refl, sym, ap, subst}
use Rattle.pc_tree.specs.Tree.{expr_of}
use Rattle.pc_types.specs.Tree.{Tree}
use Rattle.pc_types.specs.Shape.{members}
use Rattle.pc_types.specs.WellFormed.{IsWellFormed}
use Rattle.pc_rules.specs.Operations.{Label, offers_label, iterate_member}
use Rattle.pc_rules.specs.Computed.Standing.{label_in}
use Rattle.pc_rules.specs.Computed.ModuleParents.{class_parents}
use Rattle.pc_module_rules.proofs.StoredTypes.{turns_well_formed}
use Rattle.pc_walk.specs.declared.context.BodyContext.{BodyContext as RustBodyContext}
use Rattle.pc_walk.specs.StatementsHeld.{GivesLabel}
use Rattle.pc_walk.specs.Walks.{standing_in}
use Rattle.pc_walk.proofs.Walks.{grown, found_quiet}
use Rattle.pc_statements.proofs.iterables.type_values.Goals as goal

pub returns-clause-labelled : goal.returns-clause-labelled
returns-clause-labelled g c =
    let S = g.S.TypeStore in
    let mid = c.type_in.new.walk in
    let bases = (class_parents mid.context.globals.now) in
    let e = expr_of c.args.iterable.now in
    let store = c.item_label.new.store in
    let l = c.in_ok-item.item in
    let object = c.in_ok-label.label in
    let found = c.in_ok-label.ensures.finds in
    let item : Tree → Label = λ t. offers_label bases (map (iterate_member bases) (members t)) in
    subst (λ (m : Label). GivesLabel S.has S.tree bases store l m)
    (ap (λ (x : Label). item x.type) c.in_ok-label.ensures.labelled.label.is
    ∙ ap (λ (x : RustBodyContext _). offers_label (class_parents x.globals.now)
    (map (iterate_member (class_parents x.globals.now))
    (members (label_in (standing_in S c.args.walk.now c.args.env.now)
    None e).type))) c.type_in.ensures.goes_on.context)
    (record {
      label = c.in_ok-item.ensures.label;
      well_formed = subst (IsWellFormed bases) (sym (ap (λ (x : Label). x.type) c.in_ok-item.ensures.label.is))
          (turns_well_formed bases found.stands.context.context.smaller (S.tree object.ty)
          c.in_ok-label.ensures.labelled.well_formed);
    })

pub returns-clause-finds : goal.returns-clause-finds
returns-clause-finds g c = found_quiet g.S.TypeStore _ c.type_in.new.walk _ _ _
    c.in_ok-label.ensures.finds (grown c.item_label.ensures.kept) refl refl
