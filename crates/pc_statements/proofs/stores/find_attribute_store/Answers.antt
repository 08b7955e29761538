use Rattle.std.proofs.Common.{◌≡◌, ◌∙◌, ◌++◌, List, map, None, refl, sym, ap, subst}
use Rattle.std.specs.Prelude.{All}
use Rattle.pc_tree.specs.Text.{text_bytes}
use Rattle.pc_tree.specs.Tree.{expr_of}
use Rattle.pc_class.specs.Tables.{classes_with}
use Rattle.pc_flow.specs.WellFormed.{AreWellFormed}
use Rattle.pc_notes.specs.Notes.{Note}
use Rattle.pc_rules.specs.Operations.{Label, StoreOffer, stored_types}
use Rattle.pc_rules.specs.Computed.Standing.{Standing, label_in, finds_in}
use Rattle.pc_rules.specs.Computed.ModuleParents.{class_parents}
use Rattle.pc_statements.specs.Storing.{HasStoreOffer, store_offer_with}
use Rattle.pc_module_rules.specs.Computed.Statements.{BodyContext, stored_finds, attribute_stores}
use Rattle.pc_module_rules.proofs.StoredTypes.{fields_stored}
use Rattle.pc_walk.specs.declared.context.BodyContext.{BodyContext as RustBodyContext}
use Rattle.pc_walk.specs.StatementsHeld.{body_context_with}
use Rattle.pc_walk.specs.Walks.{WalkKept, body_context_in, standing_in}
use Rattle.pc_walk.proofs.Walks.{grown, goes_further, found_quiet, found_then}
use Rattle.pc_statements.proofs.stores.find_attribute_store.Goals as goal

pub find_stored-requires-clause-stands : goal.find_stored-requires-clause-stands
find_stored-requires-clause-stands g c = (found_quiet g.S.TypeStore c.args.walk.now c.type_in.new.walk _
    c.args.env.now _ c.in_ok-label.ensures.finds (grown c.store_offers.ensures.kept) refl refl).stands

pub find_stored-requires-clause-offers : goal.find_stored-requires-clause-offers
find_stored-requires-clause-offers g c = subst (All (HasStoreOffer (g.S.TypeStore.has c.store_offers.new.store)))
    (sym c.deref.ensures.value) c.in_ok-offers.ensures.held

pub find_stored-requires-clause-well_formed : goal.find_stored-requires-clause-well_formed
find_stored-requires-clause-well_formed g c =
    let tree = g.S.TypeStore.tree in
    let context = c.type_in.new.walk.context in
    subst (λ (os : List StoreOffer). AreWellFormed (class_parents context.globals.now) (stored_types os))
    (sym (ap (map (store_offer_with tree)) c.deref.ensures.value ∙ c.in_ok-offers.ensures.value))
    (fields_stored (class_parents context.globals.now) (classes_with tree context.globals.now.classes.now)
    c.in_ok-label.ensures.finds.stands.context.context.classes c.as_str.result.now
    (tree c.in_ok-label.label.ty) c.in_ok-label.ensures.labelled.well_formed)

pub returns-clause-finds : goal.returns-clause-finds
returns-clause-finds g c =
    let S = g.S.TypeStore in
    let old = c.args.walk.now in
    let mid = c.type_in.new.walk in
    let env = c.args.env.now in
    let F = body_context_in S old in
    let K = standing_in S old env in
    let o = expr_of c.args.object.now in
    let v = expr_of c.args.value.now in
    let field = text_bytes c.args.field.now.text in
    let ty = S.tree c.in_ok-label.label.ty in
    let offers = map (store_offer_with S.tree) c.deref.result.now in
    let stored : BodyContext → Standing → List Note = λ f k. stored_finds f k offers c.args.place v in
    let is : offers ≡ attribute_stores F field (label_in K None o).type =
    ap (map (store_offer_with S.tree)) c.deref.ensures.value ∙ c.in_ok-offers.ensures.value
    ∙ ap (λ w. attribute_stores (body_context_in S mid) w ty) c.as_str.ensures.value
    ∙ ap (λ (x : RustBodyContext _). attribute_stores (body_context_with S.tree x) field ty)
    c.type_in.ensures.goes_on.context
    ∙ ap (λ (m : Label). attribute_stores F field m.type) c.in_ok-label.ensures.labelled.label.is in
    let offered = record mid { store = record mid.store { now = c.store_offers.new.store } } in
    let on : WalkKept S mid offered = grown c.store_offers.ensures.kept in
    found_then S old offered c.find_stored.new.walk env env _ stored _ (goes_further c.type_in.ensures.goes_on on)
    c.find_stored.ensures.goes_on (found_quiet S old mid offered env _ c.in_ok-label.ensures.finds on refl refl)
    c.in_ok-find_stored.ensures.finds
    (ap (λ (os : List StoreOffer). finds_in K None o ++ stored_finds F K os c.args.place v) is)
