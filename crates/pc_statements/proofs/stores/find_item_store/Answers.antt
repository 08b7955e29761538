use Rattle.std.proofs.Common.{◌≡◌, ◌∙◌, ◌++◌, List, map, None, refl, sym, ap, subst, append_assoc}
use Rattle.std.specs.Prelude.{All}
use Rattle.pc_source.specs.declared.place.Place.{Place}
use Rattle.pc_tree.specs.Tree.{Expr, expr_of, to_index}
use Rattle.pc_tree.specs.Depth.{place_of}
use Rattle.pc_types.specs.Tree.{Tree}
use Rattle.pc_flow.specs.WellFormed.{AreWellFormed}
use Rattle.pc_flow.proofs.Given.{keeps_both}
use Rattle.pc_notes.specs.Notes.{Note, notes_of}
use Rattle.pc_rules.specs.Operations.{Label, StoreOffer, stored_types, store_index_types}
use Rattle.pc_rules.specs.Computed.Findings.{flows_at}
use Rattle.pc_rules.specs.Computed.Expressions.{flows_of}
use Rattle.pc_rules.specs.Computed.Standing.{Standing, label_in, finds_in}
use Rattle.pc_rules.specs.Computed.ModuleParents.{class_parents}
use Rattle.pc_statements.specs.Storing.{HasStoreOffer, store_offer_with}
use Rattle.pc_statements.proofs.Storing.{all_stores_kept}
use Rattle.pc_module_rules.specs.Computed.Statements.{BodyContext, stored_finds, store_finds, index_stores}
use Rattle.pc_module_rules.proofs.StoredTypes.{items_stored}
use Rattle.pc_walk.specs.declared.context.BodyContext.{BodyContext as RustBodyContext}
use Rattle.pc_walk.specs.Walks.{WalkKept, body_context_in, standing_in}
use Rattle.pc_walk.proofs.Walks.{grown, goes_further, same_standing, stands_on, found_by, found_quiet, found_then}
use Rattle.pc_statements.proofs.stores.find_item_store.Goals as goal

pub type_in-requires-2-clause-stands : goal.type_in-requires-2-clause-stands
type_in-requires-2-clause-stands g c = stands_on g.S.TypeStore c.type_in.new.walk _ c.args.env.now
    c.in_ok-label.ensures.finds.stands (grown c.store_offers.ensures.kept) refl

pub store_index_types-requires : goal.store_index_types-requires
store_index_types-requires g c = all_stores_kept g.S.TypeStore.has _ _ c.type_in-2.ensures.goes_on.kept
    c.deref.result.now (subst (All (HasStoreOffer (g.S.TypeStore.has c.store_offers.new.store)))
    (sym c.deref.ensures.value) c.in_ok-offers.ensures.held)

pub find_flows_in-requires-clause-into : goal.find_flows_in-requires-clause-into
find_flows_in-requires-clause-into g c = subst (All (g.S.TypeStore.has c.type_in-2.new.walk.store.now))
    (sym c.deref-2.ensures.value) c.in_ok-types.ensures.held

pub find_stored-requires-clause-stands : goal.find_stored-requires-clause-stands
find_stored-requires-clause-stands g c = stands_on g.S.TypeStore c.type_in-2.new.walk _ c.args.env.now
    c.in_ok-at.ensures.finds.stands c.find_flows_in.ensures.goes_on c.find_flows_in.ensures.declared

pub find_stored-requires-clause-offers : goal.find_stored-requires-clause-offers
find_stored-requires-clause-offers g c = all_stores_kept g.S.TypeStore.has _ _
    (keeps_both g.S.TypeStore.has _ _ _ c.type_in-2.ensures.goes_on.kept c.find_flows_in.ensures.goes_on.kept)
    c.deref-3.result.now (subst (All (HasStoreOffer (g.S.TypeStore.has c.store_offers.new.store)))
    (sym c.deref-3.ensures.value) c.in_ok-offers.ensures.held)

pub find_stored-requires-clause-well_formed : goal.find_stored-requires-clause-well_formed
find_stored-requires-clause-well_formed g c =
    let tree = g.S.TypeStore.tree in
    let ty = tree c.in_ok-label.label.ty in
    subst (λ (os : List StoreOffer). AreWellFormed (class_parents c.find_flows_in.new.walk.context.globals.now)
    (stored_types os))
    (sym (ap (map (store_offer_with tree)) c.deref-3.ensures.value ∙ c.in_ok-offers.ensures.value))
    (subst (λ (f : RustBodyContext _). AreWellFormed (class_parents f.globals.now)
    (stored_types (index_stores (body_context_in g.S.TypeStore c.type_in.new.walk) ty)))
    (sym (c.find_flows_in.ensures.goes_on.context ∙ c.type_in-2.ensures.goes_on.context))
    (items_stored (class_parents c.type_in.new.walk.context.globals.now) ty
    c.in_ok-label.ensures.labelled.well_formed))

-- the findings in a store to an item
item_as : (f : BodyContext) (k : Standing) (place p : Place) (o i v : Expr) (m : Label) (types : List Tree)
    (offers : List StoreOffer) → m ≡ label_in k None i → types ≡ store_index_types offers
    → offers ≡ index_stores f (label_in k None o).type → p ≡ place_of i →
    ((finds_in k None o ++ finds_in k None i) ++ flows_at p (flows_of f.context.bases m types))
    ++ stored_finds f k offers place v ≡ store_finds f k (to_index place o i) v
item_as f k place p o i v m types offers mi ti oi pi =
    ap (λ (l : List Note). l ++ stored_finds f k offers place v)
    (append_assoc (finds_in k None o) (finds_in k None i) (flows_at p (flows_of f.context.bases m types)))
    ∙ append_assoc (finds_in k None o) (finds_in k None i ++ flows_at p (flows_of f.context.bases m types))
    (stored_finds f k offers place v)
    ∙ ap (λ (l : List Note). finds_in k None o ++ l)
    (append_assoc (finds_in k None i) (flows_at p (flows_of f.context.bases m types)) (stored_finds f k offers place v))
    ∙ ap (λ (x : Label). finds_in k None o ++ (finds_in k None i ++
    (flows_at p (flows_of f.context.bases x types) ++ stored_finds f k offers place v))) mi
    ∙ ap (λ (ts : List Tree). finds_in k None o ++ (finds_in k None i ++
    (flows_at p (flows_of f.context.bases (label_in k None i) ts) ++ stored_finds f k offers place v))) ti
    ∙ ap (λ (x : Place). finds_in k None o ++ (finds_in k None i ++
    (flows_at x (flows_of f.context.bases (label_in k None i) (store_index_types offers))
    ++ stored_finds f k offers place v))) pi
    ∙ ap (λ (os : List StoreOffer). finds_in k None o ++
    (finds_in k None i ++ (flows_at (place_of i) (flows_of f.context.bases (label_in k None i) (store_index_types os))
    ++ stored_finds f k os place v))) oi

pub returns-clause-finds : goal.returns-clause-finds
returns-clause-finds g c =
    let S = g.S.TypeStore in
    let old = c.args.walk.now in
    let first = c.type_in.new.walk in
    let second = c.type_in-2.new.walk in
    let env = c.args.env.now in
    let F = body_context_in S old in
    let K = standing_in S old env in
    let o = expr_of c.args.object.now in
    let i = expr_of c.args.index.now in
    let v = expr_of c.args.value.now in
    let offers = map (store_offer_with S.tree) c.deref-3.result.now in
    let types = map S.tree c.deref-2.result.now in
    let m = label_in (standing_in S first env) None i in
    let flows = flows_at c.place.result (flows_of (class_parents old.context.globals.now) m types) in
    let of_object : BodyContext → Standing → List Note = λ f k. finds_in k None o in
    let of_index : BodyContext → Standing → List Note = λ f k. finds_in k None i in
    let of_both : BodyContext → Standing → List Note = λ f k. finds_in k None o ++ finds_in k None i in
    let flowed : BodyContext → Standing → List Note = λ f k. flows in
    let before : BodyContext → Standing → List Note = λ f k. (finds_in k None o ++ finds_in k None i) ++ flows in
    let stored : BodyContext → Standing → List Note = λ f k. stored_finds f k offers c.args.place v in
    let typed = c.in_ok-label.ensures.finds in
    let is_same : c.deref.result.now ≡ c.deref-3.result.now = c.deref.ensures.value ∙ sym c.deref-3.ensures.value in
    let offered = record first { store = record first.store { now = c.store_offers.new.store } } in
    let flown = c.find_flows_in.new.walk in
    let to_first = c.type_in.ensures.goes_on in
    let first_on : WalkKept S first offered = grown c.store_offers.ensures.kept in
    let to_offered = goes_further to_first first_on in
    let to_second = goes_further to_offered c.type_in-2.ensures.goes_on in
    let second_on : WalkKept S second flown = c.find_flows_in.ensures.goes_on in
    let flowing = subst (λ (f : RustBodyContext _). notes_of flown.found.now ≡ notes_of second.found.now
    ++ flows_at c.place.result (flows_of (class_parents f.globals.now) m types)) to_second.context
    (c.in_ok-find_flows_in.ensures.found m c.in_ok-at.ensures.labelled.label.is) in
    found_then S old flown c.find_stored.new.walk env env before stored _ (goes_further to_second second_on)
    c.find_stored.ensures.goes_on
    (found_then S old second flown env env of_both flowed before to_second second_on
    (found_then S old offered second env env of_object of_index of_both to_offered c.type_in-2.ensures.goes_on
    (found_quiet S old first offered env of_object typed first_on refl refl) c.in_ok-at.ensures.finds refl)
    (found_by S second flown env flowed c.in_ok-at.ensures.finds.stands second_on c.find_flows_in.ensures.declared
    flowing)
    refl)
    c.in_ok-find_stored.ensures.finds
    (item_as F K c.args.place c.place.result o i v m types offers
    (same_standing S old first env (λ (f : BodyContext) (k : Standing). label_in k None i) to_first typed.declared)
    (ap (map S.tree) c.deref-2.ensures.value ∙ c.in_ok-types.ensures.value
    ∙ ap (λ os. store_index_types (map (store_offer_with S.tree) os)) is_same)
    (ap (map (store_offer_with S.tree)) c.deref-3.ensures.value ∙ c.in_ok-offers.ensures.value
    ∙ ap (λ (x : Label). index_stores F x.type) c.in_ok-label.ensures.labelled.label.is)
    c.place.ensures)
