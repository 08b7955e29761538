use Rattle.std.proofs.Common.{◌≡◌, ◌∙◌, ◌++◌, List, Option, map, refl, sym, ap, subst, append_assoc}
use Rattle.std.specs.Prelude.{All}
use Rattle.std.specs.List.{flat_map}
use Rattle.std.specs.Option.{option_map}
use Rattle.pc_source.specs.declared.place.Place.{Place}
use Rattle.pc_tree.specs.Tree.{Expr, expr_of}
use Rattle.pc_tree.specs.Depth.{place_of}
use Rattle.pc_types.specs.Tree.{Tree}
use Rattle.pc_flow.specs.WellFormed.{AreWellFormed}
use Rattle.pc_flow.proofs.Given.{all_kept}
use Rattle.pc_notes.specs.Notes.{Note, notes_of}
use Rattle.pc_rules.specs.Operations.{StoreOffer, stored_types, store_codes, only_type}
use Rattle.pc_rules.specs.Computed.Findings.{codes_at, own_at, flows_at}
use Rattle.pc_rules.specs.Computed.Expressions.{flows_of}
use Rattle.pc_rules.specs.Computed.Standing.{Standing, label_in, finds_in}
use Rattle.pc_rules.specs.Computed.ModuleParents.{class_parents}
use Rattle.pc_statements.specs.Storing.{store_offer_with}
use Rattle.pc_module_rules.specs.Computed.Statements.{BodyContext, stored_finds}
use Rattle.pc_walk.specs.declared.context.BodyContext.{BodyContext as RustBodyContext}
use Rattle.pc_walk.specs.Walks.{WalkKept, body_context_in, standing_in}
use Rattle.pc_statements.proofs.FoundStores.{want_holds}
use Rattle.pc_walk.proofs.Walks.{grown, goes_further, found_by, found_then}
use Rattle.pc_statements.proofs.stores.find_stored.Goals as goal

pub type_in-requires-clause-want : goal.type_in-requires-clause-want
type_in-requires-clause-want g c =
    let tree = g.S.TypeStore.tree in
    let bases = (class_parents c.args.walk.now.context.globals.now) in
    want_holds (g.S.TypeStore.has c.args.walk.now.store.now) tree bases
    (map (store_offer_with tree) c.args.offers.now) (map tree c.deref-2.result.now) c.in_ok-want.want
    (subst (AreWellFormed bases) (sym (ap (map tree) c.deref-2.ensures.value ∙ c.in_ok-types.ensures.value))
    c.requires.well_formed) c.in_ok-want.ensures.held c.in_ok-want.ensures.value

pub find_flows_in-requires-clause-into : goal.find_flows_in-requires-clause-into
find_flows_in-requires-clause-into g c = all_kept g.S.TypeStore.has _ _ c.type_in.ensures.goes_on.kept
    c.deref-3.result.now (subst (All (g.S.TypeStore.has c.args.walk.now.store.now))
    (sym c.deref-3.ensures.value) c.in_ok-types.ensures.held)

-- the findings of a stored value
stored_as : (f : BodyContext) (k : Standing) (offers : List StoreOffer) (place p : Place) (e : Expr)
    (want : Option Tree) (types : List Tree) → want ≡ only_type offers types → types ≡ stored_types offers
    → p ≡ place_of e → (codes_at place (store_codes offers) ++ finds_in k want e) ++ flows_at p
    (flows_of f.context.bases (label_in k want e) types) ≡ stored_finds f k offers place e
stored_as f k offers place p e want types i j q =
    append_assoc (codes_at place (store_codes offers)) (finds_in k want e)
    (flows_at p (flows_of f.context.bases (label_in k want e) types))
    ∙ ap (λ (w : Option Tree). codes_at place (store_codes offers) ++
    (finds_in k w e ++ flows_at p (flows_of f.context.bases (label_in k w e) types))) (i ∙ ap (only_type offers) j)
    ∙ ap (λ (ts : List Tree). codes_at place (store_codes offers) ++
    (finds_in k (only_type offers (stored_types offers)) e ++ flows_at p
    (flows_of f.context.bases (label_in k (only_type offers (stored_types offers)) e) ts))) j
    ∙ ap (λ (x : Place). codes_at place (store_codes offers) ++
    (finds_in k (only_type offers (stored_types offers)) e ++ flows_at x
    (flows_of f.context.bases (label_in k (only_type offers (stored_types offers)) e) (stored_types offers)))) q

pub returns-clause-finds : goal.returns-clause-finds
returns-clause-finds g c =
    let S = g.S.TypeStore in
    let tree = S.tree in
    let old = c.args.walk.now in
    let env = c.args.env.now in
    let mid = c.type_in.new.walk in
    let F = body_context_in S old in
    let K = standing_in S old env in
    let place = c.args.place in
    let e = expr_of c.args.value.now in
    let offers = map (store_offer_with tree) c.args.offers.now in
    let want = option_map tree c.in_ok-want.want in
    let types = map tree c.deref-3.result.now in
    let same : c.deref-3.result.now ≡ c.deref-2.result.now = c.deref-3.ensures.value ∙ sym c.deref-2.ensures.value in
    let coded : BodyContext → Standing → List Note = λ f k. codes_at place (store_codes offers) in
    let typed : BodyContext → Standing → List Note = λ f k. finds_in k want e in
    let both : BodyContext → Standing → List Note = λ f k. codes_at place (store_codes offers) ++ finds_in k want e in
    let flowed : BodyContext → Standing → List Note = λ f k. flows_at c.place.result
    (flows_of (class_parents old.context.globals.now) (label_in K want e) types) in
    let codes = c.in_ok-find_codes.ensures ∙ ap (λ cs. notes_of old.found.now ++ flat_map (own_at place) cs)
    (c.deref.ensures.value ∙ c.in_ok-codes.ensures tree) in
    let flows = subst (λ (f : RustBodyContext _). notes_of c.find_flows_in.new.walk.found.now ≡ notes_of mid.found.now
    ++ flows_at c.place.result (flows_of (class_parents f.globals.now) (label_in K want e) types))
    c.type_in.ensures.goes_on.context
    (c.in_ok-find_flows_in.ensures.found (label_in K want e) c.in_ok-label.ensures.labelled.label.is) in
    let told = record old { found = record old.found { now = c.find_codes.new.found } } in
    let first : WalkKept S old told = grown (λ ty h. h) in
    found_then S old mid _ env env both flowed _ (goes_further first c.type_in.ensures.goes_on)
    c.find_flows_in.ensures.goes_on
    (found_then S old told mid env env coded typed both first c.type_in.ensures.goes_on
    (found_by S old told env coded c.requires.stands first refl codes) c.in_ok-label.ensures.finds refl)
    (found_by S mid _ env flowed c.in_ok-label.ensures.finds.stands c.find_flows_in.ensures.goes_on
    c.find_flows_in.ensures.declared
    flows)
    (stored_as F K offers place c.place.result e want types
    (c.in_ok-want.ensures.value ∙ ap (λ ts. only_type offers (map tree ts)) (sym same))
    (ap (map tree) c.deref-3.ensures.value ∙ c.in_ok-types.ensures.value) c.place.ensures)
