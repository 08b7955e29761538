use Rattle.std.proofs.Common.{◌<◌, ◌∙◌, ◌++◌, List, length, get_or, refl, sym, ap, arith}
use Rattle.pc_tree.specs.Tree.{param_of}
use Rattle.pc_types.specs.Below.{Bases}
use Rattle.pc_annotations.specs.Bases.{bases_of}
use Rattle.pc_annotations.specs.ModuleOutlines.{module_in}
use Rattle.pc_class.specs.Facts.{TypedParameter}
use Rattle.pc_class.specs.declared.table.Parameter.{Parameter as RustParameter}
use Rattle.pc_notes.specs.Notes.{Note, notes_of}
use Rattle.pc_rules.specs.Computed.Signatures.{is_in_names, with_name, binds_text, default_findings}
use Rattle.pc_rules.proofs.TypingStates.{goes_further}
use Rattle.pc_callables.proofs.HeldSignatures.{params_kept}
use Rattle.pc_callables.proofs.SignatureWalks.{stepped, typed_at, typed_many, defaults_found}
use Rattle.pc_callables.proofs.defaults.find_defaults.Goals as goal

pub loop-number-init : goal.loop-number-init
loop-number-init g c =
    let tree = g.S.TypeStore.tree in
    record {
      many = typed_many (module_in c.args.outline.now) tree c.args.typed.now c.args.params.now c.requires.same;
      given = c.requires.given;
      found = refl;
      goes_on = record { kept = λ ty h. h; same_store = refl; same_notes = refl };
    }

pub loop-number-preserved : goal.loop-number-preserved
loop-number-preserved g c =
    let has = g.S.TypeStore.has in
    let tree = g.S.TypeStore.tree in
    let m = module_in c.args.outline.now in
    let ps = c.args.params.now in
    let ts = c.args.typed.now in
    let i = c.loop-number.number in
    let x = c.index-params-number.result in
    let t = c.index-typed-number.result in
    let v = c.loop-number.invariant in
    let less = c.loop-number-test.true in
    let within : i < length ts = (let many = v.many in omega (arith, many, less)) in
    let bound = is_in_names c.loop-number.bound in
    let d = param_of x in
    let read = get_or ts i t in
    let typed = ap (λ (p : RustParameter _). tree p.ty) (sym c.index-typed-number.is)
    ∙ ap (λ (p : TypedParameter). p.type)
    (typed_at m tree ts ps i t x c.requires.same within c.index-typed-number.is less c.index-params-number.is) in
    let found = c.in_ok-find_default.ensures.found
    ∙ ap (λ (l : List Note). notes_of c.loop-number.state.found.now ++ l)
    (ap (λ (bs : Bases). default_findings bs c.binds-binds.result d.default (tree read.ty)) c.requires.outline.parents
    ∙ ap (λ b. default_findings (bases_of m) b d.default (tree read.ty)) (c.binds-binds.ensures
    ∙ ap (binds_text bound) c.as_str.ensures.value)
    ∙ ap (default_findings (bases_of m) (binds_text bound d.name.text) d.default) typed) in
    record {
      many = v.many;
      given = params_kept has c.loop-number.state.store.now c.find_default.new.state.store.now
          c.find_default.ensures.goes_on.kept ts v.given;
      found = stepped (notes_of c.loop-number.state.found.now) (notes_of c.find_default.new.state.found.now) _ _ _ _
          v.found (defaults_found m bound (is_in_names c.bind.new.bound) ps i x less c.index-params-number.is
          (c.in_ok-bind.ensures ∙ ap (with_name bound) c.as_str-in-loop-number.ensures.value)) found;
      goes_on = goes_further v.goes_on c.find_default.ensures.goes_on;
    }
