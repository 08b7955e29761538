use Rattle.std.proofs.Common.{◌∙◌, ◌+◌, ◌++◌, ◌∷◌, [], List, map, drop, refl, sym, ap, append_assoc, append-nil}
use Rattle.std.proofs.Math.ListN.{drop_of_length-le}
use Rattle.std.proofs.lemmas.List.{map-append}
use Rattle.std.proofs.lemmas.List.Elements.{All-nil, All-push, All-weaker}
use Rattle.pc_tree.specs.declared.tree.Param.{Param as RustParam}
use Rattle.pc_tree.specs.Tree.{param_of}
use Rattle.pc_tree.proofs.Stops.{cons_at}
use Rattle.pc_class.specs.Facts.{TypedParameter, parameters_of}
use Rattle.pc_annotations.specs.ModuleOutlines.{module_in}
use Rattle.pc_class.specs.Tables.{HasParameter, parameter_with, parameters_with}
use Rattle.pc_class.proofs.Annotations.{lent_same, lent_on, stepped, params_next}
use Rattle.pc_class.proofs.reading.read_params.Goals as goal

pub loop-param-init : goal.loop-param-init
loop-param-init g c =
    let tree = g.S.TypeStore.tree in
    let has = HasParameter (g.S.TypeStore.has c.args.reader.now.store.now) in
    record {
      store = λ t h. h;
      given = rw c.new-all.ensures.items (All-nil has);
      means = rw c.new-all.ensures.items refl;
      same = lent_same c.args.reader.now;
      found = refl;
    }

pub loop-param-preserved : goal.loop-param-preserved
loop-param-preserved g c =
    let m = module_in c.args.outline.now in
    let tree = g.S.TypeStore.tree in
    let params = c.args.params.now in
    let i = c.loop-param.param-index in
    let rest = parameters_of m (map param_of (drop (i + 1) params)) in
    let all = c.loop-param.all.items in
    let p = c.in_ok-parameter.parameter in
    let k = c.read_param.ensures.kept in
    let has = HasParameter (g.S.TypeStore.has c.loop-param.reader.store.now) in
    let has2 = HasParameter (g.S.TypeStore.has c.read_param.new.store) in
    record {
      store = λ t h. k t (c.loop-param.invariant.store t h);
      given = rw c.in_ok-push.ensures.items (All-push has2 all p
          (All-weaker has has2 (λ x h. k _ h) all c.loop-param.invariant.given) c.in_ok-parameter.ensures.given);
      means =
          ap (λ xs. parameters_with tree xs ++ rest) c.in_ok-push.ensures.items
          ∙ ap (λ (ys : List TypedParameter). ys ++ rest) (map-append (parameter_with tree) all (p ∷ []))
          ∙ append_assoc (parameters_with tree all) (parameter_with tree p ∷ []) rest
          ∙ ap (λ y. parameters_with tree all ++ y ∷ rest) c.in_ok-parameter.ensures.means
          ∙ ap (λ (ps : List RustParam). parameters_with tree all ++ parameters_of m (map param_of ps))
          (sym (cons_at params i c.param-item.result c.loop-param-test.true c.param-item.is))
          ∙ c.loop-param.invariant.means;
      same = lent_on c.loop-param.invariant.same (record { same_store = refl; same_found = refl });
      found = stepped c.loop-param.reader.found.now.items c.read_param.new.found.items _ _ _ _
          c.loop-param.invariant.found (params_next m params i c.param-item.result c.loop-param-test.true
          c.param-item.is) c.in_ok-parameter.ensures.found;
    }

pub returns-clause-means : goal.returns-clause-means
returns-clause-means g c =
    let m = module_in c.args.outline.now in
    let tree = g.S.TypeStore.tree in
    let params = c.args.params.now in
    sym (append-nil (parameters_with tree c.loop-param.all.items))
    ∙ ap (λ (ps : List RustParam). parameters_with tree c.loop-param.all.items ++ parameters_of m (map param_of ps))
    (sym (drop_of_length-le params c.loop-param-test.false))
    ∙ c.loop-param.invariant.means
