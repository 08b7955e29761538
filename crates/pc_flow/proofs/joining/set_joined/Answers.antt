use Rattle.std.proofs.Common.{◌≡◌, List, Option, sym, ap, subst, ◌∙◌}
use Rattle.std.specs.Prelude.{slice_set}
use Rattle.std.specs.Option.{option_copied, option_map}
use Rattle.pc_types.specs.Tree.{Tree}
use Rattle.pc_flow.specs.Agreement.{TakesIn}
use Rattle.pc_flow.specs.Environment.{current, declared_type, join_local}
use Rattle.pc_flow.specs.Stored.{env_of, declared_one, declared_of, GivesOne, GivesEnv}
use Rattle.pc_flow.proofs.Given.{each_kept}
use Rattle.pc_flow.proofs.Assigned.{set_gives, declared_at, current_env}
use Rattle.pc_flow.proofs.joining.set_joined.Goals as goal

pub returns-clause-value : goal.returns-clause-value
returns-clause-value g c =
    let has = g.S.TypeStore.has in
    let tree = g.S.TypeStore.tree in
    let ds = c.args.declarations.now.declared.now in
    let a = c.args.paths.now.first.now in
    let b = c.args.paths.now.second.now in
    let met = c.args.met.now in
    let x = c.args.local in
    let store = c.join_local.new.store in
    let joined = join_local c.args.declarations.now.parents.now (declared_type (declared_of tree ds) x)
    (current (env_of tree a) x) (current (env_of tree b) x) in
    let e0 : declared_one tree (option_copied c.declared-declared.result) ≡ declared_type (declared_of tree ds) x =
    ap (declared_one tree) c.declared-declared.ensures ∙ sym (declared_at tree ds x) in
    let e1 : option_map tree (option_copied c.current.result) ≡ current (env_of tree a) x =
    ap (option_map tree) c.current.ensures ∙ sym (current_env tree a x) in
    let e2 : option_map tree (option_copied c.current-2.result) ≡ current (env_of tree b) x =
    ap (option_map tree) c.current-2.ensures ∙ sym (current_env tree b x) in
    let one : GivesOne has tree store c.in_ok-joined.joined.ty joined =
    record {
      given = c.in_ok-joined.ensures.value.given;
      is = c.in_ok-joined.ensures.value.is
          ∙ (λ i. join_local c.args.declarations.now.parents.now (e0 i) (e1 i) (e2 i));
    } in
    let whole = set_gives has tree store met x c.in_ok-joined.joined.ty joined one
    (each_kept has _ _ c.join_local.ensures.kept met c.requires.met) in
    subst (λ (types : List (Option g.row.S-Ty.Denot)). GivesEnv has tree store types
    (slice_set (env_of tree met) x joined)) (sym c.in_ok-set.ensures.set) whole

pub returns-clause-settled : goal.returns-clause-settled
returns-clause-settled g c = λ settled.
    let tree = g.S.TypeStore.tree in
    let ds = c.args.declarations.now.declared.now in
    let bases = c.args.declarations.now.parents.now in
    let a = c.args.paths.now.first.now in
    let b = c.args.paths.now.second.now in
    let x = c.args.local in
    let e0 : declared_one tree (option_copied c.declared-declared.result) ≡ declared_type (declared_of tree ds) x =
    ap (declared_one tree) c.declared-declared.ensures ∙ sym (declared_at tree ds x) in
    let e1 : option_map tree (option_copied c.current.result) ≡ current (env_of tree a) x =
    ap (option_map tree) c.current.ensures ∙ sym (current_env tree a x) in
    let e2 : option_map tree (option_copied c.current-2.result) ≡ current (env_of tree b) x =
    ap (option_map tree) c.current-2.ensures ∙ sym (current_env tree b x) in
    let s = option_map tree (option_copied c.current.result) in
    let t = option_map tree (option_copied c.current-2.result) in
    let one = subst (λ (d : Tree). TakesIn bases (join_local bases d s t) t) e0
    (c.in_ok-joined.ensures.settled settled) in
    let two = subst (λ (o : Option Tree). TakesIn bases (join_local bases (declared_type (declared_of tree ds) x) o t)
    t) e1 one in
    subst (λ (o : Option Tree). TakesIn bases (join_local bases (declared_type (declared_of tree ds) x)
    (current (env_of tree a) x) o) o) e2 two
