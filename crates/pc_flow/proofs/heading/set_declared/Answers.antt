use Rattle.std.proofs.Common.{◌≡◌, List, Option, Some, None, true, not, refl, sym, ap, subst, ◌∙◌, Bor}
use Rattle.std.specs.Prelude.{is_some, slice_set, slice_index_or}
use Rattle.std.specs.Option.{option_copied}
use Rattle.std.proofs.lemmas.Result.{on_ok_weaker}
use Rattle.pc_flow.specs.Environment.{current, declared_type, head_local}
use Rattle.pc_flow.specs.Stored.{env_of, declared_one, declared_of, GivesEnv}
use Rattle.pc_flow.proofs.Given.{each_kept}
use Rattle.pc_flow.proofs.Assigned.{set_gives, head_gives}
use Rattle.pc_flow.proofs.heading.set_declared.Goals as goal

copied_some : {X : Type 0} (o : Option (Bor X)) → is_some (option_copied o) ≡ is_some o
copied_some None = refl
copied_some (Some x) = refl

pub returns-clause-value : goal.returns-clause-value
returns-clause-value g c =
    let has = g.S.TypeStore.has in
    let tree = g.S.TypeStore.tree in
    let env = c.args.env.now in
    let ds = c.args.declared.now in
    let x = c.args.local in
    let store = c.declared_type.new.store in
    let some : is_some (slice_index_or env x None) ≡ true = ap is_some (sym c.current.ensures)
    ∙ (copied_some c.current.result ∙ (c.is_none.ensures ∙ ap not c.if-is_none.false)) in
    let one = head_gives has tree store ds env x c.in_ok-ty.ty c.in_ok-ty.ensures.value.0 (c.in_ok-ty.ensures.value.1
    ∙ ap (declared_one tree) c.declared.ensures) some in
    let head = head_local true (declared_type (declared_of tree ds) x) (current (env_of tree env) x) in
    let whole = set_gives has tree store env x (Some c.in_ok-ty.ty) head one
    (each_kept has _ _ c.declared_type.ensures.kept env c.requires.env) in
    on_ok_weaker c.assign.result (λ e. subst (λ (types : List (Option g.row.S-Ty.Denot)). GivesEnv has tree store types
    (slice_set (env_of tree env) x head)) (sym e) whole) c.assign.ensures.assigned
