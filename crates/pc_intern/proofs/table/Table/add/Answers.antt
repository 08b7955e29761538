use Rattle.std.proofs.Common.{◌≡◌, ◌++◌, ◌∷◌, [], Some, sym, ap, subst, ◌∙◌}
use Rattle.std.specs.Map.{values_of}
use Rattle.std.proofs.lemmas.List.{map-append}
use Rattle.indexmap.proofs.CallerLemmas.{insert_entry-new}
use Rattle.pc_types.specs.Boxed.{tree_of}
use Rattle.pc_intern.specs.Table.{tree_at, IsTable, IsNode, AreBasic}
use Rattle.pc_intern.proofs.Basic.{basic_stays}
use Rattle.pc_intern.proofs.Keys.{node_eq, node_decides}
use Rattle.pc_intern.proofs.Places.{passes}
use Rattle.pc_intern.proofs.InTable.{added, found, found_tree, pushed_tree}
use Rattle.pc_intern.proofs.table.Table.add.Goals as goal

pub returns-in-Some-clause-value : goal.returns-in-Some-clause-value
returns-in-Some-clause-value c =
    let w = found c.self.inside.entries.entries c.args.node (c.in-Some.field-0-1.now, c.in-Some.field-0-2.now)
    c.in-Some.number c.self.invariant.0 c.in-Some.ensures.entry
    (passes (node_eq c.args.node) c.self.inside.entries.entries c.in-Some.field-0-1.now
    (sym c.in-Some.ensures.key)) in
    let q : values_of c.self.inside.entries.entries ≡ c.args.self.now = c.self.view_is in
    let h : IsNode (values_of c.self.inside.entries.entries) c.args.node (tree_of c.args.ty.now) =
    subst (λ l. IsNode l c.args.node (tree_of c.args.ty.now)) (sym q) c.requires.node in
    subst (λ l. tree_at l c.in-Some.number ≡ Some (tree_of c.args.ty.now)) q
    (found_tree (values_of c.self.inside.entries.entries) c.args.node c.in-Some.number c.args.ty.now w
    c.requires.given h)

pub invariant_of-self-2 : goal.invariant_of-self-2
invariant_of-self-2 c =
    let es = c.self.inside.entries.entries in
    let none = sym c.in_default.ensures.value in
    let e = c.in_ok-insert.ensures.entries ∙ insert_entry-new node_eq c.self.inside.entries c.args.node c.in_ok-ty.ty
    none in
    let q : values_of c.self.inside.entries.entries ≡ c.args.self.now = c.self.view_is in
    let same = c.in_ok-ty.ensures in
    let t = same.1 in
    let h : IsNode (values_of c.self.inside.entries.entries) c.args.node (tree_of c.in_ok-ty.ty) =
    rw (q, t) c.requires.node in
    let v : values_of c.insert.new.self.entries ≡ values_of es ++ c.in_ok-ty.ty ∷ [] = ap values_of e
    ∙ map-append (λ x. x.1) es ((c.args.node, c.in_ok-ty.ty) ∷ []) in (
      subst IsTable (sym e)
          (added es (node_eq c.args.node) c.args.node c.in_ok-ty.ty c.self.invariant.0
          (λ n a b. (node_decides c.args.node n).1 (a, b)) same.0 h none),
      subst (λ l. AreBasic l c.self.inside.basic) (sym v)
          (basic_stays (values_of es) (c.in_ok-ty.ty ∷ []) c.self.inside.basic c.self.invariant.1),
    )

pub returns-clause-value : goal.returns-clause-value
returns-clause-value c =
    let none = sym c.in_default.ensures.value in
    let e = c.in_ok-insert.ensures.entries ∙ insert_entry-new node_eq c.self.inside.entries c.args.node c.in_ok-ty.ty
    none in
    let t = c.in_ok-ty.ensures.1 in
    rw (e, c.len-number.ensures.len) (pushed_tree c.self.inside.entries.entries c.args.node c.in_ok-ty.ty ∙ ap Some t)

pub returns-clause-grows : goal.returns-clause-grows
returns-clause-grows c =
    let none = sym c.in_default.ensures.value in
    let e = c.in_ok-insert.ensures.entries ∙ insert_entry-new node_eq c.self.inside.entries c.args.node c.in_ok-ty.ty
    none in
    let q : values_of c.self.inside.entries.entries ≡ c.args.self.now = c.self.view_is in
    record {
      added = c.in_ok-ty.ty ∷ [];
      is = ap values_of e ∙ map-append (λ x. x.1) c.self.inside.entries.entries
          ((c.args.node, c.in_ok-ty.ty) ∷ []) ∙ ap (λ l. l ++ c.in_ok-ty.ty ∷ []) q;
    }
