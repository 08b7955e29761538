use Rattle.std.proofs.Common.{◌∙◌, ◌++◌, ◌∷◌, [], List, ap, append_assoc, map, subst, sym, take, arith}
use Rattle.std.proofs.lemmas.List.{append-nil, map-append}
use Rattle.pc_tree.specs.Lists.{name_seen}
use Rattle.pc_tree.specs.Tree.{Name}
use Rattle.pc_detail_facts.specs.Held.{body_of}
use Rattle.pc_name_details.specs.Uses.{AreBound, Binding, binding}
use Rattle.std.proofs.lemmas.List.{take_all}
use Rattle.pc_tree.specs.declared.tree.Name.{Name as RustName}
use Rattle.std.specs.Borrow.{Bor}
use Rattle.pc_name_details.proofs.NamingSteps.{mapped_more}
use Rattle.pc_name_details.proofs.bindings.Bindings.add_body.Goals as goal

pub loop-name-init : goal.loop-name-init
loop-name-init c = λ before h. subst (λ (bs : List Binding). AreBound c.args.self.now bs) (sym (append-nil before)) h

pub loop-name-preserved : goal.loop-name-preserved
loop-name-preserved c = λ before h.
    let b = binding (body_of c.args.body) in
    let i = c.loop-name.name-index in
    let x = c.name-item.result in
    let names = map name_seen (take i c.deref-name-items.result.now) in
    subst (λ (bs : List Binding). AreBound c.add.new.self bs)
    (append_assoc before (map b names) (b (name_seen x) ∷ [])
    ∙ ap (λ (bs : List Binding). before ++ bs) (sym (ap (map b)
    (mapped_more name_seen c.deref-name-items.result.now i x c.loop-name-test.true c.name-item.is) ∙ map-append b names (name_seen x ∷ []))))
    (c.in_ok-add.ensures (before ++ map b names) (c.loop-name.invariant before h))

pub returns : goal.returns
returns c = λ before h.
    let b = binding (body_of c.args.body) in
    let ns = c.deref-name-items.result.now in
    subst (λ (bs : List Binding). AreBound c.loop-name.self bs)
    (ap (λ (l : List (Bor RustName)). before ++ map b (map name_seen l))
    (take_all c.loop-name.name-index ns (omega arith) ∙ c.deref-name-items.ensures.value)
    ∙ ap (λ (l : List Name). before ++ map b l) c.in_ok-names.ensures) (c.loop-name.invariant before h)
