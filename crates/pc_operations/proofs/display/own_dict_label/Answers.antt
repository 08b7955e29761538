use Rattle.std.proofs.Common.{◌≡◌, arith, sym, subst, ◌∙◌, length}
use Rattle.std.specs.Prelude.{true, false, map, IfOk}
use Rattle.std.specs.List.{list_all}
use Rattle.std.proofs.lemmas.Bool.Decides.{nat_tests}
use Rattle.pc_types.specs.Tree.{Tree, DictOf}
use Rattle.pc_types.specs.Computed.{static_test}
use Rattle.pc_flow.specs.Environment.{join_all}
use Rattle.pc_rules.specs.Operations.{display_label}
use Rattle.pc_rules.specs.Computed.Standing.{MeansLabel}
use Rattle.pc_rules.proofs.Once.{labels_as}
use Rattle.pc_operations.proofs.Displayed.{keys_int, keys_some}
use Rattle.pc_operations.proofs.display.own_dict_label.Goals as goal

pub returns-then-are_static-clause-value : goal.returns-then-are_static-clause-value
returns-then-are_static-clause-value g c =
    let has = g.S.TypeStore.has in
    let tree = g.S.TypeStore.tree in
    let ks = c.args.keys.now in
    let vs = map tree c.args.values.now in
    let bases = c.args.parents.now in
    let is_int = c.in_ok-int.ensures.value.1 in
    let some : ¬ (length ks ≡ 0) = λ e. grind (arith, nat_tests, c.is_empty.ensures, c.if-is_empty.false, e) in
    let int = subst (λ (x : Tree). list_all (λ t. static_test bases t x) (map tree ks) ≡ true) is_int
    (sym c.are_static.ensures.value ∙ c.if-are_static.true) in
    labels_as has tree _ _ _ _ (keys_int bases tree ks vs some int)
    (subst (λ (x : Tree). IfOk c.dict_of_join.result (λ l. MeansLabel has tree c.dict_of_join.new.store l
    (display_label (DictOf x (join_all bases vs))))) is_int c.dict_of_join.ensures.value)

pub returns-then-are_static-2-clause-value : goal.returns-then-are_static-2-clause-value
returns-then-are_static-2-clause-value g c =
    let has = g.S.TypeStore.has in
    let tree = g.S.TypeStore.tree in
    let ks = c.args.keys.now in
    let vs = map tree c.args.values.now in
    let bases = c.args.parents.now in
    let is_str = c.in_ok-str.ensures.value.1 in
    let some : ¬ (length ks ≡ 0) = λ e. grind (arith, nat_tests, c.is_empty.ensures, c.if-is_empty.false, e) in
    let int = subst (λ (x : Tree). list_all (λ t. static_test bases t x) (map tree ks) ≡ false)
    c.in_ok-int.ensures.value.1 (sym c.are_static.ensures.value ∙ c.if-are_static.false) in
    let str = subst (λ (x : Tree). list_all (λ t. static_test bases t x) (map tree ks) ≡ true) is_str
    (sym c.are_static-2.ensures.value ∙ c.if-are_static-2.true) in
    labels_as has tree _ _ _ _ (keys_some bases tree ks vs false true some int str)
    (subst (λ (x : Tree). IfOk c.dict_of_join-then-are_static-2.result
    (λ l. MeansLabel has tree c.dict_of_join-then-are_static-2.new.store l
    (display_label (DictOf x (join_all bases vs))))) is_str c.dict_of_join-then-are_static-2.ensures.value)

pub returns-clause-value : goal.returns-clause-value
returns-clause-value g c =
    let has = g.S.TypeStore.has in
    let tree = g.S.TypeStore.tree in
    let ks = c.args.keys.now in
    let vs = map tree c.args.values.now in
    let bases = c.args.parents.now in
    let some : ¬ (length ks ≡ 0) = λ e. grind (arith, nat_tests, c.is_empty.ensures, c.if-is_empty.false, e) in
    let int = subst (λ (x : Tree). list_all (λ t. static_test bases t x) (map tree ks) ≡ false)
    c.in_ok-int.ensures.value.1 (sym c.are_static.ensures.value ∙ c.if-are_static.false) in
    let str = subst (λ (x : Tree). list_all (λ t. static_test bases t x) (map tree ks) ≡ false)
    c.in_ok-str.ensures.value.1 (sym c.are_static-2.ensures.value ∙ c.if-are_static-2.false) in
    labels_as has tree _ _ _ _ (keys_some bases tree ks vs false false some int str) c.in_error-2.ensures.value
