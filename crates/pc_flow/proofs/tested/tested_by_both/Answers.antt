use Rattle.pc_flow.specs.Naming.{meanings}
use Rattle.std.proofs.Common.{◌≡◌, ◌∙◌, ◌++◌, ℕ, List, sym, ap, eqb}
use Rattle.std.specs.Prelude.{nat_eq}
use Rattle.std.proofs.lemmas.List.Filters.{dedup_is}
use Rattle.std.proofs.lemmas.List.Sorted.{list_any-IsPermutation}
use Rattle.pc_tree.specs.Tree.{expr_of}
use Rattle.pc_flow.specs.Agreement.{is_among}
use Rattle.pc_flow.specs.Narrowing.{tested_locals}
use Rattle.pc_flow.proofs.Among.{among_dedup}
use Rattle.pc_flow.proofs.tested.tested_by_both.Goals as goal

pub returns : goal.returns
returns c x =
    let resolve = meanings c.args.names.now in
    let second = tested_locals resolve (expr_of c.args.right.now) in
    let all : c.add_tested-2.new.tested.items ≡ tested_locals resolve (expr_of c.args.left.now) ++ second =
    c.in_ok-add_tested-2.ensures ∙ ap (λ (xs : List ℕ). xs ++ second) (c.in_ok-add_tested.ensures
    ∙ ap (λ (xs : List ℕ). xs ++ tested_locals resolve (expr_of c.args.left.now)) c.new-tested.ensures.items) in
    ap (λ (xs : List ℕ). is_among xs x) (dedup_is eqb c.sort_unstable.new.self.items c.dedup.new.self.items
    c.dedup.ensures.filtered)
    ∙ among_dedup x c.sort_unstable.new.self.items
    ∙ sym (list_any-IsPermutation (nat_eq x) c.add_tested-2.new.tested.items c.sort_unstable.new.self.items
    c.sort_unstable.ensures.permutation)
    ∙ ap (λ (xs : List ℕ). is_among xs x) all
