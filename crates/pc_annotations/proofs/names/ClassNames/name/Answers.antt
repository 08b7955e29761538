use Rattle.std.proofs.Common.{◌∙◌, sym, ap, map, List, ℕ}
use Rattle.std.specs.Borrow.{Bor}
use Rattle.pc_scope.specs.Bindings.{classes_in}
use Rattle.pc_tree.specs.Tree.{module_of}
use Rattle.pc_annotations.proofs.ClassesNamed.{text_lent, name_at}
use Rattle.pc_annotations.proofs.names.ClassNames.name.Goals as goal

pub returns-in-Some : goal.returns-in-Some
returns-in-Some c =
    let cs = classes_in (module_of c.args.self.now.tree.now).items in
    ap text_lent (sym c.in-Some.is)
    ∙ name_at _ c.deref.result.now cs c.args.number c.get.result
    (ap (λ (xs : List (Bor (List ℕ))). map (λ n. n.now) xs) c.deref.ensures.value ∙ c.args.self.now.all)
    c.get.ensures.lookup.1 c.get.ensures.lookup.3

pub returns-in-None : goal.returns-in-None
returns-in-None c =
    let cs = classes_in (module_of c.args.self.now.tree.now).items in
    ap text_lent (sym c.in-None.is)
    ∙ name_at _ c.deref.result.now cs c.args.number c.get.result
    (ap (λ (xs : List (Bor (List ℕ))). map (λ n. n.now) xs) c.deref.ensures.value ∙ c.args.self.now.all)
    c.get.ensures.lookup.1 c.get.ensures.lookup.3
