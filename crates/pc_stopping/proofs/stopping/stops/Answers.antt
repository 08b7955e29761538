use Rattle.std.proofs.Common.{◌≡◌, ◌↔◌, ◌∙◌, ◌++◌, ap, sym, subst, Contains, List}
use Rattle.pc_tree.specs.declared.code.Finding.{Finding}
use Rattle.pc_tree.specs.Tree.{module_of}
use Rattle.pc_tree.specs.Stopping.{has_none, IsStopping}
use Rattle.pc_stopping.specs.Found.{found_in_scopes, found_in_classes}
use Rattle.pc_stopping.proofs.AllStops.{none_found, exactly}
use Rattle.pc_stopping.proofs.stopping.stops.Goals as goal

pub returns-clause-found : goal.returns-clause-found
returns-clause-found c f =
    let m = module_of c.args.program.now in
    let all = c.in_ok-find_in_classes.ensures ∙ ap (λ (fs : List Finding). fs ++ found_in_classes m)
    (c.in_ok-find_in_scopes.ensures ∙ ap (λ (fs : List Finding). fs ++ found_in_scopes m)
    c.new-found.ensures.items) in
    subst (λ (fs : List Finding). Contains fs f ↔ IsStopping m f.place f.code) (sym all) (exactly m f)

pub returns-clause-none : goal.returns-clause-none
returns-clause-none c =
    let m = module_of c.args.program.now in
    let all = c.in_ok-find_in_classes.ensures ∙ ap (λ (fs : List Finding). fs ++ found_in_classes m)
    (c.in_ok-find_in_scopes.ensures ∙ ap (λ (fs : List Finding). fs ++ found_in_scopes m)
    c.new-found.ensures.items) in
    ap has_none all ∙ none_found m
