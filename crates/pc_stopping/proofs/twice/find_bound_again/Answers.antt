use Rattle.std.proofs.Common.{◌∙◌, ◌+◌, ◌++◌, ◌∷◌, ap, sym, map, drop, Bool, List}
use Rattle.std.specs.Prelude.{◌&&◌, not}
use Rattle.std.specs.Borrow.{Bor}
use Rattle.pc_source.specs.declared.place.Place.{Place}
use Rattle.pc_source.specs.ReservedNames.{is_reserved}
use Rattle.pc_tree.specs.declared.code.Code.TheVariants.{E01}
use Rattle.pc_tree.specs.declared.tree.Name.{Name as RustName}
use Rattle.pc_tree.specs.Lists.{name_seen}
use Rattle.pc_tree.specs.Stopping.{one_if, bound_again}
use Rattle.pc_tree.proofs.Stops.{cons_at}
use Rattle.pc_tree.specs.Code.{at_code}
use Rattle.pc_tree.specs.Names.{texts_in}
use Rattle.pc_tree.proofs.Finds.{stepped}
use Rattle.pc_stopping.proofs.Passed.{same_again}
use Rattle.pc_stopping.proofs.twice.find_bound_again.Goals as goal

pub loop-name-preserved : goal.loop-name-preserved
loop-name-preserved c =
    let i = c.loop-name.name-index in
    let n = name_seen c.name-item.result in
    let before = texts_in c.loop-name.before in
    let rest = map name_seen (drop (i + 1) c.args.names.now) in
    let later = bound_again (n.text ∷ before) rest in
    ap (λ (ps : List Place). c.find_again.new.found.items ++ at_code E01 ps)
    (same_again (texts_in c.put.new.names) (n.text ∷ before) (rw c.as_str.ensures.value at
    c.in_ok-again.ensures.now) rest)
    ∙ stepped E01 c.loop-name.found.items c.find_again.new.found.items
    (one_if (c.in_ok-again.again && not (is_reserved n.text)) n.place) later
    (bound_again before (map name_seen (drop i c.args.names.now))) c.in_ok-find_again.ensures
    (ap (λ (ys : List (Bor RustName)). bound_again before (map name_seen ys))
    (cons_at c.args.names.now i c.name-item.result c.loop-name-test.true c.name-item.is)
    ∙ ap (λ (b : Bool). one_if (b && not (is_reserved n.text)) n.place ++ later)
    (sym (rw c.as_str.ensures.value at c.in_ok-again.ensures.was)))
    ∙ c.loop-name.invariant
