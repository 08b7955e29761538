use Rattle.std.proofs.Common.{◌∙◌, ◌+◌, ◌++◌, ◌∷◌, ap, sym, drop, Bool, List}
use Rattle.pc_source.specs.declared.place.Place.{Place}
use Rattle.pc_tree.specs.declared.code.Code.TheVariants.{E01}
use Rattle.pc_tree.specs.declared.tree.KeywordArgument.{KeywordArgument as RustKeyword}
use Rattle.pc_tree.specs.Lists.{keywords_of_list}
use Rattle.pc_tree.specs.Text.{text_bytes}
use Rattle.pc_tree.specs.Stopping.{one_if, given_again}
use Rattle.pc_tree.proofs.Stops.{cons_at}
use Rattle.pc_tree.specs.Code.{at_code}
use Rattle.pc_tree.specs.Names.{texts_in}
use Rattle.pc_tree.proofs.Finds.{stepped}
use Rattle.pc_stopping.proofs.Passed.{same_given}
use Rattle.pc_stopping.proofs.calls.find_given_again.Goals as goal

pub loop-argument-preserved : goal.loop-argument-preserved
loop-argument-preserved c =
    let i = c.loop-argument.argument-index in
    let k = c.argument-item.result in
    let before = texts_in c.loop-argument.before in
    let text = text_bytes k.name.text in
    let rest = keywords_of_list (drop (i + 1) c.args.by_name.now) in
    let later = given_again (text ∷ before) rest in
    ap (λ (ps : List Place). c.find_if.new.found.items ++ at_code E01 ps)
    (same_given (texts_in c.put.new.names) (text ∷ before) (rw c.as_str.ensures.value at c.in_ok-again.ensures.now)
    rest)
    ∙ stepped E01 c.loop-argument.found.items c.find_if.new.found.items (one_if c.in_ok-again.again k.name.place) later
    (given_again before (keywords_of_list (drop i c.args.by_name.now))) c.in_ok-find_if.ensures
    (ap (λ (ys : List RustKeyword). given_again before (keywords_of_list ys))
    (cons_at c.args.by_name.now i k c.loop-argument-test.true c.argument-item.is)
    ∙ ap (λ (b : Bool). one_if b k.name.place ++ later) (sym (rw c.as_str.ensures.value at c.in_ok-again.ensures.was)))
    ∙ c.loop-argument.invariant
