-- The notes of a call of `range` as the iterable of a `for`, in terms of the computed labels. Own rule of the profile.
use Rattle.std.specs.Prelude.{List, [], ◌++◌}
use Rattle.pc_source.specs.declared.place.Place.{Place}
use Rattle.pc_tree.specs.Tree.{Expr, Exprs, Keywords}
use Rattle.pc_scope.specs.Expressions.{is_instance_test}
use Rattle.pc_notes.specs.Notes.{Note}
use Rattle.pc_rules.specs.Calls.{arguments_given, call_label, positional_seat, named_seat, range_offers}
use Rattle.pc_rules.specs.Computed.Findings.{codes_at}
use Rattle.pc_rules.specs.Computed.Standing.{Standing, arguments_find, keywords_find}

-- the notes of a call of `range` as the iterable of a `for`: in its arguments, which flow into int, and at the call
abbrev pub range_finds : Standing → Place → (callee : Expr) → Exprs → Keywords → List Note
range_finds k p callee arguments keywords =
    let offers = range_offers (arguments_given arguments keywords) in
    arguments_find k (is_instance_test callee arguments keywords) (positional_seat offers) arguments
    ++ (keywords_find k (named_seat offers) [] keywords ++ codes_at p (call_label k.context.bases offers).codes)
