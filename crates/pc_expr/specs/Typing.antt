-- The results of the program that types expressions for callees and lists of expressions, in terms of the computed
-- labels. Own rule of the profile.
use Rattle.std.specs.Prelude.{ℕ, List, Bool as Test, true, false, None}
use Rattle.pc_tree.specs.declared.code.Code.TheVariants.{E03}
use Rattle.pc_tree.specs.Tree.{Expr, Exprs}
use Rattle.pc_notes.specs.Notes.{Note}
use Rattle.pc_rules.specs.Operations.{Label, in_error}
use Rattle.pc_rules.specs.Calls.{GivenArguments, CalleeLabel, Seat, value_callee}
use Rattle.pc_rules.specs.Labels.{with_label}
use Rattle.pc_rules.specs.Lawful.{callee_of, early_second}
use Rattle.pc_rules.specs.Computed.Expressions.{labels_of}
use Rattle.pc_rules.specs.Computed.Findings.{callee_notes_under}
use Rattle.pc_rules.specs.Computed.Standing.{Standing, items_in}

-- a callee that is neither a name nor, in a body, an attribute, by its label
abbrev pub unnamed_callee : (in_body : Test) → Label → CalleeLabel
unnamed_callee true m = value_callee m
unnamed_callee false m = value_callee (in_error E03)

-- an expression as the callee of a call that gives these arguments
unfoldable pub callee_in : Standing → GivenArguments → Expr → CalleeLabel
callee_in k g e = callee_of k.context k.env g e (labels_of k.context k.declared k.env None e)

-- the notes of a callee and its parts
unfoldable pub callee_finds : Standing → GivenArguments → Expr → List Note
callee_finds k g e = callee_notes_under k.keeps e (with_label e (labels_of k.context k.declared k.env None e)
    (callee_in k g e).label)

-- whether the second of several expressions is E03: an initializer names it too early
unfoldable pub second_is_early : Standing → (seat : ℕ → Seat) → Exprs → Test
second_is_early k seat es = early_second es (items_in k seat es)
