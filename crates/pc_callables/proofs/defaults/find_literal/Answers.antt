use Rattle.pc_tree.specs.Tree.{literal_of}
use Rattle.pc_notes.specs.Notes.{notes_of}
use Rattle.pc_rules.specs.Operations.{clean}
use Rattle.pc_rules.specs.Signatures.{literal_type}
use Rattle.std.proofs.Common.{◌≡◌, ◌++◌, ◌∷◌, [], OnOk, subst}
use Rattle.pc_source.specs.declared.place.Place.{Place}
use Rattle.pc_rules.specs.Computed.Expressions.{flows_of}
use Rattle.pc_rules.specs.Computed.Findings.{flows_at}
use Rattle.pc_callables.proofs.LiteralPlaces.{place_is}
use Rattle.pc_callables.proofs.defaults.find_literal.Goals as goal

pub returns-clause-found : goal.returns-clause-found
returns-clause-found g c =
    let l = c.args.literal.now in
    let bases = c.args.parents.now in
    let t = g.S.TypeStore.tree c.args.into.now in
    subst (λ (p : Place). OnOk c.find_into.result ((notes_of c.find_into.new.state.found.now)
    ≡ (notes_of c.args.state.now.found.now) ++ flows_at p (flows_of bases (clean (literal_type (literal_of l)))
    (t ∷ [])))) (place_is l)
    (c.find_into.ensures.found (clean (literal_type (literal_of l))) c.in_ok-label.ensures.labelled.is)
