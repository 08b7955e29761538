use Rattle.std.proofs.Common.{◌≡◌, ◌∙◌, sym, ap, ◌∷◌, List, drop, ◌+◌, false, true, Bool, ℕ}
use Rattle.std.specs.Prelude.{◌&&◌}
use Rattle.std.specs.List.{list_all}
use Rattle.pc_tree.specs.Stopping.{is_among}
use Rattle.pc_tree.proofs.Stops.{cons_at}
use Rattle.pc_tree.specs.Names.{text_seen, texts_in}
use Rattle.pc_tree.proofs.InSets.{has}
use Rattle.pc_machine.specs.declared.state.NamedValue.{NamedValue}
use Rattle.pc_machine.proofs.calls.are_among.Goals as goal

-- the next argument decides, or those after it
next : (p : NamedValue → Bool) (xs : List NamedValue) (x : NamedValue) (rest : List NamedValue) (b : Bool)
    → xs ≡ x ∷ rest → p x ≡ b → list_all p xs ≡ (b && list_all p rest)
next p xs x rest b e q = ap (list_all p) e ∙ ap (λ (c : Bool). c && list_all p rest) q

pub returns-then-not-contains : goal.returns-then-not-contains
returns-then-not-contains c =
    let a = c.argument-item.result in
    let i = c.loop-argument.argument-index in
    let p = λ (x : NamedValue). is_among (texts_in c.args.names.now) x.name.now in
    sym (sym c.loop-argument.invariant ∙ next p (drop i c.args.named.now) a (drop (i + 1) c.args.named.now) false
    (cons_at c.args.named.now i a c.loop-argument-test.true c.argument-item.is)
    (sym (has text_seen a.name.now c.args.names.now.keys) ∙ sym c.contains.ensures ∙ c.if-not-contains.true))

pub loop-argument-preserved : goal.loop-argument-preserved
loop-argument-preserved c =
    let a = c.argument-item.result in
    let i = c.loop-argument.argument-index in
    let p = λ (x : NamedValue). is_among (texts_in c.args.names.now) x.name.now in
    sym (next p (drop i c.args.named.now) a (drop (i + 1) c.args.named.now) true
    (cons_at c.args.named.now i a c.loop-argument-test.true c.argument-item.is)
    (sym (has text_seen a.name.now c.args.names.now.keys) ∙ sym c.contains.ensures ∙ c.if-not-contains.false))
    ∙ c.loop-argument.invariant
