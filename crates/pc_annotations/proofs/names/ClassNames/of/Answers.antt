use Rattle.std.proofs.Common.{◌≡◌, ◌∙◌, ◌++◌, ◌∷◌, [], List, ℕ, Vec, Global, sym, ap, map, append-nil}
use Rattle.std.specs.Prelude.{Option, Some}
use Rattle.std.specs.Borrow.{Bor}
use Rattle.std.specs.List.{cons_option}
use Rattle.std.proofs.lemmas.List.{map-append}
use Rattle.pc_tree.specs.Tree.{ClassDef, class_of, item_of, item_of_kind}
use Rattle.pc_scope.specs.Bindings.{as_class}
use Rattle.pc_annotations.proofs.ClassesNamed.{names_of, names_next, not_class}
use Rattle.pc_annotations.proofs.names.ClassNames.of.Goals as goal
use Rattle.pc_annotations.proofs.names.ClassNames.of.Goals.{in-Class+in_ok-push, in_default}

pub loop-item-preserved : goal.loop-item-preserved
loop-item-preserved c =
    let x = c.item-item.result in
    let texts = map (λ (n : Bor (List ℕ)). n.now) in
    let old = texts c.loop-item.names.items in
    names_next c.deref-item-items.result.now c.loop-item.item-index x c.loop-item-test.true c.item-item.is old
    (texts c.match-item.names.items) c.loop-item.invariant (elim c.match-item.branch [
      | in-Class+in_ok-push w ↦
          let is_class : as_class (item_of x) ≡ Some (class_of w.in-Class.class) =
          ap (λ k. as_class (item_of_kind x.first k)) w.in-Class.is in
          ap (λ (v : Vec (Bor (List ℕ)) Global). texts v.items) w.names-is
          ∙ ap texts w.in_ok-push.ensures.items
          ∙ map-append (λ (n : Bor (List ℕ)). n.now) c.loop-item.names.items (w.as_str.result ∷ [])
          ∙ ap (λ (text : List ℕ). old ++ text ∷ []) w.as_str.ensures.value
          ∙ ap (λ (o : Option ClassDef). old ++ names_of (cons_option o [])) (sym is_class)
      | in_default w ↦
          ap (λ (v : Vec (Bor (List ℕ)) Global). texts v.items) w.names-is
          ∙ sym (append-nil old)
          ∙ ap (λ (o : Option ClassDef). old ++ names_of (cons_option o []))
          (sym (not_class x.first x.kind w.in_default.not-Class))
    ])
