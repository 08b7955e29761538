use Rattle.std.proofs.Common.{◌≡◌, ◌∙◌, ◌++◌, ◌∷◌, [], ℕ, zero, suc, List, Bool, true, false, ap, sym, subst, map, refl}
use Rattle.std.specs.Prelude.{Some, slice_get, bytes_eq, if◌then◌else◌}
use Rattle.std.specs.List.{list_any}
use Rattle.std.specs.Borrow.{Bor}
use Rattle.std.proofs.lemmas.List.{map-append}
use Rattle.std.proofs.lemmas.Slice.Eq.{bytes_eq-Decides}
use Rattle.pc_tree.specs.Names.{text_seen}
use Rattle.pc_tree.proofs.InSets.{has}
use Rattle.pc_tree.specs.Stopping.{HeldMember}
use Rattle.pc_stopping.specs.Holdings.{Has}
use Rattle.pc_shared_maps.specs.declared.shared.MapNode.{MapNode}
use Rattle.pc_stopping.proofs.HeldNames.{more_names}
use Rattle.pc_stopping.proofs.holdings.Holdings.number.Goals as goal

got : {A B : Type 0} (f : A → B) (xs : List A) (k : ℕ) (x : A) → slice_get xs k ≡ Some x
    → slice_get (map f xs) k ≡ Some (f x)
got f [] k x e = absurd (cc)
got f (y ∷ xs) zero x e = let s : y ≡ x = cc in ap (λ z. Some (f z)) s
got f (y ∷ xs) (suc k) x e = got f xs k x e

pub returns-clause-named : goal.returns-clause-named
returns-clause-named c =
    let s = c.in_ok-number.ensures.stored in
    got text_seen c.insert_full.new.self.keys c.in_ok-number.number s.0 s.1
    ∙ ap Some (sym ((bytes_eq-Decides c.args.name.now (text_seen s.0)).0 s.2))

-- a table has what it had, whether the name is new or not
known_or_new : (tables : List MapNode) (t : ℕ) (hs : List HeldMember) (ks : List (Bor (List ℕ))) (x : Bor (List ℕ))
    (b : Bool) → list_any (λ k. bytes_eq x.now k.now) ks ≡ b → Has (map text_seen ks) tables t hs
    → Has (map text_seen (if b then ks else ks ++ x ∷ [])) tables t hs
known_or_new tables t hs ks x true e h = h
known_or_new tables t hs ks x false e h = subst (λ names. Has names tables t hs)
    (sym (map-append text_seen ks (x ∷ []))) (more_names (map text_seen ks) x.now tables t hs
    (sym (has text_seen x.now ks) ∙ e) h)

pub returns-clause-kept : goal.returns-clause-kept
returns-clause-kept c t hs h =
    let ks = c.args.self.now.numbers.keys in
    subst (λ (all : List (Bor (List ℕ))). Has (map text_seen all) c.args.self.now.tables t hs)
    (sym c.in_ok-number.ensures.keys)
    (known_or_new c.args.self.now.tables t hs ks c.args.name (list_any (λ k. bytes_eq c.args.name.now k.now) ks)
    refl h)
