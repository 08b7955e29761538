-- The first flow that is noted at a place, entry by entry.
use Rattle.std.proofs.Common.{◌≡◌, ℕ, zero, suc, arith, ◌<◌, ◌≤◌, ◌+◌, List, [], ◌∷◌, Option, Some, None, refl, sym, ap}
use Rattle.std.proofs.Common.{◌∙◌, subst, length, get_or, drop}
use Rattle.std.specs.Prelude.{Bool as Test, true, false, ◌&&◌, if◌then◌else◌, option_map, box_value, IfSome}
use Rattle.std.proofs.lemmas.List.{drop_all}
use Rattle.pc_source.specs.declared.place.Place.{Place}
use Rattle.pc_tree.specs.declared.code.Code.{Code}
use Rattle.pc_tree.proofs.Stops.{cons_at}
use Rattle.pc_types.specs.Tree.{Tree}
use Rattle.pc_notes.specs.declared.notes.NotedFlow.{NotedFlow}
use Rattle.pc_notes.specs.declared.notes.NoteEntry.{NoteEntry}
use Rattle.pc_notes.specs.declared.notes.NoteEntry.TheVariants.{Told, Typed, Bound}
use Rattle.pc_notes.specs.Notes.{is_same_place, is_same_code, entry_place, kept_flow, or_else, flow_types, flow_or}
use Rattle.pc_notes.specs.Notes.{flow_noted, note_of, notes_of, IsGivenFlow, IsGivenEntry, AreGiven}

none_test : (a b : Test) (o : Option NotedFlow) (rest : Option (Tree × Tree))
    → (if a then (if b then o else None) else None) ≡ None
    → (if a && b then or_else (option_map flow_types o) rest else rest) ≡ rest
none_test true true None rest e = refl
none_test true true (Some f) rest e = absurd (cc e)
none_test true false o rest e = refl
none_test false b o rest e = refl

some_test : (a b : Test) (o : Option NotedFlow) (f : NotedFlow) (rest : Option (Tree × Tree))
    → (if a then (if b then o else None) else None) ≡ Some f
    → (if a && b then or_else (option_map flow_types o) rest else rest) ≡ Some (flow_types f)
some_test true true None f rest e = absurd (cc e)
some_test true true (Some g) f rest e = let q : g ≡ f = cc in ap (λ x. Some (flow_types x)) q
some_test true false o f rest e = absurd (cc e)
some_test false b o f rest e = absurd (cc e)

nothing_typed : (b : Test) (f : NotedFlow) → (if b then None else None) ≡ Some f → ⊥
nothing_typed true f e = absurd (cc e)
nothing_typed false f e = absurd (cc e)

module _ (c : Code) (p : Place) where
  none_at : (e : NoteEntry) (rest : Option (Tree × Tree))
      → (if is_same_place p (entry_place e) then kept_flow c e else None) ≡ None → flow_or c p (note_of e) rest ≡ rest
  none_at (Told f flow) rest n = none_test (is_same_place p f.place) (is_same_code c f.code) (option_map box_value flow)
      rest n
  none_at (Typed shown q t) rest n = refl
  none_at (Bound q t) rest n = refl

  some_at : (e : NoteEntry) (f : NotedFlow) (rest : Option (Tree × Tree))
      → (if is_same_place p (entry_place e) then kept_flow c e else None) ≡ Some f
      → flow_or c p (note_of e) rest ≡ Some (flow_types f)
  some_at (Told g flow) f rest s = some_test (is_same_place p g.place) (is_same_code c g.code)
      (option_map box_value flow) f rest s
  some_at (Typed shown q t) f rest s = absurd (nothing_typed (is_same_place p q) f s)
  some_at (Bound q t) f rest s = absurd (nothing_typed (is_same_place p q) f s)

  module _ (es : List NoteEntry) (i : ℕ) (e : NoteEntry) (lt : i < length es) (is : e ≡ get_or es i e) where
    next : flow_noted c p (notes_of (drop i es)) ≡ flow_noted c p (notes_of (e ∷ drop (i + 1) es))
    next = ap (λ l. flow_noted c p (notes_of l)) (cons_at es i e lt is)

    -- no flow is noted at the next entry
    pub later_flow : (if is_same_place p (entry_place e) then kept_flow c e else None) ≡ None
        → flow_noted c p (notes_of (drop i es)) ≡ flow_noted c p (notes_of (drop (i + 1) es))
    later_flow n = next ∙ none_at e (flow_noted c p (notes_of (drop (i + 1) es))) n

    -- this one is
    pub this_flow : (f : NotedFlow) → (if is_same_place p (entry_place e) then kept_flow c e else None) ≡ Some f
        → flow_noted c p (notes_of (drop i es)) ≡ Some (flow_types f)
    this_flow f s = next ∙ some_at e f (flow_noted c p (notes_of (drop (i + 1) es))) s

  -- nothing is left
  pub no_flow : (es : List NoteEntry) (i : ℕ) → length es ≤ i → flow_noted c p (notes_of (drop i es)) ≡ None
  no_flow es i le = ap (λ l. flow_noted c p (notes_of l)) (drop_all i es le)

-- ---- flows that entries keep

given_if : (b : Test) (o : Option NotedFlow) → IfSome o IsGivenFlow → IfSome (if b then o else None) IsGivenFlow
given_if true o h = h
given_if false o h = tt

given_some : (o : Option NotedFlow) (f : NotedFlow) → IfSome o IsGivenFlow → o ≡ Some f → IsGivenFlow f
given_some None f h e = absurd (cc e)
given_some (Some g) f h e = let q : g ≡ f = cc in subst IsGivenFlow q h

-- the flow that an entry keeps is of types that a store of boxes may give
pub given_kept : (c : Code) (e : NoteEntry) → IsGivenEntry e → IfSome (kept_flow c e) IsGivenFlow
given_kept c (Told f flow) h = given_if (is_same_code c f.code) (option_map box_value flow) h
given_kept c (Typed shown q t) h = tt
given_kept c (Bound q t) h = tt

-- likewise the one that it reports at a place
pub given_at : (c : Code) (p : Place) (e : NoteEntry) (f : NotedFlow) → IsGivenEntry e
    → (if is_same_place p (entry_place e) then kept_flow c e else None) ≡ Some f → IsGivenFlow f
given_at c p e f h s = given_some (if is_same_place p (entry_place e) then kept_flow c e else None) f
    (given_if (is_same_place p (entry_place e)) (kept_flow c e) (given_kept c e h)) s

-- an entry that a loop comes to is one of those that are given
pub entry_given : (es : List NoteEntry) (i : ℕ) (e : NoteEntry) → AreGiven es → i < length es → e ≡ get_or es i e
    → IsGivenEntry e
entry_given [] i e all lt is = absurd (omega (arith, lt))
entry_given (x ∷ xs) zero e all lt is = subst IsGivenEntry (sym is) all.0
entry_given (x ∷ xs) (suc i) e all lt is = entry_given xs i e all.1 (omega (arith, lt)) is
