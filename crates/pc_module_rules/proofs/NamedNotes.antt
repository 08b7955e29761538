-- Notes that name just these, and the note of a bound name: of a local, its types under lawful labels.
use Rattle.std.proofs.Common.{◌≡◌, ◌<◌, ℕ, List, [], ◌∷◌, ◌++◌, Option, Some, None, refl, sym, ap, ◌∙◌, subst}
use Rattle.std.proofs.Common.{append_assoc, append-nil, map, length, suc}
use Rattle.std.proofs.lemmas.Grind.{flat_map-append}
use Rattle.std.proofs.lemmas.List.{map-append, get_or-set_same}
use Rattle.std.specs.Prelude.{Bool as Test, true, false, if◌then◌else◌}
use Rattle.pc_source.specs.declared.place.Place.{Place}
use Rattle.pc_tree.specs.Tree.{Name}
use Rattle.pc_scope.specs.declared.resolution.NameMeaning.{NameMeaning}
use Rattle.pc_scope.specs.declared.resolution.NameMeaning.TheVariants as meaning
use Rattle.pc_types.specs.Tree.{Tree}
use Rattle.pc_flow.specs.Agreement.{SameWhere}
use Rattle.pc_flow.specs.Environment.{Env, current, declared_type, assigned_type}
use Rattle.pc_notes.specs.Notes.{Note, name_of_note, names_of_notes}
use Rattle.pc_rules.specs.Labels.{FlowLabels}
use Rattle.pc_module_rules.specs.Statements.{NamesBound, only_code, bound_env}
use Rattle.pc_module_rules.specs.NamesOfStatements.{NameAt, name_bound, name_declared}
use Rattle.pc_module_rules.specs.Laws.Labellings.{Surroundings}
use Rattle.pc_module_rules.specs.Laws.Names.{as_noted}
use Rattle.pc_module_rules.specs.Laws.Walks.{TableFits, EnvFits}
use Rattle.pc_module_rules.specs.Computed.Statements.{DeclaredTypes, type_table, bound_type, BindingResult, local_note}
use Rattle.pc_module_rules.specs.Computed.Statements.{name_note, noted_binding}
use Rattle.pc_module_rules.proofs.BoundNames.{here_among}
use Rattle.pc_module_rules.proofs.EnteredTables.{long_types}
use Rattle.pc_module_rules.proofs.NamelessNotes.{AreNameless}

-- ---- notes that name just these

pub record Names (notes : List Note) (rows : List NameAt) : Type 0 where
  pub are : names_of_notes notes ≡ map as_noted rows

pub name_both : (xs ys : List Note) (a b : List NameAt) → Names xs a → Names ys b → Names (xs ++ ys) (a ++ b)
name_both xs ys a b h k = record {
  are = flat_map-append name_of_note xs ys ∙ (λ i. h.are i ++ k.are i) ∙ sym (map-append as_noted a b);
}

-- of notes after nameless ones
pub name_after_none : (xs ys : List Note) (b : List NameAt) → AreNameless xs → Names ys b → Names (xs ++ ys) b
name_after_none xs ys b h k = name_both xs ys [] b (record { are = h.are }) k

-- ---- more notes

-- more notes name just these besides
pub record NamesMore (found after : List Note) (rows : List NameAt) : Type 0 where
  pub are : names_of_notes after ≡ names_of_notes found ++ map as_noted rows

pub more_none : (found : List Note) → NamesMore found found []
more_none found = record { are = sym (append-nil (names_of_notes found)) }

pub more_nameless : (found xs : List Note) → AreNameless xs → NamesMore found (found ++ xs) []
more_nameless found xs h = record {
  are = flat_map-append name_of_note found xs
      ∙ ap (λ (rows : List (Place × Tree × Option Tree)). names_of_notes found ++ rows) h.are;
}

pub more_then : (f g h : List Note) (a b : List NameAt) → NamesMore f g a → NamesMore g h b → NamesMore f h (a ++ b)
more_then f g h a b x y = record {
  are = y.are
      ∙ ap (λ (rows : List (Place × Tree × Option Tree)). rows ++ map as_noted b) x.are
      ∙ append_assoc (names_of_notes f) (map as_noted a) (map as_noted b)
      ∙ ap (λ (rows : List (Place × Tree × Option Tree)). names_of_notes f ++ rows) (sym (map-append as_noted a b));
}

-- notes that name just these, with more after them
pub name_more : (found after : List Note) (a b : List NameAt) → Names found a → NamesMore found after b
    → Names after (a ++ b)
name_more found after a b h k = record {
  are = k.are ∙ ap (λ (rows : List (Place × Tree × Option Tree)). rows ++ map as_noted b) h.are
      ∙ sym (map-append as_noted a b);
}

-- ---- a local assigned

same_long : (ds es : List Tree) (env : Env) → SameWhere ds es env → length env ≡ length es
same_long [] [] [] h = refl
same_long (d ∷ ds) (e ∷ es) (s ∷ env) h = ap suc (same_long ds es env h.1)
same_long [] [] (s ∷ env) h = absurd h
same_long [] (e ∷ es) env h = absurd h
same_long (d ∷ ds) [] env h = absurd h
same_long (d ∷ ds) (e ∷ es) [] h = absurd h

module _ (around : Surroundings) (declared : List Tree) where
  open around use {whole as m, context as ctx}

  -- a bound name with its types: its declared type, and its type in this environment if it has a value
  abbrev pub bound_as : (valued : Test) → Name → NameMeaning → Env → List NameAt
  bound_as valued n (meaning.Local x) after = record {
    place = n.place;
    declared = declared_type declared x;
    current = if valued then current after x else None;
  } ∷ []
  bound_as valued n r after = []

  module _ (seen : NamesBound) (n : Name) where
    local_named : (valued : Test) (b : BindingResult) (after : Env) (x : ℕ) → ctx.resolve n.text ≡ meaning.Local x
        → TableFits around declared (n.text ∷ seen) b.table → b.env ≡ after
        → NamesMore b.found (b.found ++ name_note valued b.table b.env (meaning.Local x) n.place)
        (bound_as valued n (meaning.Local x) after)
    local_named valued b after x i fits is =
        let notes : Option Tree → Env → List Note = λ o env. local_note o (if valued then current env x else None)
        n.place in
        let here : bound_type b.table x ≡ Some (declared_type declared x) = fits.bound n.text x (here_among n.text seen)
        i in
        let same : name_note valued b.table b.env (meaning.Local x) n.place ≡ notes (Some (declared_type declared x)) after =
        λ j. notes (here j) (is j) in
        record {
          are = flat_map-append name_of_note b.found (name_note valued b.table b.env (meaning.Local x) n.place)
              ∙ ap (λ (xs : List Note). names_of_notes b.found ++ names_of_notes xs) same;
        }

    -- the note of a bound name names it so
    pub note_names : (valued : Test) (b : BindingResult) (after : Env) (r : NameMeaning) → ctx.resolve n.text ≡ r
        → TableFits around declared (n.text ∷ seen) b.table → b.env ≡ after
        → NamesMore b.found (noted_binding true valued r n.place b).found (bound_as valued n r after)
    note_names valued b after (meaning.Local x) i fits is = local_named valued b after x i fits is
    note_names valued b after (meaning.Const c) i fits is = more_nameless b.found [] (record { are = refl })
    note_names valued b after (meaning.Func c) i fits is = more_nameless b.found [] (record { are = refl })
    note_names valued b after (meaning.Class c) i fits is = more_nameless b.found [] (record { are = refl })
    note_names valued b after (meaning.Builtin c) i fits is = more_nameless b.found [] (record { are = refl })
    note_names valued b after meaning.None i fits is = more_nameless b.found [] (record { are = refl })

    -- a local that a type was assigned to
    pub assigned_named : (table : DeclaredTypes) → TableFits around declared seen table → (env : Env)
        → EnvFits around declared table env → (x : ℕ) → ctx.resolve n.text ≡ meaning.Local x → (from : Tree)
        (flows : FlowLabels) (after : Env) → after ≡ bound_env m ctx declared env x from flows
        → bound_as true n (meaning.Local x) after ≡ name_bound ctx.resolve declared n (meaning.Local x) from flows
    assigned_named table t env f x i from flows after is =
        let type = assigned_type (declared_type declared x) from (only_code flows) in
        let long : length env ≡ around.count = same_long declared (type_table table) env f.same
        ∙ long_types around declared table ∙ t.long in
        let below : x < length env = subst (λ (c : ℕ). x < c) (sym long) (around.locals.below n.text x i) in
        let value : current after x ≡ Some type = ap (λ (e : Env). current e x) is
        ∙ get_or-set_same env x (Some type) None below in
        let row : Option Tree → List NameAt = λ c. record {
          place = n.place;
          declared = declared_type declared x;
          current = c;
        } ∷ [] in
        ap row value

    -- a name annotated without a value
    pub declared_named : (r : NameMeaning) (after : Env)
        → bound_as false n r after ≡ name_declared ctx.resolve declared n r
    declared_named (meaning.Local x) after = refl
    declared_named (meaning.Const c) after = refl
    declared_named (meaning.Func c) after = refl
    declared_named (meaning.Class c) after = refl
    declared_named (meaning.Builtin c) after = refl
    declared_named meaning.None after = refl
