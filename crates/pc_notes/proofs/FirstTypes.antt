-- The first type of a label that is noted at each place, as a map grows with the notes.
use Rattle.std.proofs.Common.{◌≡◌, List, [], ◌∷◌, ◌++◌, Bool, true, false, cond, Option, Some, None, refl, sym, ap, ◌∙◌}
use Rattle.std.proofs.Common.{subst}
use Rattle.std.specs.Prelude.{if◌then◌else◌, option_map, is_some}
use Rattle.std.specs.Rc.{rc_value}
use Rattle.std.specs.Borrow.{Bor}
use Rattle.std.specs.Ordering.{is_eq}
use Rattle.std.specs.BTreeMap.{BTreeMap, get}
use Rattle.pc_source.specs.declared.place.Place.{Place}
use Rattle.pc_types.specs.Tree.{Tree}
use Rattle.pc_types.specs.Boxed.{tree_of}
use Rattle.pc_types.specs.declared.boxed.BoxType.{BoxType}
use Rattle.pc_notes.specs.declared.notes.NoteEntry.{NoteEntry}
use Rattle.pc_notes.specs.declared.notes.NoteEntry.TheVariants.{Told, Typed, Bound}
use Rattle.pc_notes.specs.Notes.{Note, told, typed, named, is_same_place, kept_type, or_else, type_or, type_noted}
use Rattle.pc_notes.specs.Notes.{note_of, entry_place, notes_of, shared_tree}
use Rattle.pc_notes.specs.Texts.{place_cmp, HasFirstTypes}
use Rattle.pc_notes.proofs.FirstFlows.{or_else_none, kept_first, none_first, some_mapped, place_same, self_tested}
use Rattle.pc_notes.proofs.FirstFlows.{not_same}

-- ---- one note more

behind : (b : Bool) (t : Tree) (r x : Option Tree) → (if b then Some t else or_else r x)
    ≡ or_else (if b then Some t else r) x
behind true t r x = refl
behind false t r x = refl

type_more : (p : Place) (ns : List Note) (n : Note) → type_noted p (ns ++ n ∷ [])
    ≡ or_else (type_noted p ns) (type_or p n None)
type_more p [] n = refl
type_more p (told f flow ∷ ns) n = type_more p ns n
type_more p (typed shown q t ∷ ns) n = ap (type_or p (typed shown q t)) (type_more p ns n)
    ∙ behind (is_same_place p q) t (type_noted p ns) (type_or p n None)
type_more p (named q d t ∷ ns) n = type_more p ns n

-- ---- the map

other_place : (p k : Place) (t : Tree) → is_eq (place_cmp k p) ≡ false → (b : Bool) → is_same_place p k ≡ b
    → (if b then Some t else None) ≡ None
other_place p k t h b e = rw (not_same p k h b e) refl

other_at : (p : Place) (e : NoteEntry) → is_eq (place_cmp (entry_place e) p) ≡ false → type_or p (note_of e) None ≡ None
other_at p (Told f flow) h = refl
other_at p (Typed shown q t) h = other_place p q (shared_tree t) h (is_same_place p q) refl
other_at p (Bound q t) h = refl

none_kept : (p : Place) (e : NoteEntry) → kept_type e ≡ None → type_or p (note_of e) None ≡ None
none_kept p (Told f flow) h = refl
none_kept p (Typed shown q t) h = absurd (cc h)
none_kept p (Bound q t) h = refl

-- an entry that is not of a label is left out
pub left_out : (es : List NoteEntry) (e : NoteEntry) (types : BTreeMap Place (Bor BoxType)) → kept_type e ≡ None
    → HasFirstTypes (notes_of es) types → HasFirstTypes (notes_of es ++ note_of e ∷ []) types
left_out es e types n has = λ p. has p ∙ sym (type_more p (notes_of es) (note_of e)
    ∙ ap (or_else (type_noted p (notes_of es))) (none_kept p e n) ∙ or_else_none (type_noted p (notes_of es)))

-- at a place that has a type a later one is left out
known_place : (es : List NoteEntry) (e : NoteEntry) (types : BTreeMap Place (Bor BoxType))
    → is_some (get place_cmp types (entry_place e)) ≡ true → HasFirstTypes (notes_of es) types
    → HasFirstTypes (notes_of es ++ note_of e ∷ []) types
known_place es e types known has =
    λ p. has p ∙ sym (type_more p (notes_of es) (note_of e) ∙ by p (is_eq (place_cmp (entry_place e) p)) refl)
  where
    by : (p : Place) (b : Bool) → is_eq (place_cmp (entry_place e) p) ≡ b
        → or_else (type_noted p (notes_of es)) (type_or p (note_of e) None) ≡ type_noted p (notes_of es)
    by p true h =
        let same : (entry_place e) ≡ p = place_same (entry_place e) p h in
        let some : is_some (type_noted p (notes_of es)) ≡ true = ap is_some (sym (has p))
        ∙ some_mapped (λ (t : Bor BoxType). tree_of t.now) (get place_cmp types p)
        ∙ subst (λ q. is_some (get place_cmp types q) ≡ true) same known in
        kept_first (type_noted p (notes_of es)) (type_or p (note_of e) None) some
    by p false h = ap (or_else (type_noted p (notes_of es))) (other_at p e h) ∙ or_else_none (type_noted p (notes_of es))

-- at a place without a type one is put in
new_place : (es : List NoteEntry) (e : NoteEntry) (t : Bor BoxType) (old new : BTreeMap Place (Bor BoxType))
    → kept_type e ≡ Some t.now → is_some (get place_cmp old (entry_place e)) ≡ false
    → ((q : Place) → get place_cmp new q ≡ cond (is_eq (place_cmp (entry_place e) q)) (Some t) (get place_cmp old q))
    → HasFirstTypes (notes_of es) old → HasFirstTypes (notes_of es ++ note_of e ∷ []) new
new_place es e t old new is fresh step has =
    λ p. ap (option_map (λ (g : Bor BoxType). tree_of g.now)) (step p)
    ∙ by p (is_eq (place_cmp (entry_place e) p)) refl ∙ sym (type_more p (notes_of es) (note_of e))
  where
    own_if : (a : Bool) (g : BoxType) → a ≡ true → g ≡ t.now
        → (if a then Some (tree_of g) else None) ≡ Some (tree_of t.now)
    own_if true g h e = ap (λ x. Some (tree_of x)) e
    own_if false g h e = cc

    own_of : (x : NoteEntry) → kept_type x ≡ Some t.now → type_or (entry_place x) (note_of x) None ≡ Some (tree_of t.now)
    own_of (Told g flow) h = absurd (cc h)
    own_of (Typed shown q g) h = own_if (is_same_place q q) (rc_value g).ty (self_tested q) cc
    own_of (Bound q g) h = absurd (cc h)

    by : (p : Place) (b : Bool) → is_eq (place_cmp (entry_place e) p) ≡ b
        → option_map (λ (g : Bor BoxType). tree_of g.now) (cond b (Some t) (get place_cmp old p))
        ≡ or_else (type_noted p (notes_of es)) (type_or p (note_of e) None)
    by p true h =
        let same : (entry_place e) ≡ p = place_same (entry_place e) p h in
        let none : is_some (type_noted p (notes_of es)) ≡ false = ap is_some (sym (has p))
        ∙ some_mapped (λ (g : Bor BoxType). tree_of g.now) (get place_cmp old p)
        ∙ subst (λ q. is_some (get place_cmp old q) ≡ false) same fresh in
        sym (none_first (type_noted p (notes_of es)) (type_or p (note_of e) None) none
        ∙ subst (λ q. type_or q (note_of e) None ≡ Some (tree_of t.now)) same (own_of e is))
    by p false h = has p ∙ sym (ap (or_else (type_noted p (notes_of es))) (other_at p e h)
        ∙ or_else_none (type_noted p (notes_of es)))

-- the same with the place as the program has it
pub known_at : (es : List NoteEntry) (e : NoteEntry) (types : BTreeMap Place (Bor BoxType)) (q : Place)
    → q ≡ entry_place e → is_some (get place_cmp types q) ≡ true → HasFirstTypes (notes_of es) types
    → HasFirstTypes (notes_of es ++ note_of e ∷ []) types
known_at es e types q same known =
    known_place es e types (subst (λ x. is_some (get place_cmp types x) ≡ true) same known)

-- likewise, with the place under which the program puts it in
pub new_at : (es : List NoteEntry) (e : NoteEntry) (t : Bor BoxType) (old new : BTreeMap Place (Bor BoxType))
    → {q : Place} → kept_type e ≡ Some t.now → is_some (get place_cmp old (entry_place e)) ≡ false
    → ((r : Place) → get place_cmp new r ≡ cond (is_eq (place_cmp q r)) (Some t) (get place_cmp old r))
    → HasFirstTypes (notes_of es) old → q ≡ entry_place e → HasFirstTypes (notes_of es ++ note_of e ∷ []) new
new_at es e t old new is fresh step has same =
    new_place es e t old new is fresh
    (subst (λ x. (r : Place) → get place_cmp new r ≡ cond (is_eq (place_cmp x r)) (Some t) (get place_cmp old r))
    same step) has
