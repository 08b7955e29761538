-- The first flow that is noted at each place, as a map grows with the notes.
use Rattle.std.proofs.Common.{◌≡◌, ℕ, suc, ◌<◌, arith, All, Contains, map, List, [], ◌∷◌, ◌++◌, Bool, true, false, cond}
use Rattle.std.proofs.Common.{Option, Some, None, refl, sym, ap, ◌∙◌, subst, Equal}
use Rattle.std.specs.Prelude.{◌&&◌, nat_eq, if◌then◌else◌, option_map, is_some, IsSome, IfSome, MatchOption}
use Rattle.std.specs.Prelude.{box_value}
use Rattle.std.specs.Rc.{rc_str_bytes}
use Rattle.std.specs.Borrow.{Bor}
use Rattle.std.proofs.lemmas.Cmp.{ranked}
use Rattle.std.proofs.lemmas.Bool.{eqb-true, eq-eqb}
use Rattle.std.specs.Ordering.{is_eq, nat_cmp, ordering_then, MatchOrdering}
use Rattle.std.specs.declared.cmp.Ordering.{Ordering}
use Rattle.std.specs.BTreeMap.{BTreeMap, get}
use Rattle.std.specs.Map.{lookup}
use Rattle.std.specs.List.{AllByRecursion}
use Rattle.std.proofs.lemmas.List.{map-append}
use Rattle.std.proofs.lemmas.List.Elements.{All-head, All-tail}
use Rattle.pc_source.specs.declared.place.Place.{Place}
use Rattle.pc_tree.specs.declared.code.Code.{Code}
use Rattle.pc_tree.specs.Tree.{Module}
use Rattle.pc_types.specs.Tree.{Tree}
use Rattle.pc_annotations.specs.Text.{type_text}
use Rattle.pc_notes.specs.declared.notes.NotedFlow.{NotedFlow}
use Rattle.pc_notes.specs.declared.notes.NoteEntry.{NoteEntry}
use Rattle.pc_notes.specs.declared.notes.NoteEntry.TheVariants.{Told, Typed, Bound}
use Rattle.pc_notes.specs.Notes.{Note, told, typed, named, is_same_place, is_same_code, is_finding_at, kept_flow}
use Rattle.pc_notes.specs.Notes.{or_else}
use Rattle.pc_notes.specs.Notes.{flow_or, flow_types, flow_noted, note_of, entry_place, notes_of, IsGivenFlow}
use Rattle.pc_notes.specs.Notes.{shared_tree}
use Rattle.pc_notes.specs.Texts.{FlowText, IsFlowText, place_cmp, places_of, HasGivenFlows, HasFirstFlows}

-- ---- one note more

pub or_else_none : {A : Type 0} → (o : Option A) → or_else o None ≡ o
or_else_none None = refl
or_else_none (Some a) = refl

behind : (b : Bool) (o r x : Option (Tree × Tree)) → (if b then or_else o (or_else r x) else or_else r x)
    ≡ or_else (if b then or_else o r else r) x
behind true None r x = refl
behind true (Some f) r x = refl
behind false o r x = refl

pub noted_more : (c : Code) (p : Place) (ns : List Note) (n : Note) → flow_noted c p (ns ++ n ∷ [])
    ≡ or_else (flow_noted c p ns)
    (flow_or c p n None)
noted_more c p [] n = refl
noted_more c p (told f flow ∷ ns) n = ap (flow_or c p (told f flow)) (noted_more c p ns n)
    ∙ behind (is_finding_at c p f) flow (flow_noted c p ns) (flow_or c p n None)
noted_more c p (typed shown q t ∷ ns) n = noted_more c p ns n
noted_more c p (named q d t ∷ ns) n = noted_more c p ns n

-- ---- places

at_equal : (P Q R : Type 0) (o : Ordering) → MatchOrdering o P Q R → o ≡ Equal → Q
at_equal P Q R Rattle.std.specs.declared.cmp.Ordering.TheVariants.Less m h = cc
at_equal P Q R Equal m h = m
at_equal P Q R Rattle.std.specs.declared.cmp.Ordering.TheVariants.Greater m h = cc

nat_equal : (x y : ℕ) → nat_cmp x y ≡ Equal → x ≡ y
nat_equal x y h = at_equal (x < y) (x ≡ y) (y < x) (nat_cmp x y) (ranked x y (nat_cmp x y) refl) h

then_equal : (a b : Ordering) → ordering_then a b ≡ Equal → (a ≡ Equal) × (b ≡ Equal)
then_equal Rattle.std.specs.declared.cmp.Ordering.TheVariants.Less b h = cc
then_equal Equal b h = (refl, h)
then_equal Rattle.std.specs.declared.cmp.Ordering.TheVariants.Greater b h = cc

equal : (o : Ordering) → is_eq o ≡ true → o ≡ Equal
equal Rattle.std.specs.declared.cmp.Ordering.TheVariants.Less h = cc
equal Equal h = refl
equal Rattle.std.specs.declared.cmp.Ordering.TheVariants.Greater h = cc

one_place : (p q : Place) → p.start ≡ q.start → p.end ≡ q.end → p ≡ q
one_place p q s e = λ i. record { start = s i; end = e i }

pub place_same : (p q : Place) → is_eq (place_cmp p q) ≡ true → p ≡ q
place_same p q h =
    let both = then_equal (nat_cmp p.start q.start) (nat_cmp p.end q.end) (equal (place_cmp p q) h) in
    one_place p q (nat_equal p.start q.start both.0) (nat_equal p.end q.end both.1)

at_self : (x : ℕ) (o : Ordering) → MatchOrdering o (x < x) (x ≡ x) (x < x) → o ≡ Equal
at_self x Rattle.std.specs.declared.cmp.Ordering.TheVariants.Less m = absurd (omega arith)
at_self x Equal m = refl
at_self x Rattle.std.specs.declared.cmp.Ordering.TheVariants.Greater m = absurd (omega arith)

nat_self : (x : ℕ) → nat_cmp x x ≡ Equal
nat_self x = at_self x (nat_cmp x x) (ranked x x (nat_cmp x x) refl)

pub place_self : (p : Place) → is_eq (place_cmp p p) ≡ true
place_self p = rw (nat_self p.start, nat_self p.end) refl

both_true : (a b : Bool) → (a && b) ≡ true → (a ≡ true) × (b ≡ true)
both_true true b h = (refl, h)
both_true false b h = cc

tested_same : (p q : Place) → is_same_place p q ≡ true → p ≡ q
tested_same p q h = let both = both_true (nat_eq p.start q.start) (nat_eq p.end q.end) h in
    one_place p q (eqb-true p.start q.start both.0) (eqb-true p.end q.end both.1)

pub self_tested : (p : Place) → is_same_place p p ≡ true
self_tested p = rw (eq-eqb p.start p.start refl, eq-eqb p.end p.end refl) refl

pub apart : (x : Bool) → x ≡ true → x ≡ false → ⊥
apart x a b = cc

pub not_same : (p k : Place) → is_eq (place_cmp k p) ≡ false → (b : Bool) → is_same_place p k ≡ b → b ≡ false
not_same p k h true e = absurd (apart (is_eq (place_cmp k p))
    (subst (λ q. is_eq (place_cmp q p) ≡ true) (tested_same p k e) (place_self p)) h)
not_same p k h false e = refl

-- ---- the map

other_place : (p k : Place) (x : Bool) (o : Option (Tree × Tree)) → is_eq (place_cmp k p) ≡ false → (b : Bool)
    → is_same_place p k ≡ b → (if b && x then or_else o None else None) ≡ None
other_place p k x o h b e = rw (not_same p k h b e) refl

other_at : (c : Code) (p : Place) (e : NoteEntry) → is_eq (place_cmp (entry_place e) p) ≡ false
    → flow_or c p (note_of e) None ≡ None
other_at c p (Told f flow) h =
    other_place p f.place (is_same_code c f.code) (option_map flow_types (option_map box_value flow)) h
    (is_same_place p f.place) refl
other_at c p (Typed shown q t) h = refl
other_at c p (Bound q t) h = refl

nothing : (a b : Bool) (o : Option NotedFlow) → (if b then o else None) ≡ None
    → (if a && b then or_else (option_map flow_types o) None else None) ≡ None
nothing true true None h = refl
nothing true true (Some f) h = absurd (cc h)
nothing true false o h = refl
nothing false b o h = refl

none_kept : (c : Code) (p : Place) (e : NoteEntry) → kept_flow c e ≡ None → flow_or c p (note_of e) None ≡ None
none_kept c p (Told f flow) h = nothing (is_same_place p f.place) (is_same_code c f.code) (option_map box_value flow) h
none_kept c p (Typed shown q t) h = refl
none_kept c p (Bound q t) h = refl

-- an entry without a flow is left out
pub left_out : (c : Code) (es : List NoteEntry) (e : NoteEntry) (flows : BTreeMap Place (Bor NotedFlow))
    → kept_flow c e ≡ None
    → HasFirstFlows c (notes_of es) flows → HasFirstFlows c (notes_of es ++ note_of e ∷ []) flows
left_out c es e flows n has = record { first = first; given = has.given }
  where
    first : (p : Place) → option_map (λ (f : Bor NotedFlow). flow_types f.now) (get place_cmp flows p) ≡ flow_noted c p
        (notes_of es ++ note_of e ∷ [])
    first p = has.first p ∙ sym (noted_more c p (notes_of es) (note_of e) ∙ ap (or_else (flow_noted c p (notes_of es)))
        (none_kept c p e n) ∙ or_else_none (flow_noted c p (notes_of es)))

-- the first of two values is kept
pub kept_first : {A : Type 0} → (o x : Option A) → is_some o ≡ true → or_else o x ≡ o
kept_first None x h = cc
kept_first (Some a) x h = refl

pub some_mapped : {A B : Type 0} (f : A → B) (o : Option A) → is_some (option_map f o) ≡ is_some o
some_mapped f None = refl
some_mapped f (Some a) = refl

-- at a place that has a flow a later one is left out
pub known_place : (c : Code) (es : List NoteEntry) (e : NoteEntry) (flows : BTreeMap Place (Bor NotedFlow))
    → is_some (get place_cmp flows (entry_place e)) ≡ true → HasFirstFlows c (notes_of es) flows
    → HasFirstFlows c (notes_of es ++ note_of e ∷ []) flows
known_place c es e flows known has = record {
  first = λ p. has.first p
      ∙ sym (noted_more c p (notes_of es) (note_of e) ∙ by p (is_eq (place_cmp (entry_place e) p)) refl);
  given =
      has.given;
}
  where
    by : (p : Place) (b : Bool) → is_eq (place_cmp (entry_place e) p) ≡ b
        → or_else (flow_noted c p (notes_of es)) (flow_or c p (note_of e) None) ≡ flow_noted c p (notes_of es)
    by p true h =
        let same : (entry_place e) ≡ p = place_same (entry_place e) p h in
        let some : is_some (flow_noted c p (notes_of es)) ≡ true = ap is_some (sym (has.first p))
        ∙ some_mapped (λ (f : Bor NotedFlow). flow_types f.now) (get place_cmp flows p)
        ∙ subst (λ q. is_some (get place_cmp flows q) ≡ true) same known in
        kept_first (flow_noted c p (notes_of es)) (flow_or c p (note_of e) None) some
    by p false h = ap (or_else (flow_noted c p (notes_of es))) (other_at c p e h)
        ∙ or_else_none (flow_noted c p (notes_of es))

-- the second of two values stands where there is no first
pub none_first : {A : Type 0} → (o x : Option A) → is_some o ≡ false → or_else o x ≡ x
none_first None x h = refl
none_first (Some a) x h = cc

-- at a place without a flow one is put in
pub new_place : (c : Code) (es : List NoteEntry) (e : NoteEntry) (f : Bor NotedFlow)
    (old new : BTreeMap Place (Bor NotedFlow))
    → kept_flow c e ≡ Some f.now
    → IsGivenFlow f.now → is_some (get place_cmp old (entry_place e)) ≡ false
    → ((q : Place) → get place_cmp new q ≡ cond (is_eq (place_cmp (entry_place e) q)) (Some f) (get place_cmp old q))
    → HasFirstFlows c (notes_of es) old → HasFirstFlows c (notes_of es ++ note_of e ∷ []) new
new_place c es e f old new is is_given fresh step has =
    record {
      first = λ p. ap (option_map (λ (g : Bor NotedFlow). flow_types g.now)) (step p)
          ∙ by p (is_eq (place_cmp (entry_place e) p)) refl ∙ sym (noted_more c p (notes_of es) (note_of e));
      given =
          λ p. subst (λ (o : Option (Bor NotedFlow)). IfSome o (λ g. IsGivenFlow g.now)) (sym (step p))
          (each p (is_eq (place_cmp (entry_place e) p)));
    }
  where
    each : (p : Place) (b : Bool) → IfSome (cond b (Some f) (get place_cmp old p)) (λ g. IsGivenFlow g.now)
    each p true = is_given
    each p false = has.given p

    own_if : (a b : Bool) (o : Option NotedFlow) → a ≡ true → (if b then o else None) ≡ Some f.now
        → (if a && b then or_else (option_map flow_types o) None else None) ≡ Some (flow_types f.now)
    own_if true true None h e = cc
    own_if true true (Some g) h e = let q : g ≡ f.now = cc in ap (λ x. Some (flow_types x)) q
    own_if true false o h e = cc
    own_if false b o h e = cc

    own_of : (x : NoteEntry) → kept_flow c x ≡ Some f.now
        → flow_or c (entry_place x) (note_of x) None ≡ Some (flow_types f.now)
    own_of (Told g flow) h = own_if (is_same_place g.place g.place) (is_same_code c g.code) (option_map box_value flow)
        (self_tested g.place) h
    own_of (Typed shown q t) h = absurd (cc h)
    own_of (Bound q t) h = absurd (cc h)

    own : flow_or c (entry_place e) (note_of e) None ≡ Some (flow_types f.now)
    own = own_of e is

    by : (p : Place) (b : Bool) → is_eq (place_cmp (entry_place e) p) ≡ b
        → option_map (λ (g : Bor NotedFlow). flow_types g.now) (cond b (Some f) (get place_cmp old p))
        ≡ or_else (flow_noted c p (notes_of es)) (flow_or c p (note_of e) None)
    by p true h =
        let same : (entry_place e) ≡ p = place_same (entry_place e) p h in
        let none : is_some (flow_noted c p (notes_of es)) ≡ false = ap is_some (sym (has.first p))
        ∙ some_mapped (λ (g : Bor NotedFlow). flow_types g.now) (get place_cmp old p)
        ∙ subst (λ q. is_some (get place_cmp old q) ≡ false) same fresh in
        sym (none_first (flow_noted c p (notes_of es)) (flow_or c p (note_of e) None) none
        ∙ subst (λ q. flow_or c q (note_of e) None ≡ Some (flow_types f.now)) same own)
    by p false h = has.first p ∙ sym (ap (or_else (flow_noted c p (notes_of es)))
        (other_at c p e h)
        ∙ or_else_none (flow_noted c p (notes_of es)))

-- the same with the place as the program has it
pub known_at : (c : Code) (es : List NoteEntry) (e : NoteEntry) (flows : BTreeMap Place (Bor NotedFlow)) (q : Place)
    → q ≡ entry_place e
    → is_some (get place_cmp flows q) ≡ true → HasFirstFlows c (notes_of es) flows
    → HasFirstFlows c (notes_of es ++ note_of e ∷ []) flows
known_at c es e flows q same known =
    known_place c es e flows (subst (λ x. is_some (get place_cmp flows x) ≡ true) same known)

pub new_at : (c : Code) (es : List NoteEntry) (e : NoteEntry) (f : Bor NotedFlow)
    (old new : BTreeMap Place (Bor NotedFlow)) (q : Place)
    → q ≡ entry_place e → kept_flow c e ≡ Some f.now
    → IsGivenFlow f.now → is_some (get place_cmp old q) ≡ false
    → ((r : Place) → get place_cmp new r ≡ cond (is_eq (place_cmp q r)) (Some f) (get place_cmp old r))
    → HasFirstFlows c (notes_of es) old → HasFirstFlows c (notes_of es ++ note_of e ∷ []) new
new_at c es e f old new q same is is_given fresh step =
    new_place c es e f old new is is_given (subst (λ x. is_some (get place_cmp old x) ≡ false) same fresh)
    (subst (λ x. (r : Place) → get place_cmp new r ≡ cond (is_eq (place_cmp x r)) (Some f) (get place_cmp old r))
    same step)

-- the map has this entry
abbrev pub IsPairOf : BTreeMap Place (Bor NotedFlow) → Place × Bor NotedFlow → Type 0
IsPairOf flows e = get place_cmp flows e.0 ≡ Some e.1

-- with one entry more
pub first_of_more : (c : Code) (es : List NoteEntry) (e : NoteEntry) (flows : BTreeMap Place (Bor NotedFlow))
    (all : List NoteEntry)
    → all ≡ es ++ e ∷ [] → HasFirstFlows c (notes_of es ++ note_of e ∷ []) flows → HasFirstFlows c (notes_of all) flows
first_of_more c es e flows all is has = subst (λ (l : List Note). HasFirstFlows c l flows)
    (sym (ap notes_of is ∙ map-append note_of es (e ∷ []))) has

-- ---- the texts of a map

some_of : (o : Option (Bor NotedFlow)) (f : Bor NotedFlow) → o ≡ Some f → IfSome o (λ g. IsGivenFlow g.now)
    → IsGivenFlow f.now
some_of None f e h = absurd (cc e)
some_of (Some g) f e h = let q : g ≡ f = cc in subst (λ (x : Bor NotedFlow). IsGivenFlow x.now) q h

-- the flow of an entry of a map is of types that a store of boxes may give
pub given_pair : (flows : BTreeMap Place (Bor NotedFlow)) → HasGivenFlows flows → (e : Place × Bor NotedFlow)
    → IsPairOf flows e
    → IsGivenFlow e.1.now
given_pair flows given e is = some_of (get place_cmp flows e.0) e.1 is (given e.0)

-- the types of the flow of an entry are those noted at its place
pub noted_pair : (c : Code) (flows : BTreeMap Place (Bor NotedFlow)) (notes : List Note) → HasFirstFlows c notes flows
    → (e : Place × Bor NotedFlow) → IsPairOf flows e → flow_noted c e.0 notes ≡ Some (flow_types e.1.now)
noted_pair c flows notes has e is = sym (has.first e.0) ∙ ap (option_map (λ (f : Bor NotedFlow). flow_types f.now)) is

-- one text more is that of the flow of its entry
pub text_of_pair : (c : Code) (m : Module) (flows : BTreeMap Place (Bor NotedFlow)) (notes : List Note)
    → HasFirstFlows c notes flows
    → (e : Place × Bor NotedFlow) → IsPairOf flows e
    → (text : FlowText) → text.0 ≡ e.0 → rc_str_bytes text.1 ≡ type_text m (shared_tree e.1.now.from)
    → rc_str_bytes text.2 ≡ type_text m (shared_tree e.1.now.into) → IsFlowText m c notes text
text_of_pair c m flows notes has e is text at from into =
    subst (λ (o : Option (Tree × Tree)). MatchOption o ⊥ (λ f. (rc_str_bytes text.1 ≡ type_text m f.0)
    × (rc_str_bytes text.2 ≡ type_text m f.1)))
    (sym (ap (λ p. flow_noted c p notes) at ∙ noted_pair c flows notes has e is)) (from, into)

-- P holds of each element of a list and one more, if it holds of each element and of the one more
pub all_more : {X : Type 0} (P : X → Type 0) (xs : List X) (x : X) → AllByRecursion P xs → P x
    → AllByRecursion P (xs ++ x ∷ [])
all_more P [] x all one = (one, tt)
all_more P (y ∷ ys) x all one = (all.0, all_more P ys x all.1 one)

-- the places of texts and of one more, before others
pub places_more : (texts : List FlowText) (text : FlowText) (rest : List Place) → places_of (texts ++ text ∷ []) ++ rest
    ≡ places_of texts ++ (text.0 ∷ rest)
places_more [] text rest = refl
places_more (t ∷ ts) text rest = ap (λ (l : List Place). t.0 ∷ l) (places_more ts text rest)

-- each entry of a map is found in it
pub pairs_found : (flows : BTreeMap Place (Bor NotedFlow)) (es : List (Place × Bor NotedFlow)) → All (IsPairOf flows) es
    → AllByRecursion (IsPairOf flows) es
pairs_found flows [] all = tt
pairs_found flows (e ∷ es) all = (
  All-head (IsPairOf flows) e es all,
  pairs_found flows es (All-tail (IsPairOf flows) e es all),
)

here_or_behind : (p k : Place) (v : Bor NotedFlow) (rest : List Place) (b : Bool) → is_eq (place_cmp p k) ≡ b
    → (o : Option (Bor NotedFlow)) → (IsSome o → Contains rest p) → IsSome (cond b (Some v) o) → Contains (k ∷ rest) p
here_or_behind p k v rest true same o later h = (0, omega arith, sym (place_same p k same))
here_or_behind p k v rest false other o later h = let (i, within, is) = later h in (suc i, omega arith, is)

test_places : (p : Place) (es : List (Place × Bor NotedFlow)) → IsSome (lookup (λ k. is_eq (place_cmp p k)) es)
    → Contains (map (λ e. e.0) es) p
test_places p [] h = absurd (cc h)
test_places p (e ∷ es) h = here_or_behind p e.0 e.1 (map (λ x. x.0) es) (is_eq (place_cmp p e.0)) refl
    (lookup (λ k. is_eq (place_cmp p k)) es) (test_places p es) h

some_left : {A B : Type 0} (f : A → B) (o : Option A) → IsSome (option_map f o) → IsSome o
some_left f None h = h
some_left f (Some a) h = refl

-- each place with a flow is one of a map's
pub place_found : (c : Code) (flows : BTreeMap Place (Bor NotedFlow)) (notes : List Note) → HasFirstFlows c notes flows
    → (p : Place)
    → IsSome (flow_noted c p notes) → Contains (map (λ e. e.0) flows.entries) p
place_found c flows notes has p some = test_places p flows.entries
    (some_left (λ (f : Bor NotedFlow). flow_types f.now) (get place_cmp flows p)
    (subst IsSome (sym (has.first p)) some))
