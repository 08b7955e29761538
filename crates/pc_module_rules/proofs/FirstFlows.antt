-- The first flow at a place; notes that hold exactly the flows of a list with a code, at each place the first one
-- there.
use Rattle.std.proofs.Common.{◌≡◌, List, [], ◌∷◌, ◌++◌, Option, Some, None, refl, sym, ap, ◌∙◌, subst, inl, inr, map}
use Rattle.std.proofs.Common.{append_assoc, Contains}
use Rattle.std.specs.Prelude.{Bool as Test, true, false, if◌then◌else◌, unwrap_or}
use Rattle.std.proofs.lemmas.Bool.{false≢true}
use Rattle.pc_source.specs.declared.place.Place.{Place}
use Rattle.pc_tree.specs.declared.code.Code.{Code}
use Rattle.pc_tree.specs.declared.code.Finding.{Finding}
use Rattle.pc_tree.proofs.Among.{none_among, first_among, later_among, among_first}
use Rattle.pc_types.specs.Tree.{Tree}
use Rattle.pc_notes.specs.Notes.{Note, told, typed, named, plain_note, is_same_place, is_finding_at, or_else, flow_or}
use Rattle.pc_notes.specs.Notes.{flow_noted}
use Rattle.pc_module_rules.specs.FirstAt.{first_flow_at}
use Rattle.pc_module_rules.specs.FlowsOfExpressions.{CodedFlow}
use Rattle.pc_module_rules.specs.FlowsOfModules.{IsFirstAt}
use Rattle.pc_module_rules.proofs.Places.{same_place, own_place}

-- two types, if there are any
abbrev pub Pair : Type 0
Pair = Option (Tree × Tree)

-- ---- one, else another

pub or_none : (o : Pair) → or_else o None ≡ o
or_none None = refl
or_none (Some f) = refl

or_assoc : (a b c : Pair) → or_else (or_else a b) c ≡ or_else a (or_else b c)
or_assoc None b c = refl
or_assoc (Some f) b c = refl

both_or : {a a' b b' : Pair} → a ≡ a' → b ≡ b' → or_else a b ≡ or_else a' b'
both_or e f = λ i. or_else (e i) (f i)

pub same_either : (b : Test) (o : Pair) → (if b then o else o) ≡ o
same_either true o = refl
same_either false o = refl

if_or : (b : Test) (o a c : Pair) → (if b then or_else o (or_else a c) else or_else a c)
    ≡ or_else (if b then or_else o a else a) c
if_or true None a c = refl
if_or true (Some f) a c = refl
if_or false o a c = refl

-- ---- the first flow at a place

-- a flow at this place, else what comes after it
abbrev at_or : Place → CodedFlow → (rest : Pair) → Pair
at_or p d rest = if is_same_place p d.place then Some (d.from, d.into) else rest

pub noted_append : (c : Code) (p : Place) (xs ys : List Note)
    → flow_noted c p (xs ++ ys) ≡ or_else (flow_noted c p xs) (flow_noted c p ys)
noted_append c p [] ys = refl
noted_append c p (told f flow ∷ ns) ys = ap (flow_or c p (told f flow)) (noted_append c p ns ys)
    ∙ if_or (is_finding_at c p f) flow (flow_noted c p ns) (flow_noted c p ys)
noted_append c p (typed shown q t ∷ ns) ys = noted_append c p ns ys
noted_append c p (named q d t ∷ ns) ys = noted_append c p ns ys

first_append : (p : Place) (ds es : List CodedFlow) → first_flow_at p (ds ++ es)
    ≡ or_else (first_flow_at p ds) (first_flow_at p es)
first_append p [] es = refl
first_append p (d ∷ ds) es = ap (at_or p d) (first_append p ds es)
    ∙ if_or (is_same_place p d.place) (Some (d.from, d.into)) (first_flow_at p ds) (first_flow_at p es)

-- ---- notes that tell of just these flows

-- at each place notes tell of the first of these flows there as that with a code, and of none where there is none
pub record Tells (code : Code) (notes : List Note) (flows : List CodedFlow) : Type 0 where
  pub is : (p : Place) → flow_noted code p notes ≡ first_flow_at p flows

pub tell_none : {code : Code} → Tells code [] []
tell_none {code} = record { is = λ p. refl }

pub tell_then : {code : Code} (xs ys : List Note) (ds es : List CodedFlow) → Tells code xs ds → Tells code ys es
    → Tells code (xs ++ ys) (ds ++ es)
tell_then {code} xs ys ds es h k =
    record { is = λ p. noted_append code p xs ys ∙ both_or (h.is p) (k.is p) ∙ sym (first_append p ds es) }

-- notes that tell of just these flows, with others after them that tell of none
pub tell_behind : {code : Code} (xs ys : List Note) (ds : List CodedFlow) → Tells code xs ds → Tells code ys []
    → Tells code (xs ++ ys) ds
tell_behind {code} xs ys ds h k =
    record { is = λ p. noted_append code p xs ys ∙ both_or (h.is p) (k.is p) ∙ or_none (first_flow_at p ds) }

pub tell_plain : {code : Code} (fs : List Finding) → Tells code (map plain_note fs) []
tell_plain {code} [] = tell_none
tell_plain {code} (f ∷ fs) = record {
  is = λ p. same_either (is_finding_at code p f) (flow_noted code p (map plain_note fs)) ∙ (tell_plain fs).is p;
}

-- of flows in other brackets
pub tell_grouped : {code : Code} (xs : List Note) (a b c : List CodedFlow) → Tells code xs (a ++ (b ++ c))
    → Tells code xs ((a ++ b) ++ c)
tell_grouped {code} xs a b c h = subst (Tells code xs) (sym (append_assoc a b c)) h

-- ---- more notes

-- more notes tell of just these flows besides
abbrev pub Grows : Code → (found after : List Note) → List CodedFlow → Type 0
Grows code found after flows = (p : Place) → flow_noted code p after ≡ or_else (flow_noted code p found)
    (first_flow_at p flows)

pub grow_none : (code : Code) (found : List Note) → Grows code found found []
grow_none code found = λ p. sym (or_none (flow_noted code p found))

pub grow : (code : Code) (found xs : List Note) (ds : List CodedFlow) → Tells code xs ds
    → Grows code found (found ++ xs) ds
grow code found xs ds h = λ p. noted_append code p found xs ∙ ap (λ (o : Pair). or_else (flow_noted code p found) o)
    (h.is p)

pub grow_then : (code : Code) (f g h : List Note) (ds es : List CodedFlow) → Grows code f g ds → Grows code g h es
    → Grows code f h (ds ++ es)
grow_then code f g h ds es a b = λ p. b p ∙ ap (λ (o : Pair). or_else o (first_flow_at p es)) (a p)
    ∙ or_assoc (flow_noted code p f) (first_flow_at p ds) (first_flow_at p es)
    ∙ sym (ap (λ (o : Pair). or_else (flow_noted code p f) o) (first_append p ds es))

-- with more before
pub grow_behind : (code : Code) (f xs h : List Note) (es : List CodedFlow) → Tells code xs []
    → Grows code (f ++ xs) h es → Grows code f h es
grow_behind code f xs h es a b = grow_then code f (f ++ xs) h [] es (grow code f xs [] a) b

-- with others after them that tell of none
pub grow_after : (code : Code) (found after xs : List Note) (ds : List CodedFlow) → Grows code found after ds
    → Tells code xs [] → Grows code found (after ++ xs) ds
grow_after code found after xs ds h k = λ p. noted_append code p after xs
    ∙ ap (λ (o : Pair). or_else (flow_noted code p after) o) (k.is p) ∙ or_none (flow_noted code p after) ∙ h p

-- notes that tell of just these flows, with more after them
pub tell_grown : (code : Code) (found after : List Note) (ds es : List CodedFlow) → Tells code found ds
    → Grows code found after es
    → Tells code after (ds ++ es)
tell_grown code found after ds es h k = record {
  is = λ p. k p ∙ ap (λ (o : Pair). or_else o (first_flow_at p es)) (h.is p) ∙ sym (first_append p ds es);
}

-- of flows in other brackets
pub grow_grouped : (code : Code) (found after : List Note) (a b c : List CodedFlow)
    → Grows code found after (a ++ (b ++ c))
    → Grows code found after ((a ++ b) ++ c)
grow_grouped code found after a b c h = subst (Grows code found after) (sym (append_assoc a b c)) h

-- ---- the first flow at a place stands after none there

other_place : (p q : Place) → ¬ (q ≡ p) → is_same_place p q ≡ false
other_place p q other = test (is_same_place p q) refl
  where
    test : (b : Test) → is_same_place p q ≡ b → b ≡ false
    test true e = absurd (other (sym (same_place p q e)))
    test false e = refl

module _ (p : Place) (s t : Tree) where
  -- a flow of these types at this place
  abbrev here : CodedFlow
  here = record { place = p; from = s; into = t }

  first_of_order : (before behind : List CodedFlow) → ((d : CodedFlow) → Contains before d → ¬ (d.place ≡ p))
      → first_flow_at p (before ++ (here ∷ behind)) ≡ Some (s, t)
  first_of_order [] behind none = ap (λ (b : Test). if b then Some (s, t) else first_flow_at p
      behind) (own_place p)
  first_of_order (d ∷ ds) behind none =
      let rest = first_flow_at p (ds ++ (here ∷ behind)) in
      ap (λ (b : Test). if b then Some (d.from, d.into) else rest)
      (other_place p d.place (none d (first_among d ds)))
      ∙ first_of_order ds behind (λ e h. none e (later_among d ds e h))

  pub first_is : (flows : List CodedFlow) → IsFirstAt p s t flows → first_flow_at p flows ≡ Some (s, t)
  first_is flows h = ap (first_flow_at p) h.order ∙ first_of_order h.before h.behind h.none_before

  -- the flow at the head, or one after it
  first_or : (d : CodedFlow) (ds : List CodedFlow) (b : Test) → is_same_place p d.place ≡ b
      → (first_flow_at p ds ≡ Some (s, t) → IsFirstAt p s t ds)
      → (if b then Some (d.from, d.into) else first_flow_at p ds) ≡ Some (s, t)
      → IsFirstAt p s t (d ∷ ds)
  first_or d ds true e rest is =
      let types : (d.from, d.into) ≡ (s, t) = ap (λ (o : Pair). unwrap_or o (s, t)) is in
      record {
        before = [];
        behind = ds;
        order = λ i. record { place = sym (same_place p d.place e) i; from = (types i).0; into = (types i).1 } ∷ ds;
        none_before = λ e h. absurd (none_among e h);
      }
  first_or d ds false e rest is =
      let h : IsFirstAt p s t ds = rest is in
      record {
        before = d ∷ h.before;
        behind = h.behind;
        order = ap (λ (l : List CodedFlow). d ∷ l) h.order;
        none_before = λ f k. elim (among_first d h.before f k) [
          | inl same ↦ λ there. false≢true (sym e ∙ subst (λ (q : Place). is_same_place p q ≡ true)
              (sym (ap (λ (x : CodedFlow). x.place) same ∙ there)) (own_place p))
          | inr r ↦ h.none_before f r
        ];
      }

  pub is_first : (flows : List CodedFlow) → first_flow_at p flows ≡ Some (s, t) → IsFirstAt p s t flows
  is_first [] is = absurd (cc is)
  is_first (d ∷ ds) is = first_or d ds (is_same_place p d.place) refl (is_first ds) is
