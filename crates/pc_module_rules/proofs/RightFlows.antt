-- The flows that are computed of a module are found, and the other way round; the tests give their codes, and they are
-- of
-- well-formed types.
use Rattle.std.proofs.Common.{◌≡◌, Bool as Test, true, false, List, [], ◌∷◌, Option, Some, None, refl, sym, ap, ◌∙◌}
use Rattle.std.proofs.Common.{subst, inl, inr, Contains, ◌↔◌}
use Rattle.std.specs.Prelude.{◌&&◌, if◌then◌else◌, IsSome}
use Rattle.std.proofs.lemmas.Bool.{false≢true}
use Rattle.std.proofs.lemmas.List.Elements.{Contains-append_right}
use Rattle.pc_source.specs.declared.place.Place.{Place}
use Rattle.pc_tree.specs.declared.code.Code.{Code}
use Rattle.pc_tree.specs.declared.code.Code.TheVariants.{A1, E12}
use Rattle.pc_tree.specs.declared.code.Finding.{Finding}
use Rattle.pc_tree.specs.Code.{finding}
use Rattle.pc_tree.specs.Tree.{Module}
use Rattle.pc_scope_findings.specs.Findings.{IsScopeCode, IsUnknown, in_constant, in_body, decorator, ScopeFinds}
use Rattle.pc_scope_findings.specs.Findings.{stopping, unknown, early, unreachable}
use Rattle.pc_tree.proofs.Among.{none_among, first_among, later_among, among_first}
use Rattle.pc_types.specs.Tree.{Tree}
use Rattle.pc_types.specs.Assignable.{Assignable}
use Rattle.pc_types.specs.Below.{Bases, Static}
use Rattle.pc_types.specs.Computed.{static_test, assignable_test}
use Rattle.pc_types.specs.WellFormed.{IsWellFormed}
use Rattle.pc_types.proofs.DecidedSubtyping.{static_decided, assignable_decided}
use Rattle.pc_annotations.proofs.Earlier.{smaller}
use Rattle.pc_class.specs.Bases.{bases_of}
use Rattle.pc_class.specs.Facts.{Method}
use Rattle.pc_class.specs.Findings.{ClassFinds, base, member, order, override}
use Rattle.pc_class.specs.Overrides.{Judges, static, dynamic, wrong}
use Rattle.pc_notes.specs.Notes.{Note, told, typed, named, finding_in, findings_of, is_same_place, is_same_code}
use Rattle.pc_notes.specs.Notes.{is_finding_at}
use Rattle.pc_notes.specs.Notes.{or_else}
use Rattle.pc_notes.specs.Notes.{flow_noted}
use Rattle.pc_notes.proofs.SameCode.{text_one, text_same}
use Rattle.pc_rules.specs.Computed.Expressions.{code_by}
use Rattle.pc_module_rules.proofs.Places.{same_place, own_place}
use Rattle.pc_module_rules.proofs.PlainCodes.{tells_flow, IsPlain, IsPlainIfAny}
use Rattle.pc_module_rules.proofs.RightNotes.{IsTestedFlow, IsFormedFlow, AreRight}
use Rattle.pc_module_rules.specs.Computed.Modules.{module_finds}
use Rattle.pc_module_rules.specs.Computed.DynamicFlows.{computed_flow}
use Rattle.pc_module_rules.specs.Modules.{IsFinding}
use Rattle.pc_module_rules.proofs.RightModules.{right_module}
use Rattle.pc_module_rules.proofs.RightSignatures.{annotations_plain}
use Rattle.pc_module_rules.proofs.WalkedModule.{findings_computed}

-- ---- findings of scopes and of classes

of_code : (f : Finding) (p : Place) (c : Code) → f ≡ finding p c → IsPlain c → IsPlain f.code
of_code f p c e h = subst (λ (g : Finding). IsPlain g.code) (sym e) h

scope_code : (c : Code) → IsScopeCode c → IsPlain c
scope_code A1 h = absurd h
scope_code E12 h = absurd h
scope_code _ h = refl

unknown_plain : (m : Module) (f : Finding) → IsUnknown m f → IsPlain f.code
unknown_plain m f (in_constant c i h) = of_code f _ _ h.is refl
unknown_plain m f (in_body b e i j h) = of_code f _ _ h.is refl
unknown_plain m f (decorator c i j e) = of_code f _ _ e refl

scope_plain : (m : Module) (f : Finding) → ScopeFinds m f → IsPlain f.code
scope_plain m f (stopping c s) = scope_code f.code c
scope_plain m f (unknown h) = unknown_plain m f h
scope_plain m f (early h) = elim h.found [ inl n ↦ of_code f _ _ n.is refl | inr c ↦ of_code f _ _ c.is refl ]
scope_plain m f (unreachable h) = of_code f _ _ h.is refl

judged_plain : {bases : Bases} {olds : List Method} {new : Method} {o : Option Code} → Judges bases olds new o
    → IsPlainIfAny o
judged_plain (static a) = tt
judged_plain (dynamic a b) = refl
judged_plain (wrong a) = refl

class_plain : (m : Module) (f : Finding) → ClassFinds m f → IsPlain f.code
class_plain m f (base c class n h) = of_code f _ _ h.is refl
class_plain m f (member h) = subst IsPlain (sym h.code) refl
class_plain m f (order c class n h) = of_code f _ _ h.is refl
class_plain m f (override c class n h) = of_code f _ _ h.is (judged_plain h.judged)

-- ---- the first flow that is noted with a code at a place

both_true : (a b : Test) → (a && b) ≡ true → (a ≡ true) × (b ≡ true)
both_true true b h = (refl, h)
both_true false b h = absurd (cc h)

true_both : (a b : Test) → a ≡ true → b ≡ true → (a && b) ≡ true
true_both true b h k = k
true_both false b h k = absurd (cc h)

module _ (bases : Bases) (c : Code) (p : Place) where
  -- a finding with the code and the place, by the test
  finding_tested : (g : Finding) → is_finding_at c p g ≡ true → g ≡ finding p c
  finding_tested g e =
      let both = both_true (is_same_place p g.place) (is_same_code c g.code) e in
      let place : p ≡ g.place = same_place p g.place both.0 in
      let code : c ≡ g.code = text_one c g.code both.1 in
      λ i. record { place = sym place i; code = sym code i }

  tested_finding : (g : Finding) → g ≡ finding p c → is_finding_at c p g ≡ true
  tested_finding g e = subst (λ (f : Finding). is_finding_at c p f ≡ true) (sym e)
      (true_both (is_same_place p p) (is_same_code c c) (own_place p) (text_same c c refl))

  -- it is found there, the tests give its code, and its types are well-formed
  record Told (notes : List Note) (f : Tree × Tree) : Type 0 where
    stands : Contains (findings_of notes) (finding p c)
    tested : code_by (static_test bases f.0 f.1) (assignable_test bases f.0 f.1) ≡ Some c
    from : IsWellFormed bases f.0
    into : IsWellFormed bases f.1

  abbrev ToldIfAny : List Note → Option (Tree × Tree) → Type 0
  ToldIfAny notes None = Unit {0}
  ToldIfAny notes (Some f) = Told notes f

  told_behind : (n : Note) (ns : List Note) (rest : Option (Tree × Tree)) → ToldIfAny ns rest → ToldIfAny (n ∷ ns) rest
  told_behind n ns None h = tt
  told_behind n ns (Some f) h = record {
    stands = Contains-append_right (finding_in n) (findings_of ns) (finding p c) h.stands;
    tested = h.tested;
    from = h.from;
    into = h.into;
  }

  module _ (g : Finding) (flow : Option (Tree × Tree)) (ns : List Note) where
    told_one : (b : Test) → is_finding_at c p g ≡ b → (o : Option (Tree × Tree))
        → IsTestedFlow bases g.code o → IsFormedFlow bases o → (rest : Option (Tree × Tree)) → ToldIfAny ns rest
        → ToldIfAny (told g flow ∷ ns) (if b then or_else o rest else rest)
    told_one true e (Some f) t k rest h =
        let is : g ≡ finding p c = finding_tested g e in
        record {
          stands = subst (Contains (findings_of (told g flow ∷ ns))) is (first_among g (findings_of ns));
          tested = t ∙ ap (λ (x : Finding). Some x.code) is;
          from = k.0;
          into = k.1;
        }
    told_one true e None t k rest h = told_behind (told g flow) ns rest h
    told_one false e o t k rest h = told_behind (told g flow) ns rest h

  flow_told : (notes : List Note) → AreRight bases notes → ToldIfAny notes (flow_noted c p notes)
  flow_told [] h = tt
  flow_told (told f flow ∷ ns) h = told_one f flow ns (is_finding_at c p f) refl flow h.0.tested h.0.formed
      (flow_noted c p ns) (flow_told ns h.1)
  flow_told (typed shown q t ∷ ns) h = told_behind (typed shown q t) ns (flow_noted c p ns) (flow_told ns h.1)
  flow_told (named q d t ∷ ns) h = told_behind (named q d t) ns (flow_noted c p ns) (flow_told ns h.1)

  stands_of : (notes : List Note) (o : Option (Tree × Tree)) → ToldIfAny notes o → IsSome o
      → Contains (findings_of notes) (finding p c)
  stands_of notes None h some = absurd (cc some)
  stands_of notes (Some f) h some = h.stands

  -- a flow after a note, and one that the note tells of
  some_behind : (b : Test) (o rest : Option (Tree × Tree)) → IsSome rest → IsSome (if b then or_else o rest else rest)
  some_behind true (Some f) rest h = refl
  some_behind true None rest h = h
  some_behind false o rest h = h

  module _ (of_flows : tells_flow c ≡ true) where
    some_here : (b : Test) → b ≡ true → (d : Code) → d ≡ c → (o : Option (Tree × Tree)) → IsTestedFlow bases d o
        → (rest : Option (Tree × Tree)) → IsSome (if b then or_else o rest else rest)
    some_here true e d a (Some f) t rest = refl
    some_here true e d a None t rest = absurd (false≢true (sym (subst IsPlain a t) ∙ of_flows))
    some_here false e d a o t rest = absurd (cc e)

    noted : (notes : List Note) → AreRight bases notes → Contains (findings_of notes) (finding p c)
        → IsSome (flow_noted c p notes)
    noted [] h k = absurd (none_among (finding p c) k)
    noted (told g flow ∷ ns) h k = elim (among_first g (findings_of ns) (finding p c) k) [
      | inl e ↦ some_here (is_finding_at c p g) (tested_finding g e) g.code (ap (λ (f : Finding). f.code) e) flow
          h.0.tested (flow_noted c p ns)
      | inr r ↦ some_behind (is_finding_at c p g) flow (flow_noted c p ns) (noted ns h.1 r)
    ]
    noted (typed shown q t ∷ ns) h k = noted ns h.1 k
    noted (named q d t ∷ ns) h k = noted ns h.1 k

-- ---- the flow that is computed at a place

all_right : (m : Module) → AreRight (bases_of m) (module_finds m [])
all_right m = right_module m [] tt

module _ (c : Code) (m : Module) (p : Place) where
  none_plain : {X : Type 0} → tells_flow c ≡ true → IsPlain c → X
  none_plain of_flows plain = absurd (false≢true (sym plain ∙ of_flows))

  pub flow_found : tells_flow c ≡ true → IsFinding m (finding p c) ↔ IsSome (computed_flow c m p)
  flow_found of_flows = (to, from)
    where
      to : IsFinding m (finding p c) → IsSome (computed_flow c m p)
      to h = elim ((findings_computed m (finding p c)).0 h) [
        | inl s ↦ none_plain of_flows (scope_plain m (finding p c) s)
        | inr r ↦ elim r [
          | inl k ↦ none_plain of_flows (class_plain m (finding p c) k)
          | inr x ↦ elim x [
            | inl a ↦ none_plain of_flows (annotations_plain m (finding p c) a)
            | inr n ↦ noted (bases_of m) c p of_flows (module_finds m []) (all_right m) n
          ]
        ]
      ]

      from : IsSome (computed_flow c m p) → IsFinding m (finding p c)
      from some = (findings_computed m (finding p c)).1
          (inr (inr (inr (stands_of (bases_of m) c p (module_finds m []) (computed_flow c m p)
          (flow_told (bases_of m) c p (module_finds m []) (all_right m)) some))))

  told_of : (s t : Tree) → computed_flow c m p ≡ Some (s, t) → Told (bases_of m) c p (module_finds m []) (s, t)
  told_of s t e = subst (ToldIfAny (bases_of m) c p (module_finds m [])) e
      (flow_told (bases_of m) c p (module_finds m []) (all_right m))

  pub flow_well_formed : (s t : Tree) → computed_flow c m p ≡ Some (s, t)
      → IsWellFormed (bases_of m) s × IsWellFormed (bases_of m) t
  flow_well_formed s t e = let h = told_of s t e in (h.from, h.into)

  -- ---- by its code

  dynamic_by : (a b : Test) → code_by a b ≡ Some A1 → (a ≡ false) × (b ≡ true)
  dynamic_by true b e = absurd (cc e)
  dynamic_by false true e = (refl, refl)
  dynamic_by false false e = absurd (cc e)

  wrong_by : (a b : Test) → code_by a b ≡ Some E12 → b ≡ false
  wrong_by true b e = absurd (cc e)
  wrong_by false true e = absurd (cc e)
  wrong_by false false e = refl

  pub flow_dynamic : (s t : Tree) → c ≡ A1 → computed_flow c m p ≡ Some (s, t) → Assignable (bases_of m) s t
      × ¬ (Static (bases_of m) s t)
  flow_dynamic s t a e =
      let h = told_of s t e in
      let by = dynamic_by (static_test (bases_of m) s t) (assignable_test (bases_of m) s t) (h.tested ∙ ap Some a) in (
        (assignable_decided (bases_of m) s t (smaller m) h.from.0 h.into.0).0 by.1,
        λ q. false≢true (sym by.0 ∙ (static_decided (bases_of m) s t (smaller m) h.from.0 h.into.0).1 q),
      )

  pub flow_wrong : (s t : Tree) → c ≡ E12 → computed_flow c m p ≡ Some (s, t) → ¬ (Assignable (bases_of m) s t)
  flow_wrong s t a e = λ q.
      let h = told_of s t e in
      let by = wrong_by (static_test (bases_of m) s t) (assignable_test (bases_of m) s t) (h.tested ∙ ap Some a) in
      false≢true (sym by ∙ (assignable_decided (bases_of m) s t (smaller m) h.from.0 h.into.0).1 q)
