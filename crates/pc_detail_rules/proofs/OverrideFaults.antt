-- A method is good against one above, or static to it, exactly if no part differs.
use Rattle.std.proofs.Common.{◌≡◌, ℕ, suc, List, [], ◌∷◌, length, Bool, true, false, refl, sym, ap, ◌∙◌}
use Rattle.std.proofs.Math.Dec.{eqb-suc-zero, eqb-zero-suc, eqb-suc-suc}
use Rattle.std.specs.Prelude.{not, ◌&&◌, ◌||◌, if◌then◌else◌, Option, Some, None, is_none, nat_eq, bytes_eq}
use Rattle.std.specs.List.{list_all}
use Rattle.std.specs.Option.{option_map}
use Rattle.pc_tree.specs.declared.code.Code.{Code}
use Rattle.pc_tree.specs.declared.code.Code.TheVariants.{A8, E11}
use Rattle.pc_tree.specs.Tree.{Module}
use Rattle.pc_types.specs.Tree.{Tree}
use Rattle.pc_types.specs.Computed.{static_test, assignable_test}
use Rattle.pc_annotations.specs.Bases.{bases_of}
use Rattle.pc_class.specs.Facts.{TypedParameter, Method}
use Rattle.pc_class.specs.Overrides.{TypeFlow, has_shape_of, parameter_flows, override_flows}
use Rattle.pc_class.specs.OverrideFindings.{is_good_to, is_static_to}
use Rattle.pc_detail_texts.specs.Details.{OverrideFault, other_count, other_name, no_default, other_parameter}
use Rattle.pc_detail_texts.specs.Details.{other_return, Detail, override}
use Rattle.pc_detail_rules.specs.Operations.{method_name}
use Rattle.pc_detail_rules.specs.Overrides.{fault_or, shape_fault, parameter_fault, return_fault, fault_against}
use Rattle.pc_detail_rules.specs.Overrides.{against, detail_or, first_against, OverrideFaultsAreExact, OverridesAreExplained}

-- ---- the shape

shape_step : (same above here rest long short : Bool) (o : Option (OverrideFault Tree)) (x y : OverrideFault Tree)
    → long ≡ short → rest ≡ (short && is_none o)
    → (same && ((not above || here) && rest))
    ≡ (long && is_none (if not same then Some x else (if above && not here then Some y else o)))
shape_step false above here rest true short o x y e h = refl
shape_step false above here rest false short o x y e h = refl
shape_step true true true rest long short o x y e h = h ∙ ap (λ (b : Bool). b && is_none o) (sym e)
shape_step true true false rest true short o x y e h = refl
shape_step true true false rest false short o x y e h = refl
shape_step true false here rest long short o x y e h = h ∙ ap (λ (b : Bool). b && is_none o) (sym e)

-- the shapes agree exactly if there are as many parameters, and none differs by name or default
shape_exact : (k : ℕ) (above here : List TypedParameter)
    → has_shape_of above here ≡ (nat_eq (length above) (length here) && is_none (shape_fault k above here))
shape_exact k [] [] = refl
shape_exact k [] (q ∷ qs) = ap (λ (b : Bool). b && true) (sym (eqb-zero-suc (length qs)))
shape_exact k (p ∷ ps) [] = ap (λ (b : Bool). b && true) (sym (eqb-suc-zero (length ps)))
shape_exact k (p ∷ ps) (q ∷ qs) = shape_step (bytes_eq p.name q.name) p.has_default q.has_default
    (has_shape_of ps qs) (nat_eq (suc (length ps)) (suc (length qs))) (nat_eq (length ps) (length qs))
    (shape_fault (suc k) ps qs) (other_name k p.name q.name) (no_default p.name)
    (eqb-suc-suc (length ps) (length qs)) (shape_exact (suc k) ps qs)

-- ---- the types

flow_step : (fits all : Bool) (o : Option (OverrideFault Tree)) (x : OverrideFault Tree) → all ≡ is_none o
    → (fits && all) ≡ is_none (if fits then o else Some x)
flow_step true all o x h = h
flow_step false all o x h = refl

-- the parameters fit exactly if none differs by its type
parameters_exact : (fits : Tree → Tree → Bool) (above here : List TypedParameter)
    → list_all (λ (f : TypeFlow). fits f.from f.into) (parameter_flows above here)
    ≡ is_none (parameter_fault fits above here)
parameters_exact fits [] [] = refl
parameters_exact fits [] (q ∷ qs) = refl
parameters_exact fits (p ∷ ps) [] = refl
parameters_exact fits (p ∷ ps) (q ∷ qs) = flow_step (fits p.type q.type)
    (list_all (λ (f : TypeFlow). fits f.from f.into) (parameter_flows ps qs)) (parameter_fault fits ps qs)
    (other_parameter q.name p.type q.type) (parameters_exact fits ps qs)

return_step : (fits : Bool) (x : OverrideFault Tree) → fits ≡ is_none (if fits then None else Some x)
return_step true x = refl
return_step false x = refl

-- ---- all parts

parts_step : (count shape returns parameters : Bool) (s r p : Option (OverrideFault Tree)) (x : OverrideFault Tree)
    → shape ≡ (count && is_none s) → returns ≡ is_none r → parameters ≡ is_none p
    → (shape && (returns && parameters))
    ≡ is_none (if not count then Some x else fault_or s (fault_or r p))
parts_step false shape returns parameters s r p x h i j = rw h refl
parts_step true shape returns parameters (Some y) r p x h i j = rw h refl
parts_step true shape returns parameters None (Some y) p x h i j = rw (h, i) refl
parts_step true shape returns parameters None None p x h i j = rw (h, i) j

-- a method fits one above exactly if no part differs, whatever it means that types fit
fits_exact : (fits : Tree → Tree → Bool) (above here : Method)
    → (has_shape_of above.parameters here.parameters
    && list_all (λ (f : TypeFlow). fits f.from f.into) (override_flows above here))
    ≡ is_none (fault_against fits above here)
fits_exact fits above here =
    let ps = above.parameters in
    let qs = here.parameters in
    let different = other_return above.returns here.returns in
    parts_step (nat_eq (length ps) (length qs)) (has_shape_of ps qs) (fits here.returns above.returns)
    (list_all (λ (f : TypeFlow). fits f.from f.into) (parameter_flows ps qs)) (shape_fault 1 ps qs)
    (return_fault fits above.returns here.returns) (parameter_fault fits ps qs) (other_count (length ps) (length qs))
    (shape_exact 1 ps qs) (return_step (fits here.returns above.returns) different) (parameters_exact fits ps qs)

pub override_faults_exact : OverrideFaultsAreExact
override_faults_exact = record {
  good = λ bases above here. fits_exact (assignable_test bases) above here;
  static = λ bases above here. fits_exact (static_test bases) above here;
}

-- ---- all methods above

none_mapped : {A B : Type 0} (f : A → B) (o : Option A) → is_none o ≡ is_none (option_map f o)
none_mapped f None = refl
none_mapped f (Some x) = refl

above_step : (first rest : Bool) (a b : Option (Detail Tree)) → first ≡ is_none a → rest ≡ is_none b
    → (first && rest) ≡ is_none (detail_or a b)
above_step first rest None b h k = rw h k
above_step first rest (Some d) b h k = rw h refl

-- a method fits all above exactly if there is no detail against one of them
all_exact : (m : Module) (code : Code) (fits : Method → Bool) (here : Method) (above : List Method)
    → ((f : Method) → fits f ≡ is_none (against m code here f))
    → list_all fits above ≡ is_none (first_against m code here above)
all_exact m code fits here [] one = refl
all_exact m code fits here (f ∷ fs) one = above_step (fits f) (list_all fits fs) (against m code here f)
    (first_against m code here fs) (one f) (all_exact m code fits here fs one)

pub overrides_explained : OverridesAreExplained
overrides_explained = record {
  good = λ m here above. all_exact m E11 (is_good_to (bases_of m) here) here above
      (λ f. fits_exact (assignable_test (bases_of m)) f here
      ∙ none_mapped (override (method_name m f) f.place)
      (fault_against (assignable_test (bases_of m)) f here));
  static = λ m here above. all_exact m A8 (is_static_to (bases_of m) here) here above
      (λ f. fits_exact (static_test (bases_of m)) f here
      ∙ none_mapped (override (method_name m f) f.place)
      (fault_against (static_test (bases_of m)) f here));
}
