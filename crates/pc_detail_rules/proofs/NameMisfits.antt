-- A call of a name in a body is an error exactly if there is a misfit.
use Rattle.std.proofs.Common.{◌≡◌, ℕ, zero, suc, List, [], ◌∷◌, ◌++◌, length, drop, Bool as Test, true, false, refl}
use Rattle.std.proofs.Common.{sym, ap, ◌∙◌, arith, le-leb}
use Rattle.std.proofs.Math.Dec.{eqb-suc-zero, eqb-suc-suc, leb-suc-zero, leb-suc-suc}
use Rattle.std.proofs.lemmas.Option.{slice_get-map}
use Rattle.std.specs.Prelude.{not, ◌&&◌, if◌then◌else◌, Option, Some, None, is_some, map, codes, nat_eq, nat_le}
use Rattle.std.specs.Prelude.{slice_get, option_to_list}
use Rattle.std.specs.Option.{option_map}
use Rattle.pc_tree.specs.declared.code.Code.TheVariants.{E14, E27}
use Rattle.pc_tree.specs.Stopping.{has_none}
use Rattle.pc_tree.specs.Tree.{FuncDef, Module}
use Rattle.pc_scope.specs.declared.resolution.Builtin.{Builtin}
use Rattle.pc_scope.specs.declared.resolution.Builtin.TheVariants as builtin
use Rattle.pc_scope.specs.declared.resolution.NameMeaning.TheVariants as meaning
use Rattle.pc_scope.specs.Bindings.{functions_in}
use Rattle.pc_types.specs.Tree.{Tree, Any, Object, Int, Str, NoneType}
use Rattle.pc_types.specs.Shape.{members}
use Rattle.pc_annotations.specs.Text.{class_text}
use Rattle.pc_class.specs.Facts.{TypedParameter, classes_of}
use Rattle.pc_rules.specs.Context.{name_label}
use Rattle.pc_rules.specs.Calls.{GivenArguments, are_filled, is_suited, unnamed_parameter, builtin_signature}
use Rattle.pc_rules.specs.Calls.{class_signature, function_offer, CallRule, own_callee, good_callee, fails_at_call}
use Rattle.pc_rules.specs.Calls.{length_rule, test_rule, is_one, is_two, builtin_callee}
use Rattle.pc_rules.specs.Signatures.{signature_of, signatures_of, body_context}
use Rattle.pc_detail_texts.specs.Details.{Callable, called_function, called_class, called_builtin, Misfit, call}
use Rattle.pc_detail_rules.specs.Calls.{misfit, first_detail, function_callees, builtin_callees, repeated}
use Rattle.pc_detail_rules.specs.CallLaws.{NameMisfitsAreExact}
use Rattle.pc_detail_rules.specs.Written.{annotations_of, field_annotations}
use Rattle.pc_detail_rules.proofs.Misfits.{misfits_exact}
use Rattle.pc_detail_rules.proofs.CallMisfits.{is_wrong, have_misfit, offer_step, one_exact, values_exact}

and_false : (b : Test) → (b && false) ≡ false
and_false true = refl
and_false false = refl

-- arguments by position and by name
abbrev given : ℕ → List (List ℕ) → GivenArguments
given n named = record { positional = n; named = named }

-- ---- built-ins of one, two and any number of parameters

nat_eq_above : (n : ℕ) → nat_eq (suc (suc n)) 1 ≡ false
nat_eq_above n = eqb-suc-suc (suc n) zero ∙ eqb-suc-zero n

nat_le_above : (n : ℕ) → nat_le (suc (suc n)) 1 ≡ false
nat_le_above n = leb-suc-suc (suc n) zero ∙ leb-suc-zero n

both_false : (a b rest more : Test) → a ≡ false → b ≡ false → (a && rest) ≡ (b && more)
both_false a b rest more h k = rw (h, k) refl

-- exactly one argument by position suits one parameter
one_suited : (n : ℕ) (named : List (List ℕ)) (t : Tree)
    → (nat_eq n 1 && has_none named) ≡ is_suited (given n named) (builtin_signature (t ∷ []) Any)
one_suited n (w ∷ ws) t = and_false (nat_eq n 1) ∙ sym (and_false (nat_le n 1))
one_suited zero [] t = refl
one_suited (suc zero) [] t = refl
one_suited (suc (suc n)) [] t = both_false (nat_eq (suc (suc n)) 1) (nat_le (suc (suc n)) 1) true _ (nat_eq_above n)
    (nat_le_above n)

-- exactly two arguments by position suit two parameters
two_suited : (n : ℕ) (named : List (List ℕ)) (s t : Tree)
    → (nat_eq n 2 && has_none named) ≡ is_suited (given n named) (builtin_signature (s ∷ t ∷ []) Any)
two_suited n (w ∷ ws) s t = and_false (nat_eq n 2) ∙ sym (and_false (nat_le n 2))
two_suited zero [] s t = refl
two_suited (suc zero) [] s t = refl
two_suited (suc (suc zero)) [] s t = refl
two_suited (suc (suc (suc n))) [] s t = both_false (nat_eq (suc (suc (suc n))) 2) (nat_le (suc (suc (suc n))) 2) true _
    (eqb-suc-suc (suc (suc n)) 1 ∙ nat_eq_above n) (leb-suc-suc (suc (suc n)) 1 ∙ nat_le_above n)

-- as many parameters as there are arguments by position
abbrev same_number : ℕ → List TypedParameter
same_number n = map unnamed_parameter (repeated n Object)

number_of : (n : ℕ) → length (same_number n) ≡ n
number_of zero = refl
number_of (suc n) = ap suc (number_of n)

none_left : (n : ℕ) → drop n (same_number n) ≡ []
none_left zero = refl
none_left (suc n) = none_left n

any_step : (fits : Test) (before : List (List ℕ)) (left : List TypedParameter) → fits ≡ true → left ≡ []
    → true ≡ (fits && are_filled [] before left)
any_step fits before left h k = rw (h, k) refl

-- any number of arguments by position suits as many parameters
any_suited : (n : ℕ) (named : List (List ℕ))
    → has_none named ≡ is_suited (given n named) (builtin_signature (repeated n Object) Any)
any_suited n (w ∷ ws) = sym (and_false (nat_le n (length (same_number n))))
any_suited n [] = any_step (nat_le n (length (same_number n))) _ (drop n (same_number n))
    (le-leb n (length (same_number n)) (omega (arith, number_of n))) (none_left n)

-- ---- the results of a call of a built-in

-- there is a first detail of a misfit
abbrev is_told : Callable Tree → Option Misfit → Test
is_told what o = is_some (first_detail (option_to_list (option_map (call what) o) ++ []))

own_step : (suited : Test) (o : Option Misfit) (rule : CallRule) (what : Callable Tree) → suited ≡ not (is_some o)
    → is_wrong (if suited then own_callee rule else good_callee (fails_at_call E14 ∷ [])).offers ≡ is_told what o
own_step suited None rule what h = rw h refl
own_step suited (Some x) rule what h = rw h refl

range_step : (suited : Test) (o : Option Misfit) (what : Callable Tree) → suited ≡ not (is_some o)
    → is_wrong ((if suited then fails_at_call E27 else fails_at_call E14) ∷ []) ≡ is_told what o
range_step suited None what h = rw h refl
range_step suited (Some x) what h = rw h refl

builtin_exact : (g : GivenArguments) (b : Builtin)
    → is_wrong (builtin_callee g b).offers ≡ have_misfit g (builtin_callees g.positional b)
builtin_exact g builtin.Print =
    let s = builtin_signature (repeated g.positional Object) Any in
    offer_step (has_none g.named) (misfit g s) NoneType [] (called_builtin (codes "print"))
    (any_suited g.positional g.named ∙ misfits_exact g s)
builtin_exact g builtin.Str =
    let s = builtin_signature (Object ∷ []) Any in
    offer_step (is_one g) (misfit g s) Str [] (called_builtin (codes "str"))
    (one_suited g.positional g.named Object ∙ misfits_exact g s)
builtin_exact g builtin.Len =
    let s = builtin_signature (Object ∷ []) Any in
    own_step (is_one g) (misfit g s) length_rule (called_builtin (codes "len"))
    (one_suited g.positional g.named Object ∙ misfits_exact g s)
builtin_exact g builtin.IsInstance =
    let s = builtin_signature (Object ∷ Object ∷ []) Any in
    own_step (is_two g) (misfit g s) test_rule (called_builtin (codes "isinstance"))
    (two_suited g.positional g.named Object Object ∙ misfits_exact g s)
builtin_exact g builtin.Range =
    let s = builtin_signature (Int ∷ []) Any in
    range_step (is_one g) (misfit g s) (called_builtin (codes "range"))
    (one_suited g.positional g.named Int ∙ misfits_exact g s)
builtin_exact g builtin.Any = refl
builtin_exact g builtin.Annotations = refl
builtin_exact g builtin.Bool = refl
builtin_exact g builtin.Dataclass = refl
builtin_exact g builtin.Dict = refl
builtin_exact g builtin.Int = refl
builtin_exact g builtin.List = refl
builtin_exact g builtin.Object = refl
builtin_exact g builtin.Tuple = refl

-- ---- names

function_exact : (m : Module) (g : GivenArguments) (o : Option FuncDef)
    → is_wrong (function_offer g (option_map (signature_of m) o) ∷ []) ≡ have_misfit g (function_callees m o)
function_exact m g None = refl
function_exact m g (Some f) = one_exact g (signature_of m f) (signature_of m f)
    (called_function (record { class = None; name = f.name.text })) (annotations_of (Some f)) refl

pub name_exact : NameMisfitsAreExact
unfolding signatures_of
name_exact m constants names env g (meaning.Func i) h =
    ap (λ o. is_wrong (function_offer g o ∷ [])) (slice_get-map (signature_of m) (functions_in m.items) i)
    ∙ function_exact m g (slice_get (functions_in m.items) i)
name_exact m constants names env g (meaning.Class c) h =
    let s = class_signature (classes_of m) c in rw h (one_exact g s s (called_class (class_text m c))
    (field_annotations m c s.parameters) refl)
name_exact m constants names env g (meaning.Builtin b) h = builtin_exact g b
name_exact m constants names env g (meaning.Local x) h =
    values_exact g (members (name_label (body_context m constants names) env (meaning.Local x)).type)
name_exact m constants names env g (meaning.Const i) h =
    values_exact g (members (name_label (body_context m constants names) env (meaning.Const i)).type)
name_exact m constants names env g meaning.None h =
    values_exact g (members (name_label (body_context m constants names) env meaning.None).type)
