-- The statements of the laws of calls and their misfits. Own rule of the profile.
use Rattle.std.specs.Prelude.{◌≡◌, ℕ, List, [], flat_map, length, Bool as Test, true, is_some, nat_lt}
use Rattle.pc_tree.specs.declared.code.Code.TheVariants.{E14}
use Rattle.pc_tree.specs.Tree.{Module}
use Rattle.pc_scope.specs.declared.resolution.NameMeaning.{NameMeaning}
use Rattle.pc_scope.specs.declared.resolution.NameMeaning.TheVariants as meaning
use Rattle.pc_scope.specs.Bindings.{classes_in}
use Rattle.pc_types.specs.Tree.{Tree}
use Rattle.pc_types.specs.Shape.{members}
use Rattle.pc_flow.specs.Environment.{Env}
use Rattle.pc_rules.specs.Context.{name_label}
use Rattle.pc_rules.specs.Calls.{GivenArguments, CallOffer, method_offers, name_callee, value_offers}
use Rattle.pc_rules.specs.Computed.Findings.{has_code}
use Rattle.pc_rules.specs.Signatures.{body_context}
use Rattle.pc_detail_rules.specs.Calls.{called_on, value_called, named_callees, misfits_of, first_detail}

-- the law that a method call on one member has E14 at the call exactly if there is a misfit
abbrev pub MethodMisfitsAreExact : Type 0
MethodMisfitsAreExact = (m : Module) (g : GivenArguments) (word : List ℕ) (t : Tree)
    → has_code (flat_map (λ (o : CallOffer). o.at_call) (method_offers (body_context m [] []) g word t)) E14
    ≡ is_some (first_detail (misfits_of g (called_on m word t)))

-- the law that a call of a value has E14 at the call exactly if there is a misfit
abbrev pub ValueMisfitsAreExact : Type 0
ValueMisfitsAreExact = (g : GivenArguments) (t : Tree)
    → has_code (flat_map (λ (o : CallOffer). o.at_call) (value_offers t)) E14
    ≡ is_some (first_detail (misfits_of g (flat_map value_called (members t))))

-- a class that a name means is one of the module's
abbrev pub is_known_class : Module → NameMeaning → Test
is_known_class m (meaning.Class c) = nat_lt c (length (classes_in m.items))
is_known_class m r = true

-- the law that a call of a name in a body has E14 at the call exactly if there is a misfit
abbrev pub NameMisfitsAreExact : Type 0
NameMisfitsAreExact = (m : Module) (constants : List Tree) (names : List (List ℕ)) (env : Env) (g : GivenArguments)
    (r : NameMeaning) → is_known_class m r ≡ true
    → has_code (flat_map (λ (o : CallOffer). o.at_call)
    (name_callee (body_context m constants names) env g r).offers) E14
    ≡ is_some (first_detail (misfits_of g
    (named_callees m g.positional (name_label (body_context m constants names) env r).type r)))
