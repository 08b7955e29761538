-- The rule of a call: a test of an instance is recognized by its text, which is reserved, just as by its name's
-- meaning.
use Rattle.std.proofs.Common.{◌≡◌, ℕ, suc, List, [], ◌∷◌, refl, sym, ap, ◌∙◌, arith}
use Rattle.std.specs.Prelude.{true, false, ◌&&◌, if◌then◌else◌, nat_eq, Some, codes, bytes_eq}
use Rattle.std.proofs.lemmas.Bool.{and_parts, false≢true}
use Rattle.std.proofs.lemmas.Bool.Decides.{nat_tests}
use Rattle.std.proofs.lemmas.Slice.Eq.{bytes_eq-Decides}
use Rattle.pc_tree.specs.declared.code.Code.TheVariants.{E14}
use Rattle.pc_tree.specs.Tree.{Expr, Exprs, Keywords, name, no_exprs, more_exprs, no_keywords, more_keywords}
use Rattle.pc_tree.specs.Stopping.{has_none}
use Rattle.pc_scope.specs.declared.resolution.Builtin.TheVariants as builtin
use Rattle.pc_scope.specs.declared.resolution.NameMeaning.TheVariants as meaning
use Rattle.pc_scope.specs.Reserved.{builtin_of}
use Rattle.pc_scope.specs.Expressions.{is_instance_test, are_two}
use Rattle.pc_flow.specs.Environment.{Env}
use Rattle.pc_rules.specs.Operations.{Label}
use Rattle.pc_rules.specs.Context.{Context}
use Rattle.pc_rules.specs.Calls.{arguments_given, count_exprs, is_two, member_rule, test_rule, CalleeLabel, own_callee}
use Rattle.pc_rules.specs.Calls.{good_callee, fails_at_call, name_callee, call_label}
use Rattle.pc_rules.specs.Labels.{Labels}
use Rattle.pc_rules.specs.Lawful.{callee_of, whole_call_label}
use Rattle.pc_types.specs.Tree.{Tree}

-- the name `isinstance` means the built-in
abbrev pub MeansTest : Context → Type 0
MeansTest ctx = ctx.resolve (codes "isinstance") ≡ meaning.Builtin builtin.IsInstance

pub test_reserved : builtin_of (codes "isinstance") ≡ Some builtin.IsInstance
unfolding builtin_of
test_reserved = refl

-- two arguments by position are two, however they are counted
pub two_are_two : (args : Exprs) (kws : Keywords) → is_two (arguments_given args kws) ≡ are_two args kws
two_are_two no_exprs kws = refl
two_are_two (more_exprs a no_exprs) kws = refl
two_are_two (more_exprs a (more_exprs b no_exprs)) no_keywords = refl
two_are_two (more_exprs a (more_exprs b no_exprs)) (more_keywords n c rest) = refl
two_are_two (more_exprs a (more_exprs b (more_exprs c rest))) kws =
    ap (λ x. x && has_none (arguments_given (more_exprs a (more_exprs b (more_exprs c rest))) kws).named)
    (go (count_exprs rest))
  where
    go : (n : ℕ) → nat_eq (suc (suc (suc n))) 2 ≡ false
    go n = grind (arith, nat_tests)

-- a test of an instance has the rule of tests
pub test_callee : (ctx : Context) → MeansTest ctx → (env : Env) (c : Expr) (args : Exprs) (kws : Keywords)
    (m : Labels c) → is_instance_test c args kws ≡ true → callee_of ctx env (arguments_given args kws) c m
    ≡ own_callee test_rule
test_callee ctx means env (name n) args kws m is =
    let parts = and_parts (bytes_eq (codes "isinstance") n.text) (are_two args kws) is in
    ap (name_callee ctx env (arguments_given args kws)) (ap ctx.resolve
    (sym ((bytes_eq-Decides (codes "isinstance") n.text).0 parts.0)) ∙ means)
    ∙ ap (λ x. if x then own_callee test_rule else good_callee (fails_at_call E14 ∷ []))
    (two_are_two args kws ∙ parts.1)
test_callee ctx means env _ args kws m is = absurd (false≢true is)

-- the label of a call by the members of what is called
pub ordinary_label : (ctx : Context) (env : Env) (callee : CalleeLabel) (args : Exprs) (types : List Tree)
    (here : Label) → callee.rule ≡ member_rule → here ≡ whole_call_label ctx env callee.rule callee.offers args types
    → here ≡ call_label ctx.bases callee.offers
ordinary_label ctx env callee args types here is law = law ∙ ap (λ r. whole_call_label ctx env r callee.offers args
    types) is
