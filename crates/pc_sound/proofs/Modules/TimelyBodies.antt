-- In bodies nothing is named too early: no label of an expression there has E03, so each test of an instance is timely,
-- where that is asked.
use Rattle.std.proofs.Common.{◌≡◌, ℕ, List, refl, sym, ap, ◌∙◌, subst, arith}
use Rattle.std.specs.Prelude.{Bool as Test, true, false, if◌then◌else◌, nat_lt, Option, Some, None, slice_get}
use Rattle.pc_tree.specs.declared.code.Code.{Code}
use Rattle.pc_tree.specs.declared.code.Code.TheVariants.{E03, E20}
use Rattle.pc_tree.specs.Tree.{Name, Expr, Exprs, Entries, Keywords, name, number, text, truth, nothing, tuple, list}
use Rattle.pc_tree.specs.Tree.{dict, negative, negation, binary, compare, is_none, is_not_none, conjunction}
use Rattle.pc_tree.specs.Tree.{disjunction, attribute, index, call, no_exprs, more_exprs, no_entries, more_entries}
use Rattle.pc_tree.specs.Tree.{no_keywords, more_keywords}
use Rattle.pc_scope.specs.Expressions.{is_instance_test}
use Rattle.pc_scope.specs.declared.resolution.NameMeaning.{NameMeaning}
use Rattle.pc_scope.specs.declared.resolution.NameMeaning.TheVariants as meaning
use Rattle.pc_types.specs.Tree.{Tree}
use Rattle.pc_flow.specs.Environment.{Env, current}
use Rattle.pc_rules.specs.Operations.{in_error}
use Rattle.pc_rules.specs.Context.{Context, local_label, constant_label, name_label, is_early}
use Rattle.pc_rules.specs.Labels.{Labels, whole_label}
use Rattle.pc_rules.specs.Lawful.{Lawful}
use Rattle.pc_rules.proofs.Silent.{silent_punctual, own_silent}
use Rattle.pc_sound.proofs.Regular.RegularParts.{Asked, tests_in_time, classes_below, TestsAsked}
use Rattle.pc_sound.proofs.Regular.RegularLabels.{SecondTimely, TestTimely, Timely, ItemsTimely, EntriesTimely}
use Rattle.pc_sound.proofs.Regular.RegularLabels.{KeywordsTimely}

-- the constants and classes that the names of a body mean are there
pub record NamesTimely (ctx : Context) : Type 0 where
  pub in_body : ctx.in_body ≡ true
  pub constants : (word : List ℕ) (i : ℕ) → ctx.resolve word ≡ meaning.Const i → (t : Tree)
      × (slice_get ctx.constants i ≡ Some t)
  pub classes : (word : List ℕ) (c : ℕ) → ctx.resolve word ≡ meaning.Class c → nat_lt c ctx.known ≡ true

abbrev OnTime : List Code → Type 0
OnTime cs = is_early cs ≡ false

module _ (ctx : Context) (declared : List Tree) where
  -- a label has no E03 but where a name has it
  pub own_timely : (e : Expr) → ((n : Name) → e ≡ name n → (env : Env)
      → OnTime (name_label ctx env (ctx.resolve n.text)).codes) → (env : Env) (want : Option Tree) (m : Labels e)
      → Lawful ctx declared env want e m → is_early (whole_label e m).codes ≡ false
  own_timely (name n) names env want m law = ap (λ x. is_early x.codes) law ∙ names n refl env
  own_timely (number p d) names env want m law = silent_punctual _
      (own_silent ctx declared env want (number p d) refl m law)
  own_timely (text p d) names env want m law = silent_punctual _
      (own_silent ctx declared env want (text p d) refl m law)
  own_timely (truth p b) names env want m law = silent_punctual _
      (own_silent ctx declared env want (truth p b) refl m law)
  own_timely (nothing p) names env want m law = silent_punctual _
      (own_silent ctx declared env want (nothing p) refl m law)
  own_timely (tuple p es) names env want m law = silent_punctual _
      (own_silent ctx declared env want (tuple p es) refl m law)
  own_timely (list p es) names env want m law = silent_punctual _
      (own_silent ctx declared env want (list p es) refl m law)
  own_timely (dict p es) names env want m law = silent_punctual _
      (own_silent ctx declared env want (dict p es) refl m law)
  own_timely (negative p e) names env want m law = silent_punctual _
      (own_silent ctx declared env want (negative p e) refl m law)
  own_timely (negation p e) names env want m law = silent_punctual _
      (own_silent ctx declared env want (negation p e) refl m law)
  own_timely (binary p o l r) names env want m law = silent_punctual _
      (own_silent ctx declared env want (binary p o l r) refl m law)
  own_timely (compare p o l r) names env want m law = silent_punctual _
      (own_silent ctx declared env want (compare p o l r) refl m law)
  own_timely (is_none p e) names env want m law = silent_punctual _
      (own_silent ctx declared env want (is_none p e) refl m law)
  own_timely (is_not_none p e) names env want m law = silent_punctual _
      (own_silent ctx declared env want (is_not_none p e) refl m law)
  own_timely (conjunction p l r) names env want m law = silent_punctual _
      (own_silent ctx declared env want (conjunction p l r) refl m law)
  own_timely (disjunction p l r) names env want m law = silent_punctual _
      (own_silent ctx declared env want (disjunction p l r) refl m law)
  own_timely (attribute p e n) names env want m law = silent_punctual _
      (own_silent ctx declared env want (attribute p e n) refl m law)
  own_timely (index p e i) names env want m law = silent_punctual _
      (own_silent ctx declared env want (index p e i) refl m law)
  own_timely (call p c args kws) names env want m law = silent_punctual _
      (own_silent ctx declared env want (call p c args kws) refl m law)

  module _ (there : NamesTimely ctx) where
    either_error : (x : Test) → x ≡ true → OnTime (if x then in_error E20 else in_error E03).codes
    either_error true e = refl
    either_error false e = absurd (grind (arith, e))

    name_timely : (env : Env) (word : List ℕ) (r : NameMeaning) → ctx.resolve word ≡ r → OnTime (name_label ctx env r).codes
    name_timely env word (meaning.Local x) is = go (current env x)
      where
        go : (o : Option Tree) → OnTime (local_label o).codes
        go None = refl
        go (Some t) = refl
    name_timely env word (meaning.Const i) is = let k = there.constants word i is in
        subst (λ o. OnTime (constant_label o).codes) (sym k.1) refl
    name_timely env word (meaning.Func i) is = either_error ctx.in_body there.in_body
    name_timely env word (meaning.Class c) is = either_error (nat_lt c ctx.known) (there.classes word c is)
    name_timely env word (meaning.Builtin b) is = refl
    name_timely env word meaning.None is = refl

    -- no label has E03
    pub never_early : (env : Env) (want : Option Tree) (e : Expr) (m : Labels e) → Lawful ctx declared env want e m
        → is_early (whole_label e m).codes ≡ false
    never_early env want e m law = own_timely e (λ n is env. name_timely env n.text (ctx.resolve n.text) refl) env want
        m law

  -- each instance test is timely, where that is asked
  module _ (asked : Asked) (there : TestsAsked asked (NamesTimely ctx)) where
    second_timely : NamesTimely ctx → (args : Exprs) → SecondTimely asked ctx declared args
    second_timely names no_exprs = tt
    second_timely names (more_exprs e no_exprs) = tt
    second_timely names (more_exprs e (more_exprs f rest)) = λ env want m law. never_early names env want f m law

    test_timely : (c : Expr) (args : Exprs) (kws : Keywords) → TestTimely asked ctx declared c args kws
    test_timely c args kws = go asked there
      where
        go : (a : Asked) → TestsAsked a (NamesTimely ctx) → TestsAsked a (is_instance_test c args kws ≡ true
            → SecondTimely asked ctx declared args)
        go tests_in_time names = λ is. second_timely names args
        go (classes_below bound) names = tt

    mutual
      pub all_timely : (e : Expr) → Timely asked ctx declared e
      all_timely (name n) = tt
      all_timely (number p d) = tt
      all_timely (text p d) = tt
      all_timely (truth p b) = tt
      all_timely (nothing p) = tt
      all_timely (tuple p es) = items_timely es
      all_timely (list p es) = items_timely es
      all_timely (dict p es) = entries_timely es
      all_timely (negative p e) = all_timely e
      all_timely (negation p e) = all_timely e
      all_timely (binary p o l r) = (all_timely l, all_timely r)
      all_timely (compare p o l r) = (all_timely l, all_timely r)
      all_timely (is_none p e) = all_timely e
      all_timely (is_not_none p e) = all_timely e
      all_timely (conjunction p l r) = (all_timely l, all_timely r)
      all_timely (disjunction p l r) = (all_timely l, all_timely r)
      all_timely (attribute p e n) = all_timely e
      all_timely (index p e i) = (all_timely e, all_timely i)
      all_timely (call p c args kws) =
          (test_timely c args kws, (all_timely c, (items_timely args, keywords_timely kws)))

      items_timely : (es : Exprs) → ItemsTimely asked ctx declared es
      items_timely no_exprs = tt
      items_timely (more_exprs e rest) = (all_timely e, items_timely rest)

      entries_timely : (es : Entries) → EntriesTimely asked ctx declared es
      entries_timely no_entries = tt
      entries_timely (more_entries a b rest) = (all_timely a, (all_timely b, entries_timely rest))

      keywords_timely : (es : Keywords) → KeywordsTimely asked ctx declared es
      keywords_timely no_keywords = tt
      keywords_timely (more_keywords n e rest) = (all_timely e, keywords_timely rest)
