-- Where E14 is found there is a misfit, if at each place there is at most one expression.
use Rattle.std.proofs.Common.{◌≡◌, ℕ, List, [], ◌∷◌, ◌++◌, refl, sym, ap, ◌∙◌, subst, inl, inr}
use Rattle.std.proofs.lemmas.Option.{none-some, same_Some}
use Rattle.std.specs.Option.{option_map}
use Rattle.std.specs.Prelude.{option_to_list, Option, Some, None}
use Rattle.pc_source.specs.declared.place.Place.{Place}
use Rattle.pc_tree.specs.declared.code.Code.{Code}
use Rattle.pc_tree.specs.declared.code.Code.TheVariants.{A8, E03, E11, E14}
use Rattle.pc_tree.specs.declared.code.Finding.{Finding}
use Rattle.pc_tree.specs.Code.{finding}
use Rattle.pc_tree.specs.Tree.{Expr, call, Module}
use Rattle.pc_scope.specs.declared.resolution.NameMeaning.{NameMeaning}
use Rattle.pc_scope.specs.Resolution.{resolve}
use Rattle.pc_scope_findings.specs.Findings.{IsUnknown, in_constant, in_body, decorator, ScopeFinds, stopping, unknown}
use Rattle.pc_scope_findings.specs.Findings.{early, unreachable}
use Rattle.pc_types.specs.Tree.{Tree}
use Rattle.pc_types.specs.Below.{Bases}
use Rattle.pc_class.specs.Facts.{Method}
use Rattle.pc_class.specs.Findings.{ClassFinds, base, member, order, override}
use Rattle.pc_class.specs.Overrides.{Judges, static, dynamic, wrong}
use Rattle.pc_module_rules.specs.Modules.{Labelling, IsLawful}
use Rattle.pc_module_rules.proofs.OneModule.{one_labelling}
use Rattle.pc_detail_texts.specs.Details as detail
use Rattle.pc_detail_texts.specs.Details.{Detail, Callable, Misfit}
use Rattle.pc_rules.specs.Calls.{GivenArguments, arguments_given}
use Rattle.pc_detail_rules.specs.Calls.{Called, called_misfit, misfits_of, first_detail, callees_of, call_detail}
use Rattle.pc_detail_rules.specs.Explains.{detail_under}
use Rattle.pc_detail_rules.specs.Facts.{Known, known_under}
use Rattle.pc_detail_rules.specs.Laws.{HasDetail, WrongCallsHaveMisfits}
use Rattle.pc_detail_rules.specs.Names.{first_of_all}
use Rattle.pc_detail_rules.specs.Nodes.{OwnedExpr, exprs_at}
use Rattle.pc_detail_rules.specs.Overrides.{detail_or}
use Rattle.pc_detail_rules.proofs.Explained.Lists.{found}
use Rattle.pc_detail_rules.proofs.Explained.Modules.{labels_told}
use Rattle.pc_detail_rules.proofs.Explained.Told.{IsTold}

-- a detail under one lawful labelling is that of each, since there is one
pub explained : (m : Module) (f : Finding) (labels : Labelling m) → IsLawful m labels
    → IsTold m (known_under m labels) f.place f.code → HasDetail m f
explained m f labels lawful told =
    let there = found (detail_under m labels f) told in
    record {
      detail = there.value;
      explains = λ others l.
          subst (λ (k : Labelling m). detail_under m k f ≡ Some there.value) (one_labelling m labels others lawful l) there.is;
    }

-- ---- findings of scopes and of classes have other codes

unknown_other : (m : Module) (p : Place) → IsUnknown m (finding p E14) → ⊥
unknown_other m p (in_constant c i h) = cc (ap (λ (g : Finding). g.code) h.is)
unknown_other m p (in_body b e i j h) = cc (ap (λ (g : Finding). g.code) h.is)
unknown_other m p (decorator c i j e) = cc (ap (λ (g : Finding). g.code) e)

scope_other : (m : Module) (p : Place) → ScopeFinds m (finding p E14) → ⊥
scope_other m p (stopping c s) = c
scope_other m p (unknown h) = unknown_other m p h
scope_other m p (early h) = elim h.found [
  | inl n ↦ other (ap (λ (g : Finding). g.code) n.is)
  | inr c ↦ other (ap (λ (g : Finding). g.code) c.is)
]
  where
    other : E14 ≡ E03 → ⊥
    other e = cc e
scope_other m p (unreachable h) = cc (ap (λ (g : Finding). g.code) h.is)

judged_other : {bases : Bases} {olds : List Method} {new : Method} {o : Option Code} → Judges bases olds new o
    → o ≡ Some E14 → ⊥
judged_other (static a) e = none-some E14 e
judged_other (dynamic a b) e = other (same_Some A8 E14 e)
  where
    other : A8 ≡ E14 → ⊥
    other k = cc k
judged_other (wrong a) e = other (same_Some E11 E14 e)
  where
    other : E11 ≡ E14 → ⊥
    other k = cc k

class_other : (m : Module) (p : Place) → ClassFinds m (finding p E14) → ⊥
class_other m p (base c class n h) = cc (ap (λ (g : Finding). g.code) h.is)
class_other m p (member h) = cc h.code
class_other m p (order c class n h) = cc (ap (λ (g : Finding). g.code) h.is)
class_other m p (override c class n h) = judged_other h.judged (ap Some (sym (ap (λ (g : Finding). g.code) h.is)))

-- ---- a detail of E14 is that of a misfit

-- a detail is that of a call that does not suit
record IsMisfit (d : Detail Tree) : Type 0 where
  what : Callable Tree
  misfit : Misfit
  is : d ≡ detail.call what misfit

module _ (d : Detail Tree) where
  listed_misfit : (c : Called) (o : Option Misfit) (rest : List (Detail Tree))
      → first_detail (option_to_list (option_map (detail.call c.what) o) ++ rest) ≡ Some d
      → (first_detail rest ≡ Some d → IsMisfit d) → IsMisfit d
  listed_misfit c None rest e next = next e
  listed_misfit c (Some x) rest e next = record {
    what = c.what;
    misfit = x;
    is = sym (same_Some (detail.call c.what x) d e);
  }

  called_misfits : (g : GivenArguments) (cs : List Called) → first_detail (misfits_of g cs) ≡ Some d → IsMisfit d
  called_misfits g [] e = absurd (none-some d e)
  called_misfits g (c ∷ cs) e = listed_misfit c (called_misfit g c) (misfits_of g cs) e (λ k. called_misfits g cs k)

  call_misfit : (m : Module) (known : Known) (names : List ℕ → NameMeaning) (e : Expr)
      → call_detail m known names e ≡ Some d → IsMisfit d
  call_misfit m known names (call p callee args kws) e =
      let g = arguments_given args kws in called_misfits g (callees_of m known names g.positional callee) e
  call_misfit m known names x e = absurd (none-some d e)

  one_misfit : (a b : Option (Detail Tree)) → detail_or a b ≡ Some d → (a ≡ Some d → IsMisfit d)
      → (b ≡ Some d → IsMisfit d) → IsMisfit d
  one_misfit None b e h k = k e
  one_misfit (Some x) b e h k = h e

  first_misfit : (m : Module) (known : Known) (os : List OwnedExpr)
      → first_of_all (λ (o : OwnedExpr). call_detail m known (resolve m o.owner) o.expr) os ≡ Some d → IsMisfit d
  first_misfit m known [] e = absurd (none-some d e)
  first_misfit m known (o ∷ os) e = one_misfit (call_detail m known (resolve m o.owner) o.expr)
      (first_of_all (λ (x : OwnedExpr). call_detail m known (resolve m x.owner) x.expr) os) e
      (λ k. call_misfit m known (resolve m o.owner) o.expr k) (λ k. first_misfit m known os k)

-- ---- the law

pub wrong_calls : WrongCallsHaveMisfits
wrong_calls m p own h =
    let known = known_under m h.labels in
    let told : IsTold m known p E14 = elim h.found [
      | inl s ↦ absurd (scope_other m p s)
      | inr x ↦ elim x [
        | inl c ↦ absurd (class_other m p c)
        | inr l ↦ labels_told m h.labels (finding p E14) (record { own = refl; plain = refl; fit = own }) h.lawful l.said
      ]
    ] in
    let k = explained m (finding p E14) h.labels h.lawful told in
    let is = first_misfit k.detail m known (exprs_at m p) (k.explains h.labels h.lawful) in
    record {
      what = is.what;
      misfit = is.misfit;
      explains = λ labels l. k.explains labels l ∙ ap Some is.is;
    }
