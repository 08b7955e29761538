-- Expressions, and the iterable of a `for`, have labels that are lawful with every table that agrees on the names bound
-- so far.
use Rattle.std.proofs.Common.{List, [], arith, refl, subst, suc, sym, ℕ, ◌∷◌, ◌≡◌}
use Rattle.std.specs.Prelude.{Bool as Test, None, Option, false, if◌then◌else◌, map, true}
use Rattle.pc_tree.specs.declared.code.Code.TheVariants.{A5}
use Rattle.pc_source.specs.declared.place.Place.{Place}
use Rattle.pc_tree.specs.Tree.{Expr, Exprs, Keywords, call, more_exprs, more_keywords, name, no_exprs, no_keywords}
use Rattle.pc_types.specs.Tree.{Any, Int, Object, Tree}
use Rattle.pc_types.specs.Shape.{members}
use Rattle.pc_types.specs.Below.{AreSmaller, Bases}
use Rattle.pc_types.specs.WellFormed.{IsWellFormed}
use Rattle.pc_flow.specs.Environment.{Env}
use Rattle.pc_flow.specs.WellFormed.{AreWellFormed, IsWellFormedEnv, IsWellFormedIfAny}
use Rattle.pc_rules.specs.Operations.{Label, clean, iterate_member, offers_label}
use Rattle.pc_rules.specs.Calls.{Seat, call_label, arguments_given, is_suited, named_seat, positional_seat, is_range}
use Rattle.pc_rules.specs.Calls.{range_item, range_offers, range_signature}
use Rattle.pc_rules.specs.Context.{FlowsInto}
use Rattle.pc_rules.specs.Labels.{FlowLabels, ItemsLabels, KeywordsLabels, Labels, whole_label, type_of, with_label}
use Rattle.pc_rules.specs.Lawful.{Lawful, LawfulItems, LawfulKeywords, keyword_seat}
use Rattle.pc_rules.proofs.WellFormed.{int_well_formed, object_well_formed}
use Rattle.pc_rules.proofs.Called.{CallsWellFormed, SeatWellFormed, builtin_well_formed, called_well_formed}
use Rattle.pc_rules.proofs.Called.{keyword_well_formed, named_well_formed, positional_well_formed}
use Rattle.pc_rules.specs.Computed.Expressions.{flows_of}
use Rattle.pc_rules.proofs.ComputedFlows.{flows_are_lawful}
use Rattle.pc_rules.proofs.ComputedLawful.{has_labels}
use Rattle.pc_rules.proofs.Same.{SameWhere}
use Rattle.pc_rules.proofs.One.{one}
use Rattle.pc_module_rules.specs.Statements.{LawfulIterable, LawfulRange, LawfulValues, RangeOrValues, NamesBound}
use Rattle.pc_module_rules.proofs.StoredTypes.{turns_well_formed}
use Rattle.pc_module_rules.specs.Laws.Labellings.{Agree, IsDeclaredTable, Surroundings, GoesByNames}

-- ---- flows

-- the flows of a labelled expression, lawful
pub record FlowsLabelled (bases : Bases) (label : Label) (ts : List Tree) : Type 0 where
  pub flows : FlowLabels
  pub lawful : FlowsInto bases label ts flows

pub flows_labelled : (bases : Bases) (label : Label) (ts : List Tree) → AreSmaller bases → IsWellFormed bases label.type
    → AreWellFormed bases ts → FlowsLabelled bases label ts
flows_labelled bases label ts o h k = record {
  flows = flows_of bases label ts;
  lawful = flows_are_lawful bases label ts
      o h k;
}

module _ (around : Surroundings) where
  open around use {whole as m, context as ctx, context_well_formed as ck, count, locals as names}

  -- ---- an expression, lawful with each table that has the types of the names bound so far

  pub moved : (ds F : List Tree) (env : Env) (want : Option Tree) (e : Expr) (mk : Labels e) → SameWhere ds F env
      → AreWellFormed ctx.bases F → IsWellFormedEnv ctx.bases env → IsWellFormedIfAny ctx.bases want
      → Lawful ctx ds env want e mk → Lawful ctx F env want e mk
  moved ds F env want e mk s kF ke kw h =
      let f = has_labels ctx F env want e ck kF ke kw in
      subst (λ x. Lawful ctx F env want e x) (sym (one ctx ds F env s want e mk f.labels h f.lawful)) f.lawful

  -- an expression has labels that are lawful with every such table
  pub record ExprLabelled (ds : List Tree) (seen : NamesBound) (env : Env) (want : Option Tree) (e : Expr) : Type
      0 where
    pub labels : Labels e
    pub well_formed : IsWellFormed ctx.bases (type_of e labels)
    pub lawful : (F : List Tree) → IsDeclaredTable around F → Agree ctx ds F seen → Lawful ctx F env want e labels

  pub expr_labelled : (ds : List Tree) (seen : NamesBound) (env : Env) (want : Option Tree) (e : Expr)
      → IsDeclaredTable around ds → GoesByNames around ds seen env → IsWellFormedIfAny ctx.bases want
      → ExprLabelled ds seen env want e
  expr_labelled ds seen env want e g h k =
      let f = has_labels ctx ds env want e ck g.well_formed h.well_formed k in
      record {
        labels = f.labels;
        well_formed = f.well_formed;
        lawful = λ F gF s. moved ds F env want e f.labels
            (h.same F gF s) gF.well_formed h.well_formed k f.lawful;
      }

  -- ---- items and arguments, each for a well-formed seat

  -- likewise items
  pub record ItemsLabelled (ds : List Tree) (seen : NamesBound) (env : Env) (seat : ℕ → Seat) (es : Exprs) : Type
      0 where
    pub labels : ItemsLabels es
    pub lawful : (F : List Tree) → IsDeclaredTable around F → Agree ctx ds F seen
        → LawfulItems ctx F env seat es labels

  items_labelled : (ds : List Tree) (seen : NamesBound) (env : Env) → IsDeclaredTable around ds
      → GoesByNames around ds seen env → (seat : ℕ → Seat) → ((i : ℕ) → SeatWellFormed ctx.bases (seat i))
      → (es : Exprs) → ItemsLabelled ds seen env seat es
  items_labelled ds seen env g h seat k no_exprs = record { labels = tt; lawful = λ F gF s. tt }
  items_labelled ds seen env g h seat k (more_exprs e es) =
      let v = expr_labelled ds seen env (seat 0).want e g h (k 0).want in
      let fl = flows_labelled ctx.bases (whole_label e v.labels) (seat 0).into ck.smaller v.well_formed (k 0).into in
      let r = items_labelled ds seen env g h (λ i. seat (suc i)) (λ i. k (suc i)) es in
      record {
        labels = record { first = v.labels; flows = fl.flows; rest = r.labels };
        lawful =
            λ F gF s. record { first = v.lawful F gF s; flows = fl.lawful; rest = r.lawful F gF s };
      }

  -- likewise arguments by name
  pub record KeywordsLabelled (ds : List Tree) (seen : NamesBound) (env : Env) (seat : List ℕ → Seat)
      (before : List (List ℕ)) (es : Keywords) : Type 0 where
    pub labels : KeywordsLabels es
    pub lawful : (F : List Tree) → IsDeclaredTable around F → Agree ctx ds F seen
        → LawfulKeywords ctx F env seat before es labels

  keywords_labelled : (ds : List Tree) (seen : NamesBound) (env : Env) → IsDeclaredTable around ds
      → GoesByNames around ds seen env → (seat : List ℕ → Seat)
      → ((word : List ℕ) → SeatWellFormed ctx.bases (seat word)) → (before : List (List ℕ)) (es : Keywords)
      → KeywordsLabelled ds seen env seat before es
  keywords_labelled ds seen env g h seat k before no_keywords = record { labels = tt; lawful = λ F gF s. tt }
  keywords_labelled ds seen env g h seat k before (more_keywords n e es) =
      let q = keyword_well_formed ctx.bases seat k before n in
      let v = expr_labelled ds seen env (keyword_seat seat before n).want e g h q.want in
      let fl = flows_labelled ctx.bases (whole_label e v.labels) (keyword_seat seat before n).into ck.smaller
      v.well_formed q.into in
      let r = keywords_labelled ds seen env g h seat k (n.text ∷ before) es in
      record {
        labels = record { first = v.labels; flows = fl.flows; rest = r.labels };
        lawful =
            λ F gF s. record { first = v.lawful F gF s; flows = fl.lawful; rest = r.lawful F gF s };
      }

  -- ---- iterables of `for` loops

  -- the iterable of a `for` has lawful labels, and each turn binds a well-formed type
  pub record IterableLabelled (ds : List Tree) (seen : NamesBound) (env : Env) (e : Expr) : Type 0 where
    pub labels : Labels e
    pub item : Label
    pub well_formed : IsWellFormed ctx.bases item.type
    pub lawful : (F : List Tree) → IsDeclaredTable around F → Agree ctx ds F seen
        → LawfulIterable m ctx F env e labels item

  -- likewise of values
  pub record ValuesLabelled (ds : List Tree) (seen : NamesBound) (env : Env) (e : Expr) : Type 0 where
    pub labels : Labels e
    pub item : Label
    pub well_formed : IsWellFormed ctx.bases item.type
    pub lawful : (F : List Tree) → IsDeclaredTable around F → Agree ctx ds F seen
        → LawfulValues m ctx F env e labels item

  values_labelled : (ds : List Tree) (seen : NamesBound) (env : Env) → IsDeclaredTable around ds
      → GoesByNames around ds seen env → (e : Expr) → ValuesLabelled ds seen env e
  values_labelled ds seen env g h e =
      let v = expr_labelled ds seen env None e g h tt in
      record {
        labels = v.labels;
        item = offers_label ctx.bases (map (iterate_member ctx.bases) (members (type_of e v.labels)));
        well_formed = turns_well_formed ctx.bases ck.smaller (type_of e v.labels) v.well_formed;
        lawful = λ F gF s. (v.lawful F gF s, refl);
      }

  -- likewise of a `range`
  pub record RangeLabelled (ds : List Tree) (seen : NamesBound) (env : Env) (c : Expr) (args : Exprs) (kws : Keywords)
      (p : Place) : Type 0 where
    pub labels : Labels (call p c args kws)
    pub lawful : (F : List Tree) → IsDeclaredTable around F → Agree ctx ds F seen
        → LawfulRange m ctx F env c args kws p labels

  range_labelled : (ds : List Tree) (seen : NamesBound) (env : Env) → IsDeclaredTable around ds
      → GoesByNames around ds seen env → (c : Expr) (args : Exprs) (kws : Keywords) (p : Place)
      → RangeLabelled ds seen env c args kws p
  range_labelled ds seen env g h c args kws p =
      let v = expr_labelled ds seen env None c g h tt in
      let calls : CallsWellFormed ctx.bases (range_offers (arguments_given args kws)) = (
        called_well_formed ctx.bases (arguments_given args kws) range_signature
            (builtin_well_formed ctx.bases (Int ∷ []) Object (int_well_formed ctx.bases, tt)
            (object_well_formed ctx.bases)),
        tt,
      ) in
      let q = items_labelled ds seen env g h (positional_seat (range_offers (arguments_given args kws)))
      (positional_well_formed ctx.bases (range_offers (arguments_given args kws)) calls) args in
      let r = keywords_labelled ds seen env g h (named_seat (range_offers (arguments_given args kws)))
      (named_well_formed ctx.bases (range_offers (arguments_given args kws)) calls) [] kws in
      record {
        labels = record {
          here = call_label ctx.bases (range_offers (arguments_given args kws));
          callee =
              with_label c v.labels (clean Any);
          second = None;
          arguments = q.labels;
          keywords = r.labels;
        };
        lawful = λ F gF s. record {
          value = v.labels;
          lawful = v.lawful F gF s;
          callee = refl;
          arguments =
              q.lawful F gF s;
          keywords = r.lawful F gF s;
          here = refl;
          second = refl;
        };
      }

  pub range_item_well_formed : (b : Test) → IsWellFormed ctx.bases
      (if b then clean Int else record { type = Any; codes = A5 ∷ [] }).type
  range_item_well_formed true = (tt, tt, omega arith)
  range_item_well_formed false = (tt, tt, omega arith)

  -- likewise of a call that is a `range` or not
  pub record CallLabelled (b : Test) (ds : List Tree) (seen : NamesBound) (env : Env) (c : Expr) (args : Exprs)
      (kws : Keywords) (p : Place) : Type 0 where
    pub labels : Labels (call p c args kws)
    pub item : Label
    pub well_formed : IsWellFormed ctx.bases item.type
    pub lawful : (F : List Tree) → IsDeclaredTable around F → Agree ctx ds F seen
        → RangeOrValues m ctx F b (LawfulRange m ctx F env c args kws p labels
        × (item ≡ range_item (arguments_given args kws))) (LawfulValues m ctx F env (call p c args kws) labels item)

  call_labelled : (b : Test) (ds : List Tree) (seen : NamesBound) (env : Env) → IsDeclaredTable around ds
      → GoesByNames around ds seen env → (c : Expr) (args : Exprs) (kws : Keywords) (p : Place)
      → CallLabelled b ds seen env c args kws p
  call_labelled true ds seen env g h c args kws p =
      let r = range_labelled ds seen env g h c args kws p in
      record {
        labels = r.labels;
        item = range_item (arguments_given args kws);
        well_formed =
            range_item_well_formed (is_suited (arguments_given args kws) range_signature);
        lawful =
            λ F gF s. (r.lawful F gF s, refl);
      }
  call_labelled false ds seen env g h c args kws p =
      let v = values_labelled ds seen env g h (call p c args kws) in
      record { labels = v.labels; item = v.item; well_formed = v.well_formed; lawful = v.lawful }

  pub iterable_labelled : (ds : List Tree) (seen : NamesBound) (env : Env) → IsDeclaredTable around ds
      → GoesByNames around ds seen env → (e : Expr) → IterableLabelled ds seen env e
  iterable_labelled ds seen env g h (call p (name n) args kws) =
      let v = call_labelled (is_range (ctx.resolve n.text)) ds seen env g h (name n) args kws p in
      record { labels = v.labels; item = v.item; well_formed = v.well_formed; lawful = v.lawful }
  iterable_labelled ds seen env g h e =
      let v = values_labelled ds seen env g h e in
      record { labels = v.labels; item = v.item; well_formed = v.well_formed; lawful = v.lawful }
