-- The target of a `for`, names bound in unreachable code, and stores to attributes and items.
use Rattle.std.proofs.Common.{List, [], ap, arith, refl, subst, ℕ, ◌++◌, ◌∷◌, ◌≡◌}
use Rattle.std.specs.Prelude.{Bool as Test, None, false, true}
use Rattle.pc_source.specs.declared.place.Place.{Place}
use Rattle.pc_tree.specs.Tree.{Expr, Name, Target, to_attribute, to_index}
use Rattle.pc_scope.specs.declared.resolution.NameMeaning.{NameMeaning}
use Rattle.pc_scope.specs.declared.resolution.NameMeaning.TheVariants as meaning
use Rattle.pc_scope.specs.Bindings.{texts}
use Rattle.pc_types.specs.Tree.{Any, Tree}
use Rattle.pc_types.specs.WellFormed.{IsWellFormed}
use Rattle.pc_flow.specs.Environment.{Env, assign, assigned_type, declared_type}
use Rattle.pc_flow.specs.WellFormed.{AreWellFormed}
use Rattle.pc_rules.specs.Operations.{Label, clean, only_type, store_codes, store_index_types, stored_types}
use Rattle.pc_rules.specs.Context.{FlowsInto}
use Rattle.pc_rules.specs.Labels.{FlowLabels, Labels, whole_label, type_of}
use Rattle.pc_module_rules.specs.StatementLabels.{TargetLabels}
use Rattle.pc_module_rules.specs.Statements.{LawfulStore, LawfulTarget, NamesBound, AreUndeclared, UndeclaredName}
use Rattle.pc_module_rules.specs.Statements.{attribute_offers, index_offers, is_first, only_code}
use Rattle.pc_module_rules.proofs.StoredTypes.{fields_stored, items_stored, keys_stored, only_well_formed}
use Rattle.pc_flow.proofs.Conditions.{assigned_well_formed}
use Rattle.pc_module_rules.specs.Laws.Labellings.{Agree, IsDeclaredTable, Surroundings, GoesByNames}
use Rattle.pc_module_rules.proofs.BoundNames.{here_among, within_later, within_one, within_right}
use Rattle.pc_module_rules.proofs.Tables.{assign_by_names, declared_well_formed, same_on, same_self, by_names_on}
use Rattle.pc_module_rules.proofs.Tables.{still_same}
use Rattle.pc_module_rules.proofs.LabelledExpressions.{expr_labelled, flows_labelled}
use Rattle.pc_module_rules.proofs.LabelledBindings.{at_first, local_set, name_set}

module _ (around : Surroundings) where
  open around use {whole as m, context as ctx, context_well_formed as ck, count, locals as names}

  -- the target of a `for`
  pub record TargetLabelled (ds : List Tree) (seen : NamesBound) (head : Env) (n : Name) (r : NameMeaning) (item : Label) : Type
      0 where
    pub table : List Tree
    pub is_table : IsDeclaredTable around table
    pub same : Agree ctx ds table seen
    pub flows : FlowLabels
    pub inside : Env
    pub by_names : GoesByNames around table (n.text ∷ seen) inside
    pub lawful : (F : List Tree) → IsDeclaredTable around F → Agree ctx table F (n.text ∷ seen)
        → LawfulTarget m ctx F seen n r head item flows inside

  pub target_labelled : (ds : List Tree) (seen : NamesBound) (head : Env) → IsDeclaredTable around ds
      → GoesByNames around ds seen head → (n : Name) (r : NameMeaning) → ctx.resolve n.text ≡ r → (item : Label)
      → IsWellFormed ctx.bases item.type → TargetLabelled ds seen head n r item
  target_labelled ds seen head g h n (meaning.Local x) i item k =
      let st = local_set around ds seen g n.text x i item.type k (is_first seen n) refl in
      let d = declared_type st.table x in
      let kd = declared_well_formed ctx.bases st.table x st.is_table.well_formed in
      let fl = flows_labelled ctx.bases (clean item.type) (d ∷ []) ck.smaller k (kd, tt) in
      record {
        table = st.table;
        is_table = st.is_table;
        same = st.same;
        flows = fl.flows;
        inside = assign head x (assigned_type d item.type (only_code fl.flows));
        by_names = assign_by_names around st.table (n.text ∷ seen) head n.text x
            (assigned_type d item.type (only_code fl.flows)) (here_among n.text seen) i
            (assigned_well_formed ctx.bases d item.type (only_code fl.flows) kd k)
            (by_names_on around ds st.table seen (n.text ∷ seen) head (within_one n.text seen) st.is_table st.same h);
        lawful = λ F gF s. let q : d ≡ declared_type F x = s n.text x (here_among n.text seen) i in record {
          at_first = at_first around F (is_first seen n) x item.type (st.is F s x refl);
          flow = subst (λ t. FlowsInto ctx.bases (clean item.type) (t ∷ []) fl.flows) q fl.lawful;
          inside_is = ap (λ t. assign head x (assigned_type t item.type (only_code fl.flows))) q;
        };
      }
  target_labelled ds seen head g h n (meaning.Const c) i item k = record {
    table = ds;
    is_table = g;
    same =
        same_self around ds seen;
    flows = [];
    inside = head;
    by_names = still_same around ds seen (n.text ∷ seen) head
        (within_one n.text seen) g h;
    lawful = λ F gF s. (refl, refl);
  }
  target_labelled ds seen head g h n (meaning.Func c) i item k = record {
    table = ds;
    is_table = g;
    same =
        same_self around ds seen;
    flows = [];
    inside = head;
    by_names = still_same around ds seen (n.text ∷ seen) head
        (within_one n.text seen) g h;
    lawful = λ F gF s. (refl, refl);
  }
  target_labelled ds seen head g h n (meaning.Class c) i item k = record {
    table = ds;
    is_table = g;
    same =
        same_self around ds seen;
    flows = [];
    inside = head;
    by_names = still_same around ds seen (n.text ∷ seen) head
        (within_one n.text seen) g h;
    lawful = λ F gF s. (refl, refl);
  }
  target_labelled ds seen head g h n (meaning.Builtin c) i item k =
      record {
        table = ds;
        is_table = g;
        same = same_self around ds seen;
        flows = [];
        inside = head;
        by_names =
            still_same around ds seen (n.text ∷ seen) head (within_one n.text seen) g h;
        lawful = λ F gF s. (refl, refl);
      }
  target_labelled ds seen head g h n meaning.None i item k = record {
    table = ds;
    is_table = g;
    same =
        same_self around ds seen;
    flows = [];
    inside = head;
    by_names = still_same around ds seen (n.text ∷ seen) head
        (within_one n.text seen) g h;
    lawful = λ F gF s. (refl, refl);
  }

  -- names first bound where no run comes: Any
  pub record UndeclaredLabelled (ds : List Tree) (seen : NamesBound) (ns : List Name) : Type 0 where
    pub table : List Tree
    pub is_table : IsDeclaredTable around table
    pub same : Agree ctx ds table seen
    pub lawful : (F : List Tree) → Agree ctx table F (texts ns ++ seen) → AreUndeclared m ctx F seen ns

  undeclared_name : (F : List Tree) (b : Test) (r : NameMeaning) → ((x : ℕ) → r ≡ meaning.Local x → b ≡ true
      → declared_type F x ≡ Any) → UndeclaredName m ctx F b r
  undeclared_name F false r h = tt
  undeclared_name F true (meaning.Local x) h = h x refl refl
  undeclared_name F true (meaning.Const c) h = tt
  undeclared_name F true (meaning.Func c) h = tt
  undeclared_name F true (meaning.Class c) h = tt
  undeclared_name F true (meaning.Builtin c) h = tt
  undeclared_name F true meaning.None h = tt

  pub undeclared_labelled : (ds : List Tree) (seen : NamesBound) → IsDeclaredTable around ds → (ns : List Name)
      → UndeclaredLabelled ds seen ns
  undeclared_labelled ds seen g [] = record {
    table = ds;
    is_table = g;
    same = same_self around ds seen;
    lawful =
        λ F s. tt;
  }
  undeclared_labelled ds seen g (n ∷ ns) =
      let st = name_set around ds seen g n.text (ctx.resolve n.text) refl Any (tt, tt, omega arith) in
      let rest = undeclared_labelled st.table (n.text ∷ seen) st.is_table ns in
      record {
        table = rest.table;
        is_table = rest.is_table;
        same = same_on around ds st.table rest.table seen (n.text ∷ seen) (within_one n.text seen) st.same rest.same;
        lawful = λ F s.
            let later : Agree ctx rest.table F (texts ns ++ (n.text ∷ seen)) =
            λ w x a r. s w x (within_later n ns seen w a) r in (
              undeclared_name F (is_first seen n) (ctx.resolve n.text)
                  (st.is F (same_on around st.table rest.table F (n.text ∷ seen) (texts ns ++ (n.text ∷ seen))
                  (within_right (texts ns) (n.text ∷ seen)) rest.same later)),
              rest.lawful F later,
            );
      }

  -- ---- stores

  -- a store has labels of its target, of the value and of their flows
  pub record StoreLabelled (ds : List Tree) (seen : NamesBound) (env : Env) (t : Target) (e : Expr) : Type 0 where
    pub target : TargetLabels t
    pub labels : Labels e
    pub flows : FlowLabels
    pub lawful : (F : List Tree) → IsDeclaredTable around F → Agree ctx ds F seen
        → LawfulStore m ctx F env t target e labels flows

  pub attribute_labelled : (ds : List Tree) (seen : NamesBound) (env : Env) → IsDeclaredTable around ds
      → GoesByNames around ds seen env → (p : Place) (x : Expr) (f : Name) (e : Expr)
      → StoreLabelled ds seen env (to_attribute p x f) e
  attribute_labelled ds seen env g h p x f e =
      let q = expr_labelled around ds seen env None x g h tt in
      let os = attribute_offers m ctx ds f.text (type_of x q.labels) in
      let k : AreWellFormed ctx.bases (stored_types os) = fields_stored ctx.bases ctx.classes ck.classes f.text
      (type_of x q.labels) q.well_formed in
      let v = expr_labelled around ds seen env (only_type os (stored_types os)) e g h
      (only_well_formed ctx.bases os (stored_types os) k) in
      let fl = flows_labelled ctx.bases (whole_label e v.labels) (stored_types os) ck.smaller v.well_formed k in
      record {
        target = record { codes = store_codes os; object = q.labels };
        labels = v.labels;
        flows = fl.flows;
        lawful = λ F gF s. record { object = q.lawful F gF s; value = v.lawful F gF s; codes = refl; flow = fl.lawful };
      }

  pub index_labelled : (ds : List Tree) (seen : NamesBound) (env : Env) → IsDeclaredTable around ds
      → GoesByNames around ds seen env → (p : Place) (x i e : Expr) → StoreLabelled ds seen env (to_index p x i) e
  index_labelled ds seen env g h p x i e =
      let q = expr_labelled around ds seen env None x g h tt in
      let j = expr_labelled around ds seen env None i g h tt in
      let os = index_offers m ctx ds (type_of x q.labels) in
      let k : AreWellFormed ctx.bases (stored_types os) = items_stored ctx.bases (type_of x q.labels) q.well_formed in
      let kf = flows_labelled ctx.bases (whole_label i j.labels) (store_index_types os) ck.smaller j.well_formed
      (keys_stored ctx.bases (type_of x q.labels) q.well_formed) in
      let v = expr_labelled around ds seen env (only_type os (stored_types os)) e g h
      (only_well_formed ctx.bases os (stored_types os) k) in
      let fl = flows_labelled ctx.bases (whole_label e v.labels) (stored_types os) ck.smaller v.well_formed k in
      record {
        target = record { codes = store_codes os; object = q.labels; key = j.labels; key_flows = kf.flows };
        labels = v.labels;
        flows = fl.flows;
        lawful = λ F gF s. record {
          object = q.lawful F gF s;
          key = j.lawful F gF s;
          value = v.lawful F gF s;
          codes =
              refl;
          key_flow = kf.lawful;
          flow = fl.lawful;
        };
      }
