-- The labels of an expression: a type and codes for each of its parts, and the types and the code of each flow. Own
-- rule of the profile.
use Rattle.std.specs.Prelude.{◌≡◌, ◌⊎◌, List, [], ◌∷◌, Bool as Test, true, false, Option, Some, None, Contains}
use Rattle.pc_source.specs.declared.place.Place.{Place}
use Rattle.pc_tree.specs.declared.code.Code.{Code}
use Rattle.pc_tree.specs.declared.code.Code.TheVariants.{E02, E03}
use Rattle.pc_tree.specs.declared.code.Finding.{Finding}
use Rattle.pc_tree.specs.Code.{finding}
use Rattle.pc_tree.specs.Tree.{Expr, Exprs, Entries, Keywords, name, number, text, truth, nothing, tuple, list, dict}
use Rattle.pc_tree.specs.Tree.{negative, negation, binary, compare, is_none, is_not_none, conjunction, disjunction}
use Rattle.pc_tree.specs.Tree.{attribute, index, call, no_exprs, more_exprs, no_entries, more_entries, no_keywords}
use Rattle.pc_tree.specs.Tree.{more_keywords}
use Rattle.pc_tree.specs.Depth.{place_of}
use Rattle.pc_scope.specs.Expressions.{is_instance_test}
use Rattle.pc_types.specs.Tree.{Tree}
use Rattle.pc_rules.specs.Operations.{Label, FlowLabel}

-- the flows of an expression, one for each type that it flows into
abbrev pub FlowLabels : Type 0
FlowLabels = List FlowLabel

-- the labels of an expression, of items, of the entries of a dict and of arguments by name, by recursion on the tree
abbrev mutual
  -- the labels of an expression: its own label, the labels of its parts, and their flows
  pub Labels : Expr → Type 0
  Labels (name n) = Label
  Labels (number p digits) = Label
  Labels (text p characters) = Label
  Labels (truth p value) = Label
  Labels (nothing p) = Label
  Labels (tuple p items) = record { here : Label; items : ItemsLabels items }
  Labels (list p items) = record { here : Label; items : ItemsLabels items }
  Labels (dict p entries) = record { here : Label; entries : EntriesLabels entries }
  Labels (negative p e) = record { here : Label; operand : Labels e }
  Labels (negation p e) = record { here : Label; operand : Labels e }
  Labels (binary p operator l r) = record { here : Label; left : Labels l; right : Labels r }
  Labels (compare p operator l r) = record { here : Label; left : Labels l; right : Labels r; flows : FlowLabels }
  Labels (is_none p e) = record { here : Label; operand : Labels e }
  Labels (is_not_none p e) = record { here : Label; operand : Labels e }
  Labels (conjunction p l r) = record { here : Label; left : Labels l; right : Labels r }
  Labels (disjunction p l r) = record { here : Label; left : Labels l; right : Labels r }
  Labels (attribute p e field) = record { here : Label; object : Labels e }
  Labels (index p e i) = record { here : Label; object : Labels e; key : Labels i; flows : FlowLabels }
  Labels (call p callee arguments keywords) = record {
    here : Label;
    callee : Labels callee;
    second : Option Code;
    arguments : ItemsLabels arguments;
    keywords : KeywordsLabels keywords;
  }

  -- the labels of items and of arguments by position: those of each, and its flows
  pub ItemsLabels : Exprs → Type 0
  ItemsLabels no_exprs = Unit {0}
  ItemsLabels (more_exprs e rest) = record { first : Labels e; flows : FlowLabels; rest : ItemsLabels rest }

  -- the labels of the entries of a dict: those of each key and value, and their flows
  pub EntriesLabels : Entries → Type 0
  EntriesLabels no_entries = Unit {0}
  EntriesLabels (more_entries key value rest) = record {
    key : Labels key;
    key_flows : FlowLabels;
    value : Labels value;
    value_flows : FlowLabels;
    rest : EntriesLabels rest;
  }

  -- the labels of arguments by name: those of each value, and its flows
  pub KeywordsLabels : Keywords → Type 0
  KeywordsLabels no_keywords = Unit {0}
  KeywordsLabels (more_keywords parameter value rest) = record {
    first : Labels value;
    flows : FlowLabels;
    rest : KeywordsLabels rest;
  }

-- the label of an expression itself
abbrev pub whole_label : (e : Expr) → Labels e → Label
whole_label (name n) m = m
whole_label (number p digits) m = m
whole_label (text p characters) m = m
whole_label (truth p value) m = m
whole_label (nothing p) m = m
whole_label (tuple p items) m = m.here
whole_label (list p items) m = m.here
whole_label (dict p pairs) m = m.here
whole_label (negative p e) m = m.here
whole_label (negation p e) m = m.here
whole_label (binary p operator l r) m = m.here
whole_label (compare p operator l r) m = m.here
whole_label (is_none p e) m = m.here
whole_label (is_not_none p e) m = m.here
whole_label (conjunction p l r) m = m.here
whole_label (disjunction p l r) m = m.here
whole_label (attribute p e field) m = m.here
whole_label (index p e i) m = m.here
whole_label (call p callee arguments by_name) m = m.here

-- the type of an expression
abbrev pub type_of : (e : Expr) → Labels e → Tree
type_of e m = (whole_label e m).type

-- labels with the expression's own label replaced
abbrev pub with_label : (e : Expr) → Labels e → Label → Labels e
with_label (name n) m here = here
with_label (number p digits) m here = here
with_label (text p characters) m here = here
with_label (truth p value) m here = here
with_label (nothing p) m here = here
with_label (tuple p items) m here = record { here = here; items = m.items }
with_label (list p items) m here = record { here = here; items = m.items }
with_label (dict p pairs) m here = record { here = here; entries = m.entries }
with_label (negative p e) m here = record { here = here; operand = m.operand }
with_label (negation p e) m here = record { here = here; operand = m.operand }
with_label (binary p operator l r) m here = record { here = here; left = m.left; right = m.right }
with_label (compare p operator l r) m here = record { here = here; left = m.left; right = m.right; flows = m.flows }
with_label (is_none p e) m here = record { here = here; operand = m.operand }
with_label (is_not_none p e) m here = record { here = here; operand = m.operand }
with_label (conjunction p l r) m here = record { here = here; left = m.left; right = m.right }
with_label (disjunction p l r) m here = record { here = here; left = m.left; right = m.right }
with_label (attribute p e field) m here = record { here = here; object = m.object }
with_label (index p e i) m here = record { here = here; object = m.object; key = m.key; flows = m.flows }
with_label (call p callee arguments by_name) m here = record {
  here = here;
  callee = m.callee;
  second = m.second;
  arguments = m.arguments;
  keywords = m.keywords;
}

-- the types of items, in order
abbrev pub item_types : (es : Exprs) → ItemsLabels es → List Tree
item_types no_exprs m = []
item_types (more_exprs e rest) m = type_of e m.first ∷ item_types rest m.rest

-- the types of a dict's keys, in order
abbrev pub key_types : (es : Entries) → EntriesLabels es → List Tree
key_types no_entries m = []
key_types (more_entries key value rest) m = type_of key m.key ∷ key_types rest m.rest

-- the types of a dict's values, in order
abbrev pub value_types : (es : Entries) → EntriesLabels es → List Tree
value_types no_entries m = []
value_types (more_entries key value rest) m = type_of value m.value ∷ value_types rest m.rest

-- ---- the findings under labels

-- whether scope analysis reports the code: E02 and E03; labels have them for their types, and a law says that they have
-- them where scope analysis finds them
abbrev pub is_of_scopes : Code → Test
is_of_scopes E02 = true
is_of_scopes E03 = true
is_of_scopes _ = false

-- the finding is one of the codes at the place
pub record IsFoundAt (place : Place) (codes : List Code) (f : Finding) : Type 0 where
  pub code : Code
  pub among : Contains codes code
  pub is : f ≡ finding place code

-- the finding is the code of one of the flows, at the place of the expression that flows
pub record IsFlowAt (place : Place) (flows : FlowLabels) (f : Finding) : Type 0 where
  pub flow : FlowLabel
  pub among : Contains flows flow
  pub code : Code
  pub found : flow.code ≡ Some code
  pub is : f ≡ finding place code

-- there is a code, and the finding is that code at this place
abbrev pub IsCodeAt : Place → Option Code → Finding → Type 0
IsCodeAt place None f = ⊥
IsCodeAt place (Some code) f = f ≡ finding place code

-- the place of the second argument
abbrev pub second_place : Exprs → Place → Place
second_place no_exprs p = p
second_place (more_exprs e no_exprs) p = p
second_place (more_exprs e (more_exprs f rest)) p = place_of f

-- the findings under the labels of an expression, of items, of arguments, and of the entries of a dict
abbrev mutual
  pub Finds : (e : Expr) → Labels e → Finding → Type 0
  Finds (name n) m f = IsFoundAt n.place m.codes f
  Finds (number p digits) m f = IsFoundAt p m.codes f
  Finds (text p characters) m f = IsFoundAt p m.codes f
  Finds (truth p value) m f = IsFoundAt p m.codes f
  Finds (nothing p) m f = IsFoundAt p m.codes f
  Finds (tuple p items) m f = IsFoundAt p m.here.codes f ⊎ ItemsFind items m.items f
  Finds (list p items) m f = IsFoundAt p m.here.codes f ⊎ ItemsFind items m.items f
  Finds (dict p entries) m f = IsFoundAt p m.here.codes f ⊎ EntriesFind entries m.entries f
  Finds (negative p e) m f = IsFoundAt p m.here.codes f ⊎ Finds e m.operand f
  Finds (negation p e) m f = IsFoundAt p m.here.codes f ⊎ Finds e m.operand f
  Finds (binary p operator l r) m f = IsFoundAt p m.here.codes f ⊎ (Finds l m.left f ⊎ Finds r m.right f)
  Finds (compare p operator l r) m f = IsFoundAt p m.here.codes f
      ⊎ (IsFlowAt (place_of l) m.flows f ⊎ (Finds l m.left f ⊎ Finds r m.right f))
  Finds (is_none p e) m f = IsFoundAt p m.here.codes f ⊎ Finds e m.operand f
  Finds (is_not_none p e) m f = IsFoundAt p m.here.codes f ⊎ Finds e m.operand f
  Finds (conjunction p l r) m f = IsFoundAt p m.here.codes f ⊎ (Finds l m.left f ⊎ Finds r m.right f)
  Finds (disjunction p l r) m f = IsFoundAt p m.here.codes f ⊎ (Finds l m.left f ⊎ Finds r m.right f)
  Finds (attribute p e field) m f = IsFoundAt p m.here.codes f ⊎ Finds e m.object f
  Finds (index p e i) m f = IsFoundAt p m.here.codes f
      ⊎ (IsFlowAt (place_of i) m.flows f ⊎ (Finds e m.object f ⊎ Finds i m.key f))
  Finds (call p callee arguments keywords) m f =
      IsFoundAt p m.here.codes f
      ⊎ (Finds callee m.callee f
      ⊎ (IsCodeAt (second_place arguments p) m.second f
      ⊎ (ArgumentsFind (is_instance_test callee arguments keywords) arguments m.arguments f
      ⊎ KeywordsFind keywords m.keywords f)))

  pub ItemsFind : (es : Exprs) → ItemsLabels es → Finding → Type 0
  ItemsFind no_exprs m f = ⊥
  ItemsFind (more_exprs e rest) m f = IsFlowAt (place_of e) m.flows f ⊎ (Finds e m.first f ⊎ ItemsFind rest m.rest f)

  -- the findings of arguments by position; of an instance test only those in the first argument
  pub ArgumentsFind : (is_test : Test) → (es : Exprs) → ItemsLabels es → Finding → Type 0
  ArgumentsFind is_test no_exprs m f = ⊥
  ArgumentsFind true (more_exprs e rest) m f = Finds e m.first f
  ArgumentsFind false (more_exprs e rest) m f = IsFlowAt (place_of e) m.flows f
      ⊎ (Finds e m.first f ⊎ ArgumentsFind false rest m.rest f)

  pub EntriesFind : (es : Entries) → EntriesLabels es → Finding → Type 0
  EntriesFind no_entries m f = ⊥
  EntriesFind (more_entries key value rest) m f =
      (IsFlowAt (place_of key) m.key_flows f ⊎ Finds key m.key f)
      ⊎ ((IsFlowAt (place_of value) m.value_flows f ⊎ Finds value m.value f) ⊎ EntriesFind rest m.rest f)

  pub KeywordsFind : (es : Keywords) → KeywordsLabels es → Finding → Type 0
  KeywordsFind no_keywords m f = ⊥
  KeywordsFind (more_keywords parameter value rest) m f = IsFlowAt (place_of value) m.flows f
      ⊎ (Finds value m.first f ⊎ KeywordsFind rest m.rest f)
