-- Details of findings: what is wrong, by the types, names and places of the module. Each is over a way T in which types
-- are given: as trees, or as texts. Own rule of the profile.
use Rattle.std.specs.Prelude.{ℕ, List, Option}
use Rattle.pc_source.specs.declared.place.Place.{Place}
use Rattle.pc_tree.specs.declared.tree.BinaryOperator.{BinaryOperator}
use Rattle.pc_tree.specs.declared.tree.ComparisonOperator.{ComparisonOperator}

-- the name of a function as it is shown, with its class if it is a method
pub record FunctionName : Type 0 where
  pub class : Option (List ℕ)
  pub name : List ℕ

-- the callee of a call, as a detail names it
pub data Callable (T : Type 0) : Type 0 where
  called_function : FunctionName → Callable T
  called_class : (name : List ℕ) → Callable T
  called_builtin : (name : List ℕ) → Callable T
  -- a method of a list or a dict
  called_member : (object : T) (name : List ℕ) → Callable T
  called_value : T → Callable T

-- the reason why the arguments of a call do not suit its callee
pub data Misfit : Type 0 where
  too_many : (takes given : ℕ) → Misfit
  too_few : (takes given : ℕ) → Misfit
  -- arguments by name, where only arguments by position are taken
  by_position_only : Misfit
  no_parameter : (name : List ℕ) → Misfit
  given_twice : (name : List ℕ) → Misfit
  -- the names of some parameters without an argument, and the number of the others
  missing : (names : List (List ℕ)) (others : ℕ) → Misfit
  not_callable : Misfit

-- a sink: the place that a value flows into
pub data Sink (T : Type 0) : Type 0 where
  a_parameter : (name : List ℕ) → Callable T → Sink T
  -- the argument of a callee that takes arguments by position only
  an_argument : Callable T → Sink T
  a_return : FunctionName → Sink T
  a_field : (class name : List ℕ) → Sink T
  a_local a_loop_target a_constant : (name : List ℕ) → Sink T
  a_parameter_default : (name : List ℕ) → FunctionName → Sink T
  a_field_default : (class name : List ℕ) → Sink T
  -- an item, a key, a value or an index of an object of this type
  an_item a_key a_value an_index : (object : T) → Sink T
  -- the value that `in` looks for in an object of this type
  a_sought : (object : T) → Sink T

-- an operator with the types of its operands
pub data OperatorUse (T : Type 0) : Type 0 where
  of_binary : BinaryOperator → (left right : T) → OperatorUse T
  of_comparison : ComparisonOperator → (left right : T) → OperatorUse T
  of_minus : (operand : T) → OperatorUse T

-- the hint about an attribute that an object does not have
pub data AttributeHint : Type 0 where
  no_hint : AttributeHint
  -- it is a method of lists or dicts, which can only be called
  only_called : AttributeHint
  -- this class below has it
  below : (class : List ℕ) → AttributeHint

-- the meaning of a name that is not a value
pub data NoValue : Type 0 where
  means_function means_class means_reserved : (name : List ℕ) → NoValue
  means_method : FunctionName → NoValue

-- the place where a name that means nothing here is bound elsewhere
pub data Elsewhere : Type 0 where
  nowhere : Elsewhere
  -- a member of the class around it
  in_class : (class : List ℕ) → Elsewhere
  -- a local of another function
  in_function : FunctionName → (at : Place) → Elsewhere
  -- a header of the module would import it
  not_imported : Elsewhere

-- a name or callee that an initializer uses too early
pub data Early : Type 0 where
  early_function : (name : List ℕ) → Early
  -- a class or a constant, at the place of its name
  early_name : (name : List ℕ) (at : Place) → Early
  -- a callee that is not a name
  early_callee : Early

-- the reason why an annotation is not a type
pub data AnnotationFault (T : Type 0) : Type 0 where
  unknown_type : (name : List ℕ) → AnnotationFault T
  -- a function or a constant, at the place of its name
  no_type : (name : List ℕ) (at : Place) → AnnotationFault T
  -- a reserved name that is not a type
  reserved_no_type : (name : List ℕ) → AnnotationFault T
  any_not_imported : AnnotationFault T
  -- `list`, `dict` or `tuple` without the types in brackets that it needs
  bare : (name : List ℕ) → AnnotationFault T
  takes_types : (name : List ℕ) (takes given : ℕ) → AnnotationFault T
  -- a name that takes no types in brackets
  takes_none : (name : List ℕ) → AnnotationFault T
  key_type : T → AnnotationFault T

-- the reason why parts do not make a union
pub data Clash (T : Type 0) : Type 0 where
  no_member : T → Clash T
  -- two of the same kind, or one that the other includes
  two : (first second : T) → Clash T

-- the part in which a method differs from the one that it overrides
pub data OverrideFault (T : Type 0) : Type 0 where
  other_count : (above here : ℕ) → OverrideFault T
  other_name : (position : ℕ) (above here : List ℕ) → OverrideFault T
  no_default : (name : List ℕ) → OverrideFault T
  other_return : (above here : T) → OverrideFault T
  other_parameter : (name : List ℕ) (above here : T) → OverrideFault T

-- the earlier binding of a name that is repeated
pub data Earlier : Type 0 where
  earlier_item : (at : Place) → Earlier
  earlier_parameter : (at : Place) → Earlier
  -- the parameter `self` of a method
  earlier_self : Earlier
  earlier_argument : (at : Place) → Earlier

-- the reason why there is no function `main` without parameters
pub data NoMain : Type 0 where
  no_such_name : NoMain
  -- the first `main`, which has parameters, or is not a function
  has_parameters is_no_function : (at : Place) → NoMain

-- a statement that leaves its suite
pub data Leaving : Type 0 where
  leaves_by_return leaves_by_break leaves_by_continue leaves_by_if : Leaving

-- the detail of a finding: what is wrong, or what cannot be told at a dynamic place
pub data Detail (T : Type 0) : Type 0 where
  -- E12, A1
  flow : (from into : T) → Sink T → Detail T
  -- E13, A2
  operator : OperatorUse T → Detail T
  -- E14, A6
  call : Callable T → Misfit → Detail T
  -- E15, A4: the type of the object, and the members of it that lack the name
  attribute : (object : T) (lacking : List T) (name : List ℕ) → AttributeHint → Detail T
  -- E16, A3
  index : (object : T) (lacking : List T) (key : T) → Detail T
  -- E17, A3
  store : (object : T) (lacking : List T) → Detail T
  -- E18, A5
  iterate : (iterable : T) (lacking : List T) → Detail T
  -- A5: a loop over a call of `range` whose arguments do not suit
  iterate_range : Misfit → Detail T
  -- E19, A2
  contain : (sought object : T) (lacking : List T) → Detail T
  -- E20
  not_a_value : NoValue → Detail T
  -- E21
  no_return : FunctionName → (promised : T) → Detail T
  -- E22: different types of keys, in order
  keys : List T → Detail T
  -- E23
  method_store : FunctionName → Detail T
  -- E25: the name that the test is for, if it is one
  no_test : Option (List ℕ) → Detail T
  -- E26
  size : (nodes : ℕ) → Detail T
  -- E27, A6
  length : (operand : T) (lacking : List T) → Detail T
  -- E27
  range_elsewhere : Detail T
  -- A7
  list_test : (local : List ℕ) (type : T) → Detail T
  -- E11, A8: the method that is overridden, at the place of its name
  override : FunctionName → (at : Place) → OverrideFault T → Detail T
  -- E01
  twice : (name : List ℕ) → Earlier → Detail T
  -- E02
  unknown_name : (name : List ℕ) → Elsewhere → Detail T
  -- E03
  early : Early → Detail T
  -- E04: some places where the local is bound
  unassigned : (local : List ℕ) (bound : List Place) → Detail T
  -- E05
  outside_loop : Leaving → Detail T
  -- E06: the member above or before, its class and its place
  member : (name class : List ℕ) (at : Place) → Detail T
  -- E07: a later class of this name, if there is one
  base : (name : List ℕ) (later : Option Place) → Detail T
  -- E08: the first field with a default, its class and its place
  field_order : (name class field : List ℕ) (at : Place) → Detail T
  -- E09
  annotation : AnnotationFault T → Detail T
  -- E10
  union : Clash T → Detail T
  -- E24: the earlier binding, or none for `self`
  late_annotation : (local : List ℕ) (at : Option Place) → Detail T
  -- E28
  main : NoMain → Detail T
  -- E29
  reserved : (name : List ℕ) → Detail T
  -- E30: the statement after which none is reached
  unreachable : Leaving → (at : Place) → Detail T
  -- E31: the first parameter with a default
  default_order : (name parameter : List ℕ) (at : Place) → Detail T
