-- Operators and comparisons, by the kinds of their operands; bool counts as int.
-- Language Reference 6.6 "Unary arithmetic and bitwise operations", 6.7 "Binary arithmetic operations", 6.10
-- "Comparisons"; anything else that Python defines is out of the profile (own rule).
use Rattle.std.specs.Prelude.{Bool, true, false, not, ◌++◌, ◌+ℤ◌, ◌-ℤ◌, ◌*ℤ◌, neg_ℤ, if◌then◌else◌, codes}
use Rattle.pc_tree.specs.declared.tree.BinaryOperator.{BinaryOperator}
use Rattle.pc_tree.specs.declared.tree.BinaryOperator.TheVariants.{Add, Sub, Mul, FloorDiv, Mod}
use Rattle.pc_tree.specs.declared.tree.ComparisonOperator.{ComparisonOperator}
use Rattle.pc_tree.specs.declared.tree.ComparisonOperator.TheVariants.{Equal, NotEqual, Less, LessEqual, Greater}
use Rattle.pc_tree.specs.declared.tree.ComparisonOperator.TheVariants.{GreaterEqual, In, NotIn}
use Rattle.pc_value.specs.Value.{Value, whole, boolean, string, none, tuple_of, location, TypeError, Outside, Other}
use Rattle.pc_value.specs.Value.{Seen, a_number, a_text, a_none, a_tuple, a_list, a_dict, an_instance}
use Rattle.pc_value.specs.Actions.{Outcome, gives, stops, raises, Free}
use Rattle.pc_value.specs.Numbers.{floor_div, floor_mod, is_zero, same_number, number_below}
use Rattle.pc_value.specs.Texts.{same_text, text_below, occurs_in, text_of_truth, text_of_number}
use Rattle.pc_value.specs.Containers.{contains_key}

-- `+`: int and int, str and str
abbrev pub sum_of : Seen → Seen → Outcome
sum_of (a_number x) (a_number y) = gives (whole (x +ℤ y))
sum_of (a_text s) (a_text t) = gives (string (s ++ t))
sum_of (a_list l vs) (a_list m ws) = stops Outside
sum_of (a_tuple vs) (a_tuple ws) = stops Outside
sum_of v w = raises TypeError

-- `-`: int and int
abbrev pub difference_of : Seen → Seen → Outcome
difference_of (a_number x) (a_number y) = gives (whole (x -ℤ y))
difference_of v w = raises TypeError

-- `*`: int and int
abbrev pub product_of : Seen → Seen → Outcome
product_of (a_number x) (a_number y) = gives (whole (x *ℤ y))
product_of (a_number x) (a_text t) = stops Outside
product_of (a_number x) (a_list m ws) = stops Outside
product_of (a_number x) (a_tuple ws) = stops Outside
product_of (a_text s) (a_number y) = stops Outside
product_of (a_list l vs) (a_number y) = stops Outside
product_of (a_tuple vs) (a_number y) = stops Outside
product_of v w = raises TypeError

-- `//`: int and int; by zero another exception
abbrev pub quotient_of : Seen → Seen → Outcome
quotient_of (a_number x) (a_number y) = if is_zero y then stops Other else gives (whole (floor_div x y))
quotient_of v w = raises TypeError

-- `%`: int and int; by zero another exception
abbrev pub remainder_of : Seen → Seen → Outcome
remainder_of (a_number x) (a_number y) = if is_zero y then stops Other else gives (whole (floor_mod x y))
remainder_of (a_text s) w = stops Outside
remainder_of v w = raises TypeError

-- the outcome of a binary operator, by the kinds of its operands
abbrev pub binary_outcome : BinaryOperator → Seen → Seen → Outcome
binary_outcome Add v w = sum_of v w
binary_outcome Sub v w = difference_of v w
binary_outcome Mul v w = product_of v w
binary_outcome FloorDiv v w = quotient_of v w
binary_outcome Mod v w = remainder_of v w

-- unary `-`: int
abbrev pub negative_of : Seen → Outcome
negative_of (a_number x) = gives (whole (neg_ℤ x))
negative_of v = raises TypeError

-- whether `==` on two values has a free answer: on two lists, dicts, tuples or instances
abbrev pub is_equality_free : Seen → Seen → Bool
is_equality_free (a_tuple vs) (a_tuple ws) = true
is_equality_free (a_list l vs) (a_list m ws) = true
is_equality_free (a_dict l vs) (a_dict m ws) = true
is_equality_free (an_instance l c vs) (an_instance m d ws) = true
is_equality_free v w = false

-- `==` if its answer is not free: by number, by text, None is None, and different kinds differ
abbrev pub is_same : Seen → Seen → Bool
is_same (a_number x) (a_number y) = same_number x y
is_same (a_text s) (a_text t) = same_text s t
is_same a_none a_none = true
is_same v w = false

-- `==`: the free answer if there is one, else the exact one
abbrev pub is_equal : Free → Seen → Seen → Bool
is_equal free v w = if is_equality_free v w then free.truth else is_same v w

-- `<`: int and int, str and str
abbrev pub below : Seen → Seen → Outcome
below (a_number x) (a_number y) = gives (boolean (number_below x y))
below (a_text s) (a_text t) = gives (boolean (text_below s t))
below (a_list l vs) (a_list m ws) = stops Outside
below (a_tuple vs) (a_tuple ws) = stops Outside
below v w = raises TypeError

-- the opposite truth value
abbrev pub opposite : Outcome → Outcome
opposite (gives (boolean b)) = gives (boolean (not b))
opposite o = o

-- whether `in` has a free answer: on a list or tuple
abbrev pub is_membership_free : Seen → Bool
is_membership_free (a_list l ws) = true
is_membership_free (a_tuple ws) = true
is_membership_free w = false

-- `in`: a text in a text, anything in a list or tuple, an int, str or None in a dict
abbrev pub membership_of : Free → Seen → Seen → Outcome
membership_of free (a_text s) (a_text t) = gives (boolean (occurs_in s t))
membership_of free v (a_list l ws) = gives (boolean free.truth)
membership_of free v (a_tuple ws) = gives (boolean free.truth)
membership_of free v (a_dict l entries) = contains_key v entries
membership_of free v w = raises TypeError

-- the outcome of a comparison, by the kinds of its operands and given the free answers
abbrev pub compare_outcome : Free → ComparisonOperator → Seen → Seen → Outcome
compare_outcome free Equal v w = gives (boolean (is_equal free v w))
compare_outcome free NotEqual v w = gives (boolean (not (is_equal free v w)))
compare_outcome free Less v w = below v w
compare_outcome free LessEqual v w = opposite (below w v)
compare_outcome free Greater v w = below w v
compare_outcome free GreaterEqual v w = opposite (below v w)
compare_outcome free In v w = membership_of free v w
compare_outcome free NotIn v w = opposite (membership_of free v w)

-- whether a comparison has a free answer
abbrev pub is_comparison_free : ComparisonOperator → Seen → Seen → Bool
is_comparison_free Equal v w = is_equality_free v w
is_comparison_free NotEqual v w = is_equality_free v w
is_comparison_free Less v w = false
is_comparison_free LessEqual v w = false
is_comparison_free Greater v w = false
is_comparison_free GreaterEqual v w = false
is_comparison_free In v w = is_membership_free w
is_comparison_free NotIn v w = is_membership_free w

-- whether `str` has a free answer: on all but int, bool, str and None
abbrev pub is_text_free : Value → Bool
is_text_free (whole n) = false
is_text_free (boolean b) = false
is_text_free (string cs) = false
is_text_free none = false
is_text_free (tuple_of items) = true
is_text_free (location l) = true

-- `str(e)`: the number in digits, `True`, `False`, the text itself, `None`, else a free text
abbrev pub text_outcome : Free → Value → Outcome
text_outcome free (whole n) = gives (string (text_of_number n))
text_outcome free (boolean b) = gives (string (text_of_truth b))
text_outcome free (string cs) = gives (string cs)
text_outcome free none = gives (string (codes "None"))
text_outcome free (tuple_of items) = gives (string free.characters)
text_outcome free (location l) = gives (string free.characters)
