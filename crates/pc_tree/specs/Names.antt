-- Contents of sets and maps by name.
use Rattle.std.specs.Prelude.{ℕ, List, map, Option, Some, None, if◌then◌else◌, bytes_eq}
use Rattle.std.specs.Borrow.{Bor}
use Rattle.indexmap.specs.IndexMap.{IndexMap, get_by}
use Rattle.indexmap.specs.IndexSet.{IndexSet}

-- the text that is borrowed
abbrev pub text_seen : Bor (List ℕ) → List ℕ
text_seen t = t.now

-- the texts in a set
abbrev pub texts_in : {S : Type 0} → IndexSet (Bor (List ℕ)) S → List (List ℕ)
texts_in s = map text_seen s.keys

-- the value that a map has at a text, if any
abbrev pub at_text : {V S : Type 0} → IndexMap (Bor (List ℕ)) V S → List ℕ → Option V
at_text m text = get_by (λ k. bytes_eq text k.now) m

-- the first value if there is one, otherwise the second
abbrev pub first_of : {V : Type 0} → Option V → Option V → Option V
first_of (Some v) other = Some v
first_of None other = other

-- this value if the text is this name, otherwise none
abbrev pub bound_as : {V : Type 0} → List ℕ → V → List ℕ → Option V
bound_as name v text = if bytes_eq name text then Some v else None
