-- The texts of explained flows, and the texts of a row. Own rule of the profile.
use denote.Bor.{Bor}
use Rattle.std.specs.Prelude.{◌≡◌, List, Contains, Option, MatchOption}
use Rattle.std.specs.Rc.{rc_str_bytes}
use Rattle.std.specs.declared.rc.RcStr.{RcStr}
use Rattle.std.specs.declared.alloc.Global.{Global}
use Rattle.std.specs.declared.cmp.Ordering.{Ordering}
use Rattle.std.specs.Ordering.{ordering_then, nat_cmp}
use Rattle.std.specs.BTreeMap.{BTreeMap, get}
use Rattle.pc_source.specs.declared.place.Place.{Place}
use Rattle.pc_tree.specs.declared.code.Code.TheVariants.{A1}
use Rattle.pc_tree.specs.declared.code.Finding.{Finding}
use Rattle.pc_report.specs.declared.flow.FlowTexts.{FlowTexts}

-- a place, with the texts of the type of the value there and of the type that it flows into
abbrev pub FlowEntry : Type 0
FlowEntry = Place × RcStr Global × RcStr Global

-- a flow of the list is at the place
abbrev pub HasFlowAt : List FlowEntry → Place → Type 0
HasFlowAt flows place = (f : FlowEntry) × Contains flows f × (f.0 ≡ place)

-- a flow of the list is at the place, with these texts
abbrev pub ListsAt : List FlowEntry → Place → FlowTexts → Type 0
ListsAt flows place texts = (f : FlowEntry) × Contains flows f × (f.0 ≡ place)
    × (rc_str_bytes texts.from ≡ rc_str_bytes f.1) × (rc_str_bytes texts.to ≡ rc_str_bytes f.2)

-- a finding of a flow through `Any` has the texts that the list has at its place, if there are any; other findings have
-- none
abbrev pub IsExplained : List FlowEntry → Finding → Option FlowTexts → Type 0
IsExplained flows finding texts =
    MatchOption texts (finding.code ≡ A1 → ¬ (HasFlowAt flows finding.place))
    (λ t. (finding.code ≡ A1) × ListsAt flows finding.place t)

-- the order of places
abbrev pub place_cmp : Place → Place → Ordering
place_cmp p q = ordering_then (nat_cmp p.start q.start) (nat_cmp p.end q.end)

-- a map has a flow of the list at each place of the list
abbrev pub HasFlows : List FlowEntry → BTreeMap Place (Bor FlowEntry) → Type 0
HasFlows flows m = (p : Place)
    → MatchOption (get place_cmp m p) (¬ (HasFlowAt flows p)) (λ f. Contains flows f.now × (f.now.0 ≡ p))
