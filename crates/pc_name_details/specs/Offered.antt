-- The details that are found by a walk over names and statements: private to this crate. Own rule of the profile.
use Rattle.std.specs.Prelude.{◌≡◌, Bool as Test, ◌&&◌, not, if◌then◌else◌, Option}
use Rattle.std.specs.Prelude.{Some, None, is_some}
use Rattle.std.specs.BTreeMap.{get}
use Rattle.std.specs.Option.{option_map}
use Rattle.std.specs.Ordering.{is_eq}
use Rattle.std.specs.declared.cmp.Ordering.{Ordering}
use Rattle.pc_source.specs.declared.place.Place.{Place}
use Rattle.pc_tree.specs.contracts.code.FindingOrd.TheImpl.{cmp-value}
use Rattle.pc_tree.specs.declared.code.Code.{Code}
use Rattle.pc_tree.specs.declared.code.Finding.{Finding}
use Rattle.pc_types.specs.Tree.{Tree}
use Rattle.pc_notes.specs.Notes.{is_same_place, is_same_code, or_else}
use Rattle.pc_detail_texts.specs.Details.{Detail}
use Rattle.pc_detail_texts.specs.Mapped.{map_detail}
use Rattle.pc_detail_texts.specs.Sentences.{Words}
use Rattle.pc_detail_texts.specs.Shown.{detail_of_value}
use Rattle.pc_detail_facts.specs.declared.facts.Facts.{Facts}
use Rattle.pc_name_details.specs.declared.offers.Offers.{Offers}
use Rattle.pc_detail_facts.specs.Held.{text_held}

-- ---- what is asked for, and what is kept

-- the order of findings
abbrev pub finding_cmp : Finding → Finding → Ordering
finding_cmp = cmp-value.it

-- two findings are the same
abbrev pub is_same_finding : Finding → Finding → Test
is_same_finding f g = is_eq (finding_cmp g f)

-- whether a finding is asked for
unfoldable pub is_wanted : Offers → Finding → Test
is_wanted o f = is_some (get finding_cmp o.wanted f)

-- the detail that is kept of a finding, if there is one
unfoldable pub kept_of : Offers → Finding → Option (Detail Words)
kept_of o f = option_map detail_of_value (get finding_cmp o.kept f)

-- whether a finding is asked for and has no detail yet
abbrev pub is_still_open : Offers → Finding → Test
is_still_open o f = is_wanted o f && not (is_some (kept_of o f))

-- the detail of a finding is kept, and nothing else changes
pub record KeepsDetail (f : Finding) (d : Detail Words) (old new : Offers) : Type 0 where
  pub wanted : (g : Finding) → is_wanted new g ≡ is_wanted old g
  pub here : kept_of new f ≡ Some d
  pub others : (g : Finding) → ¬ (g ≡ f) → kept_of new g ≡ kept_of old g

-- ---- rules

-- a rule that gives details of findings
abbrev pub Rule : Type 0
Rule = Finding → Option (Detail Tree)

-- a rule of one code
abbrev pub of_code : Code → (Place → Option (Detail Tree)) → Rule
of_code c rule f = if is_same_code c f.code then rule f.place else None

-- a detail at one place
abbrev pub at_place : Place → Option (Detail Tree) → Place → Option (Detail Tree)
at_place q d p = if is_same_place p q then d else None

-- the detail that is kept of a finding after a rule: the one before, else that of the rule, if it is asked for
abbrev pub kept_after : Facts → Offers → Rule → Finding → Option (Detail Words)
kept_after facts o rule f = or_else (kept_of o f)
    (if is_wanted o f then option_map (map_detail (text_held facts)) (rule f) else None)

-- the details that a rule gives are kept: of findings that are asked for and have none yet
pub record AddsDetails (facts : Facts) (rule : Rule) (old new : Offers) : Type 0 where
  pub wanted : (f : Finding) → is_wanted new f ≡ is_wanted old f
  pub kept : (f : Finding) → kept_of new f ≡ kept_after facts old rule f
